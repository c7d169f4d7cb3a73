-- A statement that is walked adds an equation or a process at most.
use Rattle.std.proofs.Common.{◌≡◌, ◌≤◌, ℕ, zero, suc, ◌+◌, Bool, true, false, if◌then◌else◌, List, [], ◌∷◌, ◌++◌, length, Option, Some, None, refl, sym, ap, ◌∙◌, subst, arith, length-append}
use Rattle.ams_tree.specs.declared.expression.Name.{Name}
use Rattle.ams_tree.specs.declared.concurrent.ConcurrentStatement.{ConcurrentStatement}
use Rattle.ams_tree.specs.declared.concurrent.ConcurrentStatement.TheVariants as conc
use Rattle.flat_design.specs.declared.objects.Signal.{Signal}
use Rattle.flat_design.specs.declared.objects.Quantity.{Quantity}
use Rattle.flat_design.specs.declared.objects.Node.{Node}
use Rattle.flat_design.specs.declared.objects.Equation.{Equation}
use Rattle.flat_design.specs.declared.objects.Process.{Process}
use Rattle.flat_design.specs.declared.objects.Enumeration.{Enumeration}
use Rattle.flat_design.specs.declared.objects.Objects.{Objects}
use Rattle.name_scope.specs.declared.scope.Scope.{Scope}
use Rattle.elab_meaning.specs.declared.fault.Notes.{Notes}
use Rattle.elab_meaning.specs.declared.part.Part.{Part}
use Rattle.elab_meaning.specs.declared.part.Part.TheVariants.{Kept, Wrong, Hidden}
use Rattle.unit_meaning.specs.declared.draft.Made.{Made}
use Rattle.unit_meaning.specs.declared.draft.Made.TheVariants as made
use Rattle.unit_meaning.specs.declared.site.Site.{Site}
use Rattle.unit_meaning.specs.Settings.{Setting}
use Rattle.unit_meaning.specs.Concurrent.{process_of, equation_of, concurrent}
use Rattle.unit_meaning.specs.Walk.{is_process, with_made, with_statement}
use Rattle.walk_laws.specs.Steps.{IsNoInstance}
use Rattle.object_laws.proofs.Adding.{extends_same, extends_one}
use Rattle.site_laws.specs.Sites.{IsFront}

-- ---- lists

pub made_front : (n : Notes) (m : Made) (s : Site) → IsFront s.objects (with_statement (n, m) s).objects
made_front n (made.Process p) s =
    record {
      enumerations = extends_same Enumeration s.objects.enumerations;
      signals = extends_same Signal s.objects.signals;
      quantities = extends_same Quantity s.objects.quantities;
      nodes = extends_same Node s.objects.nodes;
      equations = extends_same Equation s.objects.equations;
      processes = extends_one Process s.objects.processes p;
      ramps = refl;
    }
made_front n (made.Equation q) s =
    record {
      enumerations = extends_same Enumeration s.objects.enumerations;
      signals = extends_same Signal s.objects.signals;
      quantities = extends_same Quantity s.objects.quantities;
      nodes = extends_same Node s.objects.nodes;
      equations = extends_one Equation s.objects.equations q;
      processes = extends_same Process s.objects.processes;
      ramps = refl;
    }
made_front n made.Nothing s =
    record {
      enumerations = extends_same Enumeration s.objects.enumerations;
      signals = extends_same Signal s.objects.signals;
      quantities = extends_same Quantity s.objects.quantities;
      nodes = extends_same Node s.objects.nodes;
      equations = extends_same Equation s.objects.equations;
      processes = extends_same Process s.objects.processes;
      ramps = refl;
    }

-- ---- instances

pub same_instances : (n : Notes) (m : Made) (s : Site) → (with_statement (n, m) s).objects.instances ≡ s.objects.instances
same_instances n (made.Process p) s = refl
same_instances n (made.Equation q) s = refl
same_instances n made.Nothing s = refl

-- ---- processes

abbrev pub one_if : Bool → ℕ
one_if b = if b then 1 else 0

abbrev made_processes : Made → List Process → List Process
made_processes (made.Process p) ps = ps ++ p ∷ []
made_processes (made.Equation q) ps = ps
made_processes made.Nothing ps = ps

pub processes_are : (n : Notes) (m : Made) (s : Site) → (with_statement (n, m) s).objects.processes ≡ made_processes m s.objects.processes
processes_are n (made.Process p) s = refl
processes_are n (made.Equation q) s = refl
processes_are n made.Nothing s = refl

one_longer : (ps : List Process) (p : Process) → length (ps ++ p ∷ []) ≡ length ps + 1
one_longer ps p = length-append ps (p ∷ [])

of_process : (f : Part Process) (ps : List Process) → length (made_processes (process_of f) ps) ≤ length ps + 1
of_process (Kept p) ps = omega (arith, one_longer ps p)
of_process Wrong ps = omega arith
of_process Hidden ps = omega arith

of_equation : (f : Part Equation) (ps : List Process) → length (made_processes (equation_of f) ps) ≤ length ps + 0
of_equation (Kept q) ps = omega arith
of_equation Wrong ps = omega arith
of_equation Hidden ps = omega arith

pub few_made : (w : Setting) (scope : Scope) (label : Option Name) (x : ConcurrentStatement) (n : Notes) (ps : List Process) → IsNoInstance x
    → length (made_processes (concurrent w scope label x n).1 ps) ≤ length ps + one_if (is_process x)
few_made w scope label (conc.Process p) n ps h = of_process _ ps
few_made w scope label (conc.Assign x d all last when) n ps h = of_process _ ps
few_made w scope label (conc.Assert a) n ps h = of_process _ ps
few_made w scope label (conc.Break p all names when) n ps h = of_process _ ps
few_made w scope label (conc.Equation q) n ps h = of_equation _ ps
few_made w scope label (conc.If p all last) n ps h = of_equation _ ps
few_made w scope label (conc.Case p x all) n ps h = of_equation _ ps
few_made w scope label (conc.Instance i) n ps h = absurd h

pub few_more : (w : Setting) (scope : Scope) (label : Option Name) (x : ConcurrentStatement) (n : Notes) (s : Site) → IsNoInstance x
    → length (with_statement (concurrent w scope label x n) s).objects.processes ≤ length s.objects.processes + one_if (is_process x)
few_more w scope label x n s h =
    let found = concurrent w scope label x n in
    subst (λ (ps : List Process). length ps ≤ length s.objects.processes + one_if (is_process x)) (sym (processes_are found.0 found.1 s))
    (few_made w scope label x n s.objects.processes h)
