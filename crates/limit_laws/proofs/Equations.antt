-- Equations over the walk.
use Rattle.std.proofs.Common.{◌≡◌, ◌≤◌, ℕ, zero, suc, ◌+◌, ◌*◌, Bool, true, false, if◌then◌else◌, List, [], ◌∷◌, length, Option, Some, None, IfSome, Ok, refl, sym, ap, subst, ◌∙◌, arith, length-append}
use Rattle.std.specs.List.{All}
use Rattle.std.proofs.lemmas.List.Elements.{All-nil, All-head, All-tail, All-push, All-weaker}
use Rattle.ams_tree.specs.declared.concurrent.Concurrent.{Concurrent}
use Rattle.ams_tree.specs.declared.design.Architecture.{Architecture}
use Rattle.ams_tree.specs.declared.design.DesignUnit.{DesignUnit}
use Rattle.ams_tree.specs.declared.design.DesignUnit.TheVariants as unit
use Rattle.ams_tree.specs.declared.design.Entity.{Entity}
use Rattle.flat_design.specs.Limits.{instance_limit}
use Rattle.flat_design.specs.declared.objects.Instance.{Instance}
use Rattle.elab_meaning.specs.declared.fault.Notes.{Notes}
use Rattle.unit_meaning.specs.declared.draft.Made as draft
use Rattle.unit_meaning.specs.declared.draft.Made.TheVariants as made
use Rattle.unit_meaning.specs.declared.request.Request.{Request}
use Rattle.unit_meaning.specs.declared.site.Site.{Site}
use Rattle.unit_meaning.specs.Associations.{is_asked, or_this, architecture_in}
use Rattle.unit_meaning.specs.Concurrent.{concurrent}
use Rattle.unit_meaning.specs.Units.{opened}
use Rattle.unit_meaning.specs.Walk.{Entry, Around, instance_of, lessened, out_count, numbering, with_statement, first_site, top_request, walked}
use Rattle.design_rules.specs.Branches.{HasFewBranches}
use Rattle.walk_laws.specs.Steps.{begun, around_body, IsEntered}
use Rattle.walk_laws.proofs.Induction.{WalkRules, walk_keeps, no_answer}
use Rattle.object_laws.specs.Adding.{AddsObjects}
use Rattle.object_laws.proofs.Adding.{adds_on}
use Rattle.object_laws.proofs.Interface.{entering_adds_objects}
use Rattle.site_laws.proofs.Whole.{walked_sites_hold}
use Rattle.short_laws.specs.Short.{BranchesAreFew, IsShort, UnitIsShort}
use Rattle.limit_laws.specs.Limits.{MadeFew as MadeFewIn}
use Rattle.limit_laws.proofs.Statements.{MadeFew, statement_few}

-- ---- the architecture of an instance is one of the text

module _ (P : Architecture → Type 0) where
  abbrev OfUnit : DesignUnit → Type 0
  OfUnit (unit.Architecture a) = P a
  OfUnit u = Unit {0}

  this_or : (o : Option Architecture) (a : Architecture) (x : ℕ) (y : Option ℕ) → IfSome o P → P a → IfSome (or_this o a x y) P
  this_or (Some later) a x y h k = h
  this_or None a x y h k = go (is_asked a x y)
    where
      go : (b : Bool) → IfSome (if b then Some a else None) P
      go true = k
      go false = tt

  found_of : (units : List DesignUnit) (x : ℕ) (y : Option ℕ) → All OfUnit units → IfSome (architecture_in units x y) P
  found_of [] x y h = tt
  found_of (unit.Architecture a ∷ more) x y h =
      this_or (architecture_in more x y) a x y (found_of more x y (All-tail OfUnit (unit.Architecture a) more h)) (All-head OfUnit (unit.Architecture a) more h)
  found_of (u ∷ more) x y h = found_of more x y (All-tail OfUnit u more h)

one_unit : (u : DesignUnit) → UnitIsShort u → OfUnit IsShort u
one_unit (unit.Architecture b) k = k
one_unit _ k = tt

each_unit : (us : List DesignUnit) → All UnitIsShort us → All (OfUnit IsShort) us
each_unit us k = All-weaker UnitIsShort (OfUnit IsShort) one_unit us k

still_long : (i k : ℕ) (xs : List Instance) → length (lessened i k xs) ≡ length xs
still_long i k [] = refl
still_long zero k (x ∷ more) = refl
still_long (suc i) k (x ∷ more) = ap suc (still_long i k more)

-- ---- what a part of the walk adds

record Adds (w : ℕ) (s t : Site) : Type 0 where
  longer : length s.objects.instances ≤ length t.objects.instances
  few : length t.objects.equations + 1048576 * length s.objects.instances ≤ length s.objects.equations + 1048576 * length t.objects.instances + w
  branches : All HasFewBranches s.objects.equations → All HasFewBranches t.objects.equations

made_adds : (n : Notes) (m : draft.Made) (s : Site) → MadeFew m → Adds 1 s (with_statement (n, m) s)
made_adds n (made.Process p) s h = record { longer = omega arith; few = omega arith; branches = λ k. k }
made_adds n (made.Equation q) s h =
    record {
      longer = omega arith;
      few = omega (arith, length-append s.objects.equations (q ∷ []));
      branches = λ k. All-push HasFewBranches s.objects.equations q k h;
    }
made_adds n made.Nothing s h = record { longer = omega arith; few = omega arith; branches = λ k. k }

module _ (texts : List (List ℕ)) (units : List DesignUnit) (short : All UnitIsShort units) where
  abbrev Enters : Request → Site → Site → Type 0
  Enters r s t = Adds 0 s t

  abbrev Few : Concurrent → Type 0
  Few c = BranchesAreFew c.statement

  abbrev Runs : Around → List Concurrent → Site → Site → Type 0
  Runs at todo s t = All Few todo → Adds (length todo) s t

  one_more : (k : ℕ) (s t : Site) → Adds k s t → Adds (suc k) s t
  one_more k s t p = record { longer = p.longer; few = omega (arith, p.few); branches = p.branches }

  behind_instance : (c : Concurrent) (more : List Concurrent) (s u t : Site) → Adds 0 s u → (All Few more → Adds (length more) u t) → All Few (c ∷ more) → Adds (length (c ∷ more)) s t
  behind_instance c more s u t p q h =
      let rest = q (All-tail Few c more h) in
      record { longer = omega (arith, p.longer, rest.longer); few = omega (arith, p.few, rest.few); branches = λ k. rest.branches (p.branches k) }

  behind_statement : (at : Around) (c : Concurrent) (more : List Concurrent) (s t : Site) → Runs at more (with_statement (concurrent at.setting at.scope c.label c.statement (numbering s)) s) t → Runs at (c ∷ more) s t
  behind_statement at c more s t q h =
      let found = concurrent at.setting at.scope c.label c.statement (numbering s) in
      let u = with_statement found s in
      let one = made_adds found.0 found.1 s (statement_few at.setting at.scope c.label c.statement (numbering s) (All-head Few c more h)) in
      let rest = q (All-tail Few c more h) in
      record { longer = omega (arith, one.longer, rest.longer); few = omega (arith, one.few, rest.few); branches = λ k. rest.branches (one.branches k) }

  module _ (r : Request) (s t : Site) (e : Entity) (a : Architecture) (entry : Entry) (h : IsEntered texts units r s e a entry) where
    abbrev start : Site
    start = begun texts units r e a entry s

    is_short : IsShort a
    is_short = subst (λ (o : Option Architecture). IfSome o IsShort) h.architecture_is (found_of IsShort units r.entity r.architecture (each_unit units short))

    added : AddsObjects s.objects (opened texts a entry.book).objects
    added =
        adds_on s.objects entry.book.objects (opened texts a entry.book).objects
        (subst (λ (o : Option Entry). IfSome o (λ (x : Entry). AddsObjects s.objects x.book.objects)) h.entry_is (entering_adds_objects.interface texts r e s))
        (entering_adds_objects.declarations texts a entry.book)

    one_instance : length start.objects.instances ≡ length s.objects.instances + 1
    one_instance =
        let old = (opened texts a entry.book).objects.instances in
        length-append (lessened r.outer (out_count e.ports) old) (instance_of r e a ∷ [])
        ∙ (ap (λ n. n + 1) (still_long r.outer (out_count e.ports) old) ∙ ap (λ (l : List Instance). length l + 1) added.instances)

    behind_body : Runs (around_body texts r a entry s) a.statements start t → Enters r s t
    behind_body q =
        let k = q is_short.branches in
        let same : length start.objects.equations ≡ length s.objects.equations = ap length added.equations in
        record {
          longer = omega (arith, k.longer, one_instance);
          few = omega (arith, k.few, one_instance, same, is_short.statements);
          branches = λ old. k.branches (subst (All HasFewBranches) (sym added.equations) old);
        }

  rules : WalkRules texts units Enters Runs
  rules =
      record {
        nothing = λ at s h. record { longer = omega arith; few = omega arith; branches = λ k. k };
        instance = λ at c more x i s u t l k p q. behind_instance c more s u t p q;
        unlabelled = λ at c more i s t l k q h. one_more (length more) s t (q (All-tail Few c more h));
        statement = λ at c more s t plain q. behind_statement at c more s t q;
        body = λ r s t e a entry h q. behind_body r s t e a entry h q;
      }

  pub few_equations : (top : List ℕ) (x : Option ℕ) (s : Site) → walked texts units top x ≡ Ok s → MadeFewIn s
  few_equations top None s h = no_answer _ s h
  few_equations top (Some x) s h =
      let k : Adds 0 first_site s = walk_keeps texts units Enters Runs rules instance_limit [] (top_request top x) first_site s h in
      let instances = (walked_sites_hold.whole texts units top (Some x) s h).instances in
      record { equations = omega (arith, k.few, instances); branches = k.branches (All-nil HasFewBranches) }
