-- What a statement adds to a site, and sites that follow one another.
use Rattle.std.proofs.Common.{◌≡◌, ℕ, List, [], ◌∷◌, ◌++◌, Option, refl, sym, ap, ◌∙◌, subst}
use Rattle.std.specs.List.{All, Contains}
use Rattle.std.proofs.lemmas.List.Elements.{All-push, All-weaker, Contains-push}
use Rattle.ams_tree.specs.declared.concurrent.Concurrent.{Concurrent}
use Rattle.flat_design.specs.declared.objects.Equation.{Equation}
use Rattle.flat_design.specs.declared.objects.Process.{Process}
use Rattle.flat_design.specs.declared.objects.Objects.{Objects}
use Rattle.flat_design.specs.declared.objects.Threshold.{Threshold}
use Rattle.name_scope.specs.declared.scope.Scope.{Scope}
use Rattle.elab_meaning.specs.declared.fault.Notes.{Notes}
use Rattle.unit_meaning.specs.declared.draft.Made.{Made}
use Rattle.unit_meaning.specs.declared.draft.Made.TheVariants as made
use Rattle.unit_meaning.specs.declared.site.Site.{Site}
use Rattle.unit_meaning.specs.Settings.{Setting}
use Rattle.unit_meaning.specs.Walk.{numbering, with_statement}
use Rattle.design_rules.specs.Equations.{IsEquation}
use Rattle.design_rules.specs.Design.{IsProcess}
use Rattle.reading_laws.specs.Growing.{Extends}
use Rattle.note_laws.specs.Noting.{AreNoted}
use Rattle.scope_laws.specs.Holds.{StandsBefore}
use Rattle.declaration_laws.specs.Books.{ObjectsHold}
use Rattle.object_laws.proofs.Adding.{extends_same, extends_on}
use Rattle.site_laws.specs.Sites.{IsFront}
use Rattle.checked_laws.specs.Checked.{HasDrivers}
use Rattle.driver_laws.specs.Driven.{DrivesOnce}
use Rattle.site_invariant_laws.specs.Sites.{IsAmong, MadeIn, IsMadeIn}
use Rattle.site_invariant_laws.specs.Premises.{IsMade}
use Rattle.site_invariant_laws.proofs.Lists.{among_more}

-- ---- dots and thresholds of sites

-- those that have numbers, and those that are counted, are only added to
pub record Grown (s t : Site) : Type 0 where
  pub dots : Extends ℕ s.objects.dots t.objects.dots
  pub thresholds : Extends Threshold s.objects.thresholds t.objects.thresholds
  pub counted_dots : Extends ℕ s.dots t.dots
  pub counted_thresholds : Extends Threshold s.thresholds t.thresholds

pub grown_same : (s : Site) → Grown s s
grown_same s =
    record {
      dots = extends_same ℕ s.objects.dots;
      thresholds = extends_same Threshold s.objects.thresholds;
      counted_dots = extends_same ℕ s.dots;
      counted_thresholds = extends_same Threshold s.thresholds;
    }

pub grown_on : (s u t : Site) → Grown s u → Grown u t → Grown s t
grown_on s u t p q =
    record {
      dots = extends_on ℕ s.objects.dots u.objects.dots t.objects.dots p.dots q.dots;
      thresholds = extends_on Threshold s.objects.thresholds u.objects.thresholds t.objects.thresholds p.thresholds q.thresholds;
      counted_dots = extends_on ℕ s.dots u.dots t.dots p.counted_dots q.counted_dots;
      counted_thresholds = extends_on Threshold s.thresholds u.thresholds t.thresholds p.counted_thresholds q.counted_thresholds;
    }

-- they stand at the front of those of the final design
pub record NotedFront (early final : Objects) : Type 0 where
  pub dots : Extends ℕ early.dots final.dots
  pub thresholds : Extends Threshold early.thresholds final.thresholds

pub noted_before : (final : Objects) (s t : Site) → Grown s t → NotedFront t.objects final → NotedFront s.objects final
noted_before final s t g h =
    record {
      dots = extends_on ℕ s.objects.dots t.objects.dots final.dots g.dots h.dots;
      thresholds = extends_on Threshold s.objects.thresholds t.objects.thresholds final.thresholds g.thresholds h.thresholds;
    }

pub stands_of : (a b : Objects) → IsFront a b → StandsBefore a b
stands_of a b h = record { enumerations = h.enumerations; signals = h.signals; quantities = h.quantities; nodes = h.nodes }

-- ---- a statement

module _ (n : Notes) (s : Site) where
  pub dots_behind : (m : Made) → (with_statement (n, m) s).objects.dots ≡ n.dots
  dots_behind (made.Process p) = refl
  dots_behind (made.Equation q) = refl
  dots_behind made.Nothing = refl

  pub thresholds_behind : (m : Made) → (with_statement (n, m) s).objects.thresholds ≡ n.thresholds
  thresholds_behind (made.Process p) = refl
  thresholds_behind (made.Equation q) = refl
  thresholds_behind made.Nothing = refl

  pub grown_behind : (m : Made) → Extends ℕ s.objects.dots n.dots → Extends Threshold s.objects.thresholds n.thresholds → Grown s (with_statement (n, m) s)
  grown_behind m h k =
      record {
        dots = subst (Extends ℕ s.objects.dots) (sym (dots_behind m)) h;
        thresholds = subst (Extends Threshold s.objects.thresholds) (sym (thresholds_behind m)) k;
        counted_dots = extends_same ℕ s.dots;
        counted_thresholds = extends_same Threshold s.thresholds;
      }

  pub noted_behind : (final : Objects) (m : Made) → AreNoted final n → AreNoted final (numbering (with_statement (n, m) s))
  noted_behind final (made.Process p) h = record { dots = h.dots; dots_once = h.dots_once; thresholds = h.thresholds; thresholds_once = h.thresholds_once }
  noted_behind final (made.Equation q) h = record { dots = h.dots; dots_once = h.dots_once; thresholds = h.thresholds; thresholds_once = h.thresholds_once }
  noted_behind final made.Nothing h = record { dots = h.dots; dots_once = h.dots_once; thresholds = h.thresholds; thresholds_once = h.thresholds_once }

  pub objects_behind : (final : Objects) (m : Made) → ObjectsHold final s.objects → ObjectsHold final (with_statement (n, m) s).objects
  objects_behind final (made.Process p) h = record { signals = h.signals; quantities = h.quantities; enumerations = h.enumerations; enumeration_count = h.enumeration_count }
  objects_behind final (made.Equation q) h = record { signals = h.signals; quantities = h.quantities; enumerations = h.enumerations; enumeration_count = h.enumeration_count }
  objects_behind final made.Nothing h = record { signals = h.signals; quantities = h.quantities; enumerations = h.enumerations; enumeration_count = h.enumeration_count }

  pub equations_behind : (final : Objects) (m : Made) → IsMade final m → All (IsEquation final) s.objects.equations → All (IsEquation final) (with_statement (n, m) s).objects.equations
  equations_behind final (made.Process p) is h = h
  equations_behind final (made.Equation q) is h = All-push (IsEquation final) s.objects.equations q h is
  equations_behind final made.Nothing is h = h

  pub processes_behind : (final : Objects) (m : Made) → IsMade final m → All (IsProcess final) s.objects.processes → All (IsProcess final) (with_statement (n, m) s).objects.processes
  processes_behind final (made.Process p) is h = All-push (IsProcess final) s.objects.processes p h is
  processes_behind final (made.Equation q) is h = h
  processes_behind final made.Nothing is h = h

  pub drivers_behind : (final : Objects) → ((p : Process) → IsProcess final p → DrivesOnce (made.Process p) → HasDrivers final p)
      → (m : Made) → IsMade final m → DrivesOnce m → All (HasDrivers final) s.objects.processes → All (HasDrivers final) (with_statement (n, m) s).objects.processes
  drivers_behind final rule (made.Process p) is once h = All-push (HasDrivers final) s.objects.processes p h (rule p is once)
  drivers_behind final rule (made.Equation q) is once h = h
  drivers_behind final rule made.Nothing is once h = h

  pub among_behind : (m : Made) → IsAmong (with_statement (n, m) s).objects m
  among_behind (made.Process p) = Contains-push s.objects.processes p
  among_behind (made.Equation q) = Contains-push s.objects.equations q
  among_behind made.Nothing = tt

-- ---- what is made stays

pub among_later : (early late : Objects) → IsFront early late → (m : Made) → IsAmong early m → IsAmong late m
among_later early late f (made.Process p) h = among_more Process early.processes late.processes f.processes p h
among_later early late f (made.Equation q) h = among_more Equation early.equations late.equations f.equations q h
among_later early late f made.Nothing h = tt

module _ (w : Setting) (scope : Scope) (early late : Objects) (f : IsFront early late) (h : NotedFront early late) where
  made_later : (c : Concurrent) → MadeIn early w scope c → MadeIn late w scope c
  made_later c k =
      record {
        before = k.before;
        fine = k.fine;
        dot_limit = k.dot_limit;
        dots = extends_on ℕ _ early.dots late.dots k.dots h.dots;
        thresholds = extends_on Threshold _ early.thresholds late.thresholds k.thresholds h.thresholds;
        among = among_later early late f _ k.among;
      }

  pub all_later : (all : List Concurrent) → All (IsMadeIn early w scope) all → All (IsMadeIn late w scope) all
  all_later all k = All-weaker (IsMadeIn early w scope) (IsMadeIn late w scope) (λ c is plain. made_later c (is plain)) all k
