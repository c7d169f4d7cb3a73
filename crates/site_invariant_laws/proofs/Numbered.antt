-- One statement of an instance, read for its numbers.
use Rattle.std.proofs.Common.{◌≡◌, ◌≤◌, ◌⊎◌, ⊎_elim, ℕ, Bool, true, false, List, [], ◌∷◌, ◌++◌, length, get_or, Option, refl, sym, ◌∙◌, subst, arith}
use Rattle.std.specs.Prelude.{◌≢◌, nat_eq, ◌&&◌}
use Rattle.std.specs.Ordering.{int_eq}
use Rattle.std.specs.List.{All, AllPairs, Contains}
use Rattle.std.proofs.lemmas.Bool.Decides.{nat_tests}
use Rattle.std.proofs.lemmas.List.Elements.{All-contains_itself, All-contains}
use Rattle.ams_tree.specs.declared.concurrent.Concurrent.{Concurrent}
use Rattle.ams_tree.specs.declared.concurrent.ConcurrentStatement.{ConcurrentStatement}
use Rattle.ams_tree.specs.declared.expression.Name.{Name}
use Rattle.flat_design.specs.Limits.{unknown_limit, threshold_limit}
use Rattle.flat_design.specs.Lists.{same_threshold}
use Rattle.flat_design.specs.declared.objects.Objects.{Objects}
use Rattle.flat_design.specs.declared.objects.Process.{Process}
use Rattle.flat_design.specs.declared.objects.Threshold.{Threshold}
use Rattle.name_scope.specs.declared.scope.Scope.{Scope}
use Rattle.name_scope.specs.declared.thing.Thing.{Thing}
use Rattle.elab_meaning.specs.declared.fault.Notes.{Notes}
use Rattle.unit_meaning.specs.declared.draft.Made.{Made}
use Rattle.unit_meaning.specs.declared.site.Site.{Site}
use Rattle.unit_meaning.specs.Settings.{Setting}
use Rattle.unit_meaning.specs.Concurrent.{concurrent}
use Rattle.unit_meaning.specs.Walk.{numbering, with_statement}
use Rattle.design_rules.specs.Types.{equation_scope}
use Rattle.reading_laws.specs.Growing.{Extends, Grows}
use Rattle.note_laws.specs.Noting.{AreNoted, NotesAlike}
use Rattle.typed_laws.specs.Fitting.{HasRoom}
use Rattle.scope_laws.specs.Holds.{HasNoFaults}
use Rattle.written_laws.specs.Written.{IsWritten}
use Rattle.made_laws.specs.Made.{ArchitectureStands}
use Rattle.driver_laws.proofs.Processes.{statements_drive_once}
use Rattle.site_invariant_laws.specs.Sites.{NotedHolds, SiteHolds}
use Rattle.site_invariant_laws.specs.Premises.{IsMade, CasesStand, StatementsMake}
use Rattle.site_invariant_laws.proofs.Lists.{no_longer, all_among_more, among_more, no_shorter}
use Rattle.site_invariant_laws.proofs.Grown.{Grown, NotedFront, dots_behind, thresholds_behind, grown_behind, noted_behind, objects_behind, equations_behind, processes_behind, drivers_behind, among_behind}
use Rattle.site_invariant_laws.proofs.Scopes.{has_drivers}

like_itself : (a : Threshold) → same_threshold a a ≡ true
like_itself a = grind (arith, nat_tests)

unlike : (a b : Threshold) → same_threshold a b ≡ false → a ≡ b → ⊥
unlike a b h e = let same : same_threshold a b ≡ true = subst (λ (x : Threshold). same_threshold a x ≡ true) e (like_itself a) in absurd (cc)

different : (a b : ℕ) → a ≢ b → a ≡ b → ⊥
different a b h e = h e

-- what is noted is among what is counted
module _ (n : Notes) (s : Site) where
  pub record IsCounted : Type 0 where
    pub dots : All (Contains s.dots) n.dots
    pub thresholds : All (Contains s.thresholds) n.thresholds

  pub few_dots : (final : Objects) → AreNoted final n → IsCounted → length s.dots ≤ unknown_limit → length n.dots ≤ unknown_limit
  few_dots final h c short =
      let few : length n.dots ≤ length s.dots = no_longer ℕ (λ a b. a ≢ b) different n.dots s.dots h.dots_once c.dots in omega (arith, few, short)

  pub few_thresholds : (final : Objects) → AreNoted final n → IsCounted → length s.thresholds ≤ threshold_limit → length n.thresholds ≤ threshold_limit
  few_thresholds final h c short =
      let few : length n.thresholds ≤ length s.thresholds = no_longer Threshold (λ a b. same_threshold a b ≡ false) unlike n.thresholds s.thresholds h.thresholds_once c.thresholds in
      omega (arith, few, short)

-- a second reading notes what was counted, or what has a number already
module _ (final : Objects) (s : Site) (m on to : Notes) (alike : NotesAlike final (numbering s) m on to) where
  pub counted_behind : Extends ℕ to.dots s.dots → Extends Threshold to.thresholds s.thresholds → length to.dots ≤ unknown_limit → length to.thresholds ≤ threshold_limit
      → All (Contains s.dots) s.objects.dots → All (Contains s.thresholds) s.objects.thresholds → IsCounted on s
  counted_behind d t short few h k =
      record {
        dots = λ i e lt.
            let q = get_or on.dots i e in
            ⊎_elim (λ old. All-contains (Contains s.dots) s.objects.dots q h old) (λ new. among_more ℕ to.dots s.dots d q new) (alike.dots short q (All-contains_itself on.dots i e lt));
        thresholds = λ i e lt.
            let q = get_or on.thresholds i e in
            ⊎_elim (λ old. All-contains (Contains s.thresholds) s.objects.thresholds q k old) (λ new. among_more Threshold to.thresholds s.thresholds t q new)
            (alike.thresholds few q (All-contains_itself on.thresholds i e lt));
      }

-- ---- the site behind a statement

pub noted_holds : (final : Objects) (s : Site) (n : Notes) (m : Made) → AreNoted final n → IsCounted n s → NotedHolds final s → NotedHolds final (with_statement (n, m) s)
noted_holds final s n m noted counted h =
    record {
      noted = noted_behind n s final m noted;
      dots = subst (All (Contains s.dots)) (sym (dots_behind n s m)) counted.dots;
      thresholds = subst (All (Contains s.thresholds)) (sym (thresholds_behind n s m)) counted.thresholds;
      dot_limit = h.dot_limit;
      threshold_limit_kept = h.threshold_limit_kept;
    }

module _ (final : Objects) (make : StatementsMake final) (w : Setting) (Also : Thing → Bool) (scope : Scope) (stands : ArchitectureStands final w Also scope) (cases : CasesStand final w scope)
    (label : Option Name) (x : ConcurrentStatement) (written : IsWritten x) (s : Site) where
  abbrev found : Notes × Made
  found = concurrent w scope label x (numbering s)

  abbrev behind : Site
  behind = with_statement (found.0, found.1) s

  pub statement_holds : HasNoFaults found.0 → AreNoted final found.0 → IsCounted found.0 s → NotedFront behind.objects final → SiteHolds final s → SiteHolds final behind
  statement_holds none noted counted front h =
      let dots : length found.0.dots ≤ length final.dots =
      no_shorter ℕ found.0.dots final.dots (subst (λ (l : List ℕ). Extends ℕ l final.dots) (dots_behind found.0 s found.1) front.dots) in
      let thresholds : length found.0.thresholds ≤ length final.thresholds =
      no_shorter Threshold found.0.thresholds final.thresholds (subst (λ (l : List Threshold). Extends Threshold l final.thresholds) (thresholds_behind found.0 s found.1) front.thresholds) in
      let room : HasRoom (equation_scope final) found.0 =
      record {
        dots = dots;
        dot_limit = few_dots found.0 s final noted counted h.counted.dot_limit;
        thresholds = thresholds;
        threshold_limit_kept = few_thresholds found.0 s final noted counted h.counted.threshold_limit_kept;
      } in
      let is : IsMade final found.1 = make w Also scope label x (numbering s) stands cases written none room in
      record {
        objects = objects_behind found.0 s final found.1 h.objects;
        equations = equations_behind found.0 s final found.1 is h.equations;
        processes = processes_behind found.0 s final found.1 is h.processes;
        drivers = drivers_behind found.0 s final (λ p k once. has_drivers final p k once) found.1 is (statements_drive_once w scope label x (numbering s)) h.drivers;
        counted = noted_holds final s found.0 found.1 noted counted h.counted;
      }
