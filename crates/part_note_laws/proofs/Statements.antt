-- Concurrent and simultaneous statements, read twice.
use Rattle.std.proofs.Common.{ℕ, Bool, true, false, if◌then◌else◌, List, [], ◌∷◌, Option, Some, None}
use Rattle.ams_token.specs.declared.token.Place.{Place}
use Rattle.ams_tree.specs.declared.concurrent.ConditionalWaveform.{ConditionalWaveform}
use Rattle.ams_tree.specs.declared.concurrent.Equation.{Equation}
use Rattle.ams_tree.specs.declared.concurrent.SimultaneousAlternative.{SimultaneousAlternative}
use Rattle.ams_tree.specs.declared.concurrent.SimultaneousBranch.{SimultaneousBranch}
use Rattle.ams_tree.specs.declared.expression.Expr.{Expr}
use Rattle.ams_tree.specs.declared.expression.Name.{Name}
use Rattle.ams_tree.specs.declared.sequential.Assertion.{Assertion}
use Rattle.ams_tree.specs.declared.sequential.BreakElement.{BreakElement}
use Rattle.ams_tree.specs.declared.sequential.Choice.{Choice}
use Rattle.ams_tree.specs.declared.sequential.Choice.TheVariants as choice
use Rattle.ams_tree.specs.declared.sequential.DelayMechanism.{DelayMechanism}
use Rattle.ams_tree.specs.declared.sequential.WaveformElement.{WaveformElement}
use Rattle.ams_value.specs.declared.value_type.ValueType.TheVariants as t
use Rattle.flat_design.specs.declared.objects.IfArm.{IfArm}
use Rattle.flat_design.specs.declared.objects.Objects.{Objects}
use Rattle.flat_design.specs.declared.objects.Pair.{Pair}
use Rattle.name_scope.specs.declared.thing.Kind.{Kind}
use Rattle.name_scope.specs.declared.thing.Kind.TheVariants.{Of}
use Rattle.name_scope.specs.declared.thing.Subtype.{Subtype}
use Rattle.name_scope.specs.declared.scope.Scope.{Scope}
use Rattle.elab_meaning.specs.declared.fault.Cause.TheVariants.{UnequalBranches}
use Rattle.elab_meaning.specs.declared.fault.Notes.{Notes}
use Rattle.elab_meaning.specs.declared.part.Part.{Part}
use Rattle.elab_meaning.specs.declared.typed.Context.{Context}
use Rattle.elab_meaning.specs.Notes.{noted}
use Rattle.elab_meaning.specs.Parts.{part_of, where_true, judged, both}
use Rattle.elab_meaning.specs.Expressions.{static, static_in}
use Rattle.unit_meaning.specs.declared.draft.Seen.{Seen}
use Rattle.unit_meaning.specs.Settings.{Setting, equating, choosing, typed, must_be, condition, listed}
use Rattle.unit_meaning.specs.Bare.{sensitivity, break_elements}
use Rattle.unit_meaning.specs.Waveforms.{target, mechanism, waveform}
use Rattle.unit_meaning.specs.Cases.{place_of, choosing_value, one_choice, seen_or, choices, nothing_seen}
use Rattle.unit_meaning.specs.Sequential.{assertion_parts, kind_known}
use Rattle.unit_meaning.specs.Processes.{Wave, wave, conditional, concurrent_assignment, concurrent_assertion, concurrent_break}
use Rattle.unit_meaning.specs.Simultaneous.{pair_of, pair, pairs, same_lengths, compared, if_arm, last_arm, if_lengths, if_statement, case_arms, case_lengths, case_statement}
use Rattle.reading_laws.specs.Growing.{Grows}
use Rattle.reading_laws.proofs.Growing.{grows_same, grows_noted}
use Rattle.note_laws.specs.Noting.{NamesAreNotable}
use Rattle.note_laws.proofs.Notes.{SameLists, lists_same, lists_noted, Alike, alike_same, alike_quiet, alike_on}
use Rattle.note_laws.proofs.Reading.{static_like}
use Rattle.part_note_laws.specs.Parts.{EachNotesAlike}
use Rattle.part_note_laws.proofs.Parts.{finished_alike, listed_alike, typed_alike, must_alike, condition_alike, sensitivity_alike, breaks_alike, assertion_alike, target_alike, mechanism_alike, waveform_alike}

module _ (objects : Objects) (w : Setting) (scope : Scope) (notable : NamesAreNotable objects scope) where
  -- ---- equations

  pair_alike : (q : Equation) (n m : Notes) → Alike objects n m (pair w scope q n).0 (pair w scope q m).0
  pair_alike q n m =
      let a = typed w scope equating q.left n in
      let b = typed w scope equating q.left m in
      let c = typed w scope equating q.right a.0 in
      let d = typed w scope equating q.right b.0 in
      finished_alike objects Pair (place_of q.left) (both pair_of a.1 c.1) (both pair_of b.1 d.1) n m c.0 d.0
      (alike_on objects n m a.0 b.0 c.0 d.0 (typed_alike objects w scope notable equating q.left n m) (typed_alike objects w scope notable equating q.right a.0 b.0))

  pairs_alike : (all : List Equation) (n m : Notes) → Alike objects n m (pairs w scope all n).0 (pairs w scope all m).0
  pairs_alike all n m = listed_alike objects Pair Equation (pair w scope) (pair w scope) pair_alike all n m

  -- ---- choices

  pub choice_alike : (c : Context) (k l : Option Kind) (s u : Seen) (x : Choice) (n m : Notes) → Alike objects n m (one_choice w scope c k s x n).0 (one_choice w scope c l u x m).0
  choice_alike c k l s u (choice.Value x) n m =
      let a = static w.texts scope x c n in
      let b = static w.texts scope x c m in
      finished_alike objects Seen (place_of x) (judged (choosing_value k s) (part_of a.1)) (judged (choosing_value l u) (part_of b.1)) n m a.0 b.0 (static_like objects w.texts scope notable x c n m).notes
  choice_alike c k l s u (choice.Others place) n m =
      finished_alike objects Seen place (where_true _ (record s { others = true })) (where_true _ (record u { others = true })) n m n m (alike_same objects n m)

  pub choices_alike : (c : Context) (k l : Option Kind) (s u : Seen) (all : List Choice) (n m : Notes) → Alike objects n m (choices w scope c k s all n).0 (choices w scope c l u all m).0
  choices_alike c k l s u [] n m = alike_same objects n m
  choices_alike c k l s u (x ∷ more) n m =
      let a = one_choice w scope c k s x n in
      let b = one_choice w scope c l u x m in
      alike_on objects n m a.0 b.0 (choices w scope c k (seen_or s a.1) more a.0).0 (choices w scope c l (seen_or u b.1) more b.0).0 (choice_alike c k l s u x n m)
      (choices_alike c k l (seen_or s a.1) (seen_or u b.1) more a.0 b.0)

  -- ---- simultaneous if and case

  compared_alike : (place : Place) (lengths : List ℕ) (n m : Notes) → Alike objects n m (compared place lengths n) (compared place lengths m)
  compared_alike place lengths n m =
      alike_quiet objects n m (compared place lengths n) (compared place lengths m) (goes n (same_lengths lengths)) (goes m (same_lengths lengths)) (same n (same_lengths lengths))
    where
      goes : (n : Notes) (b : Bool) → Grows n (if b then n else noted place UnequalBranches n)
      goes n true = grows_same n
      goes n false = grows_noted place UnequalBranches n

      same : (n : Notes) (b : Bool) → SameLists n (if b then n else noted place UnequalBranches n)
      same n true = lists_same n
      same n false = lists_noted place UnequalBranches n

  arm_alike : (b : SimultaneousBranch) (n m : Notes) → Alike objects n m (if_arm w scope b n).0 (if_arm w scope b m).0
  arm_alike b n m =
      let u = must_be w scope choosing (Of t.Boolean) b.condition n in
      let v = must_be w scope choosing (Of t.Boolean) b.condition m in
      alike_on objects n m u.0 v.0 (pairs w scope b.equations u.0).0 (pairs w scope b.equations v.0).0 (must_alike objects w scope notable choosing (Of t.Boolean) b.condition n m) (pairs_alike b.equations u.0 v.0)

  last_alike : (last : Option (List Equation)) (n m : Notes) → Alike objects n m (last_arm w scope last n).0 (last_arm w scope last m).0
  last_alike None n m = alike_same objects n m
  last_alike (Some all) n m = pairs_alike all n m

  if_alike : (place : Place) (all : List SimultaneousBranch) (last : Option (List Equation)) (n m : Notes) → Alike objects n m (if_statement w scope place all last n).0 (if_statement w scope place all last m).0
  if_alike place all last n m =
      let a = listed (if_arm w scope) all n in
      let b = listed (if_arm w scope) all m in
      let c = last_arm w scope last a.0 in
      let d = last_arm w scope last b.0 in
      let u = compared place (if_lengths all last) c.0 in
      let v = compared place (if_lengths all last) d.0 in
      finished_alike objects _ place _ _ n m u v
      (alike_on objects n m a.0 b.0 u v (listed_alike objects IfArm SimultaneousBranch (if_arm w scope) (if_arm w scope) arm_alike all n m)
      (alike_on objects a.0 b.0 c.0 d.0 u v (last_alike last a.0 b.0) (compared_alike place (if_lengths all last) c.0 d.0)))

  arms_alike : (k l : Option Kind) (s u : Seen) (all : List SimultaneousAlternative) (n m : Notes) → Alike objects n m (case_arms w scope k s all n).0 (case_arms w scope l u all m).0
  arms_alike k l s u [] n m = alike_same objects n m
  arms_alike k l s u (a ∷ more) n m =
      let b = choices w scope (static_in equating) k s a.choices n in
      let c = choices w scope (static_in equating) l u a.choices m in
      let d = pairs w scope a.equations b.0 in
      let e = pairs w scope a.equations c.0 in
      alike_on objects n m b.0 c.0 (case_arms w scope k b.1.0 more d.0).0 (case_arms w scope l c.1.0 more e.0).0 (choices_alike (static_in equating) k l s u a.choices n m)
      (alike_on objects b.0 c.0 d.0 e.0 (case_arms w scope k b.1.0 more d.0).0 (case_arms w scope l c.1.0 more e.0).0 (pairs_alike a.equations b.0 c.0) (arms_alike k l b.1.0 c.1.0 more d.0 e.0))

  case_alike : (place : Place) (x : Expr) (all : List SimultaneousAlternative) (n m : Notes) → Alike objects n m (case_statement w scope place x all n).0 (case_statement w scope place x all m).0
  case_alike place x all n m =
      let a = typed w scope choosing x n in
      let b = typed w scope choosing x m in
      let c = case_arms w scope (kind_known a.1) nothing_seen all a.0 in
      let d = case_arms w scope (kind_known b.1) nothing_seen all b.0 in
      let u = compared place (case_lengths all) c.0 in
      let v = compared place (case_lengths all) d.0 in
      finished_alike objects _ place _ _ n m u v
      (alike_on objects n m a.0 b.0 u v (typed_alike objects w scope notable choosing x n m)
      (alike_on objects a.0 b.0 c.0 d.0 u v (arms_alike (kind_known a.1) (kind_known b.1) nothing_seen nothing_seen all a.0 b.0) (compared_alike place (case_lengths all) c.0 d.0)))

  -- ---- concurrent assignments, assertions and breaks

  wave_alike : (to from : Part (ℕ × Subtype)) (d : Option DelayMechanism) (xs : List WaveformElement) (when : Option Expr) (n m : Notes) → Alike objects n m (wave w scope to d xs when n).0 (wave w scope from d xs when m).0
  wave_alike to from d xs when n m =
      let a = mechanism w scope d n in
      let b = mechanism w scope d m in
      let e = waveform w scope to xs a.0 in
      let f = waveform w scope from xs b.0 in
      alike_on objects n m a.0 b.0 (condition w scope when e.0).0 (condition w scope when f.0).0 (mechanism_alike objects w scope notable d n m)
      (alike_on objects a.0 b.0 e.0 f.0 (condition w scope when e.0).0 (condition w scope when f.0).0 (waveform_alike objects w scope notable to from xs a.0 b.0) (condition_alike objects w scope notable when e.0 f.0))

  assignment_alike : (x : Name) (delay : Option DelayMechanism) (all : List ConditionalWaveform) (last : List WaveformElement) (when : Option Expr) (n m : Notes)
      → Alike objects n m (concurrent_assignment w scope x delay all last when n).0 (concurrent_assignment w scope x delay all last when m).0
  assignment_alike x delay all last when n m =
      let a = target scope x n in
      let b = target scope x m in
      let c = listed (conditional w scope a.1 delay) all a.0 in
      let d = listed (conditional w scope b.1 delay) all b.0 in
      let u = wave w scope a.1 delay last when c.0 in
      let v = wave w scope b.1 delay last when d.0 in
      finished_alike objects _ x.place _ _ n m u.0 v.0
      (alike_on objects n m a.0 b.0 u.0 v.0 (target_alike objects w scope notable x n m)
      (alike_on objects a.0 b.0 c.0 d.0 u.0 v.0
      (listed_alike objects Wave ConditionalWaveform (conditional w scope a.1 delay) (conditional w scope b.1 delay) (λ y i j. wave_alike a.1 b.1 delay y.elements (Some y.condition) i j) all a.0 b.0)
      (wave_alike a.1 b.1 delay last when c.0 d.0)))

  assert_alike : (a : Assertion) (n m : Notes) → Alike objects n m (concurrent_assertion w scope a n).0 (concurrent_assertion w scope a m).0
  assert_alike a n m =
      finished_alike objects _ a.place _ _ n m (assertion_parts w scope a n).0 (assertion_parts w scope a m).0 (assertion_alike objects w scope notable a n m)

  break_alike : (place : Place) (elements : List BreakElement) (names : List Expr) (when : Option Expr) (n m : Notes)
      → Alike objects n m (concurrent_break w scope place elements names when n).0 (concurrent_break w scope place elements names when m).0
  break_alike place elements names when n m =
      let a = break_elements w scope elements n in
      let b = break_elements w scope elements m in
      let c = sensitivity w scope names a.0 in
      let d = sensitivity w scope names b.0 in
      let u = condition w scope when c.0 in
      let v = condition w scope when d.0 in
      finished_alike objects _ place _ _ n m u.0 v.0
      (alike_on objects n m a.0 b.0 u.0 v.0 (breaks_alike objects w scope notable elements n m)
      (alike_on objects a.0 b.0 c.0 d.0 u.0 v.0 (sensitivity_alike objects w scope notable names a.0 b.0) (condition_alike objects w scope notable when c.0 d.0)))

pub statements_note_alike : EachNotesAlike
statements_note_alike objects w scope notable =
    record {
      equation = λ q n m. pair_alike objects w scope notable q n m;
      choice = λ place all last n m. if_alike objects w scope notable place all last n m;
      case_of = λ place x all n m. case_alike objects w scope notable place x all n m;
      assignment = λ x delay all last when n m. assignment_alike objects w scope notable x delay all last when n m;
      assertion = λ a n m. assert_alike objects w scope notable a n m;
      break_of = λ place elements names when n m. break_alike objects w scope notable place elements names when n m;
    }
