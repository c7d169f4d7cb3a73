-- Concurrent and simultaneous statements, read twice.
use Rattle.std.proofs.Common.{ℕ, IsTrue, Bool, true, false, if◌then◌else◌, List, [], ◌∷◌, Option, Some, None}
use Rattle.ams_token.specs.declared.token.Place.{Place}
use Rattle.ams_tree.specs.declared.concurrent.ConditionalWaveform.{ConditionalWaveform}
use Rattle.ams_tree.specs.declared.concurrent.Equation.{Equation}
use Rattle.ams_tree.specs.declared.concurrent.SimultaneousAlternative.{SimultaneousAlternative}
use Rattle.ams_tree.specs.declared.concurrent.SimultaneousBranch.{SimultaneousBranch}
use Rattle.ams_tree.specs.declared.expression.Expr.{Expr}
use Rattle.ams_tree.specs.declared.expression.Name.{Name}
use Rattle.ams_tree.specs.declared.sequential.Assertion.{Assertion}
use Rattle.ams_tree.specs.declared.sequential.BreakElement.{BreakElement}
use Rattle.ams_tree.specs.declared.sequential.Choice.{Choice}
use Rattle.ams_tree.specs.declared.sequential.Choice.TheVariants as choice
use Rattle.ams_tree.specs.declared.sequential.DelayMechanism.{DelayMechanism}
use Rattle.ams_tree.specs.declared.sequential.WaveformElement.{WaveformElement}
use Rattle.ams_value.specs.declared.value_type.ValueType.TheVariants as t
use Rattle.flat_design.specs.declared.objects.IfArm.{IfArm}
use Rattle.flat_design.specs.declared.objects.Pair.{Pair}
use Rattle.name_scope.specs.declared.thing.Kind.{Kind}
use Rattle.name_scope.specs.declared.thing.Kind.TheVariants.{Of}
use Rattle.name_scope.specs.declared.thing.Subtype.{Subtype}
use Rattle.name_scope.specs.declared.scope.Scope.{Scope}
use Rattle.elab_meaning.specs.declared.fault.Cause.TheVariants.{UnequalBranches}
use Rattle.elab_meaning.specs.declared.fault.Notes.{Notes}
use Rattle.elab_meaning.specs.declared.part.Part.{Part}
use Rattle.elab_meaning.specs.declared.typed.Context.{Context}
use Rattle.elab_meaning.specs.Notes.{noted}
use Rattle.elab_meaning.specs.Parts.{part_of, where_true, judged, both}
use Rattle.elab_meaning.specs.Expressions.{static, static_in}
use Rattle.unit_meaning.specs.declared.draft.Seen.{Seen}
use Rattle.unit_meaning.specs.Settings.{Setting, equating, choosing, typed, must_be, condition, listed}
use Rattle.unit_meaning.specs.Bare.{sensitivity, break_elements}
use Rattle.unit_meaning.specs.Waveforms.{target, mechanism, waveform}
use Rattle.unit_meaning.specs.Cases.{place_of, choosing_value, one_choice, seen_or, choices, nothing_seen}
use Rattle.unit_meaning.specs.Sequential.{assertion_parts, kind_known}
use Rattle.unit_meaning.specs.Processes.{Wave, wave, conditional, concurrent_assignment, concurrent_assertion, concurrent_break}
use Rattle.unit_meaning.specs.Simultaneous.{pair_of, pair, pairs, same_lengths, compared, if_arm, last_arm, if_lengths, if_statement, case_arms, case_lengths, case_statement}
use Rattle.alike_parts.specs.Follows.{BothRead, StatementsFollow, EachFollows}
use Rattle.alike_parts.proofs.Follows.{Follows, same_follows, on_follows, noted_follows, finished_follows, listed_follows}
use Rattle.alike_parts.proofs.Parts.{asked_follows, typed_follows, must_follows, condition_follows, sensitivity_follows, breaks_follows, assertion_follows, target_follows, mechanism_follows, waveform_follows}

module _ (G : Type 0) (natures : List ℕ) (checked entered : Setting) (early late : Scope) (premise : BothRead G natures checked entered early late) where
  -- ---- equations

  pair_follows : (q : Equation) (n m : Notes) → Follows G n m (pair checked early q n).0 (pair entered late q m).0
  pair_follows q n m =
      let a = typed checked early equating q.left n in
      let b = typed entered late equating q.left m in
      let c = typed checked early equating q.right a.0 in
      let d = typed entered late equating q.right b.0 in
      finished_follows G Pair (place_of q.left) (both pair_of a.1 c.1) (both pair_of b.1 d.1) n m c.0 d.0
      (on_follows G n m a.0 b.0 c.0 d.0 (typed_follows G natures checked entered early late premise equating q.left n m) (typed_follows G natures checked entered early late premise equating q.right a.0 b.0))

  pairs_follows : (all : List Equation) (n m : Notes) → Follows G n m (pairs checked early all n).0 (pairs entered late all m).0
  pairs_follows all n m = listed_follows G Pair Equation (pair checked early) (pair entered late) pair_follows all n m

  -- ---- choices

  pub choice_follows : (c : Context) (k l : Option Kind) (s u : Seen) (x : Choice) (n m : Notes) → Follows G n m (one_choice checked early c k s x n).0 (one_choice entered late c l u x m).0
  choice_follows c k l s u (choice.Value x) n m =
      let a = static checked.texts early x c n in
      let b = static entered.texts late x c m in
      finished_follows G Seen (place_of x) (judged (choosing_value k s) (part_of a.1)) (judged (choosing_value l u) (part_of b.1)) n m a.0 b.0 (asked_follows G natures checked entered early late premise c x n m)
  choice_follows c k l s u (choice.Others place) n m =
      finished_follows G Seen place (where_true _ (record s { others = true })) (where_true _ (record u { others = true })) n m n m (same_follows G n m)

  pub choices_follows : (c : Context) (k l : Option Kind) (s u : Seen) (all : List Choice) (n m : Notes) → Follows G n m (choices checked early c k s all n).0 (choices entered late c l u all m).0
  choices_follows c k l s u [] n m = same_follows G n m
  choices_follows c k l s u (x ∷ more) n m =
      let a = one_choice checked early c k s x n in
      let b = one_choice entered late c l u x m in
      on_follows G n m a.0 b.0 (choices checked early c k (seen_or s a.1) more a.0).0 (choices entered late c l (seen_or u b.1) more b.0).0 (choice_follows c k l s u x n m)
      (choices_follows c k l (seen_or s a.1) (seen_or u b.1) more a.0 b.0)

  -- ---- simultaneous if and case

  compared_follows : (place : Place) (lengths : List ℕ) (n m : Notes) → Follows G n m (compared place lengths n) (compared place lengths m)
  compared_follows place lengths n m = go (same_lengths lengths)
    where
      go : (b : Bool) → Follows G n m (if b then n else noted place UnequalBranches n) (if b then m else noted place UnequalBranches m)
      go true = same_follows G n m
      go false = noted_follows G place UnequalBranches n m (noted place UnequalBranches m)

  arm_follows : (b : SimultaneousBranch) (n m : Notes) → Follows G n m (if_arm checked early b n).0 (if_arm entered late b m).0
  arm_follows b n m =
      let u = must_be checked early choosing (Of t.Boolean) b.condition n in
      let v = must_be entered late choosing (Of t.Boolean) b.condition m in
      on_follows G n m u.0 v.0 (pairs checked early b.equations u.0).0 (pairs entered late b.equations v.0).0 (must_follows G natures checked entered early late premise choosing (Of t.Boolean) b.condition n m) (pairs_follows b.equations u.0 v.0)

  last_follows : (last : Option (List Equation)) (n m : Notes) → Follows G n m (last_arm checked early last n).0 (last_arm entered late last m).0
  last_follows None n m = same_follows G n m
  last_follows (Some all) n m = pairs_follows all n m

  if_follows : (place : Place) (all : List SimultaneousBranch) (last : Option (List Equation)) (n m : Notes) → Follows G n m (if_statement checked early place all last n).0 (if_statement entered late place all last m).0
  if_follows place all last n m =
      let a = listed (if_arm checked early) all n in
      let b = listed (if_arm entered late) all m in
      let c = last_arm checked early last a.0 in
      let d = last_arm entered late last b.0 in
      let u = compared place (if_lengths all last) c.0 in
      let v = compared place (if_lengths all last) d.0 in
      finished_follows G _ place _ _ n m u v
      (on_follows G n m a.0 b.0 u v (listed_follows G IfArm SimultaneousBranch (if_arm checked early) (if_arm entered late) arm_follows all n m)
      (on_follows G a.0 b.0 c.0 d.0 u v (last_follows last a.0 b.0) (compared_follows place (if_lengths all last) c.0 d.0)))

  arms_follows : (k l : Option Kind) (s u : Seen) (all : List SimultaneousAlternative) (n m : Notes) → Follows G n m (case_arms checked early k s all n).0 (case_arms entered late l u all m).0
  arms_follows k l s u [] n m = same_follows G n m
  arms_follows k l s u (a ∷ more) n m =
      let b = choices checked early (static_in equating) k s a.choices n in
      let c = choices entered late (static_in equating) l u a.choices m in
      let d = pairs checked early a.equations b.0 in
      let e = pairs entered late a.equations c.0 in
      on_follows G n m b.0 c.0 (case_arms checked early k b.1.0 more d.0).0 (case_arms entered late l c.1.0 more e.0).0 (choices_follows (static_in equating) k l s u a.choices n m)
      (on_follows G b.0 c.0 d.0 e.0 (case_arms checked early k b.1.0 more d.0).0 (case_arms entered late l c.1.0 more e.0).0 (pairs_follows a.equations b.0 c.0) (arms_follows k l b.1.0 c.1.0 more d.0 e.0))

  case_follows : (place : Place) (x : Expr) (all : List SimultaneousAlternative) (n m : Notes) → Follows G n m (case_statement checked early place x all n).0 (case_statement entered late place x all m).0
  case_follows place x all n m =
      let a = typed checked early choosing x n in
      let b = typed entered late choosing x m in
      let c = case_arms checked early (kind_known a.1) nothing_seen all a.0 in
      let d = case_arms entered late (kind_known b.1) nothing_seen all b.0 in
      let u = compared place (case_lengths all) c.0 in
      let v = compared place (case_lengths all) d.0 in
      finished_follows G _ place _ _ n m u v
      (on_follows G n m a.0 b.0 u v (typed_follows G natures checked entered early late premise choosing x n m)
      (on_follows G a.0 b.0 c.0 d.0 u v (arms_follows (kind_known a.1) (kind_known b.1) nothing_seen nothing_seen all a.0 b.0) (compared_follows place (case_lengths all) c.0 d.0)))

  -- ---- concurrent assignments, assertions and breaks

  wave_follows : (to from : Part (ℕ × Subtype)) (d : Option DelayMechanism) (xs : List WaveformElement) (when : Option Expr) (n m : Notes) → Follows G n m (wave checked early to d xs when n).0 (wave entered late from d xs when m).0
  wave_follows to from d xs when n m =
      let a = mechanism checked early d n in
      let b = mechanism entered late d m in
      let e = waveform checked early to xs a.0 in
      let f = waveform entered late from xs b.0 in
      on_follows G n m a.0 b.0 (condition checked early when e.0).0 (condition entered late when f.0).0 (mechanism_follows G natures checked entered early late premise d n m)
      (on_follows G a.0 b.0 e.0 f.0 (condition checked early when e.0).0 (condition entered late when f.0).0 (waveform_follows G natures checked entered early late premise to from xs a.0 b.0) (condition_follows G natures checked entered early late premise when e.0 f.0))

  assignment_follows : (x : Name) (delay : Option DelayMechanism) (all : List ConditionalWaveform) (last : List WaveformElement) (when : Option Expr) (n m : Notes)
      → Follows G n m (concurrent_assignment checked early x delay all last when n).0 (concurrent_assignment entered late x delay all last when m).0
  assignment_follows x delay all last when n m =
      let a = target early x n in
      let b = target late x m in
      let c = listed (conditional checked early a.1 delay) all a.0 in
      let d = listed (conditional entered late b.1 delay) all b.0 in
      let u = wave checked early a.1 delay last when c.0 in
      let v = wave entered late b.1 delay last when d.0 in
      finished_follows G _ x.place _ _ n m u.0 v.0
      (on_follows G n m a.0 b.0 u.0 v.0 (target_follows G natures checked entered early late premise x n m)
      (on_follows G a.0 b.0 c.0 d.0 u.0 v.0
      (listed_follows G Wave ConditionalWaveform (conditional checked early a.1 delay) (conditional entered late b.1 delay) (λ y i j. wave_follows a.1 b.1 delay y.elements (Some y.condition) i j) all a.0 b.0)
      (wave_follows a.1 b.1 delay last when c.0 d.0)))

  assert_follows : (a : Assertion) (n m : Notes) → Follows G n m (concurrent_assertion checked early a n).0 (concurrent_assertion entered late a m).0
  assert_follows a n m =
      finished_follows G _ a.place _ _ n m (assertion_parts checked early a n).0 (assertion_parts entered late a m).0 (assertion_follows G natures checked entered early late premise a n m)

  break_follows : (place : Place) (elements : List BreakElement) (names : List Expr) (when : Option Expr) (n m : Notes)
      → Follows G n m (concurrent_break checked early place elements names when n).0 (concurrent_break entered late place elements names when m).0
  break_follows place elements names when n m =
      let a = break_elements checked early elements n in
      let b = break_elements entered late elements m in
      let c = sensitivity checked early names a.0 in
      let d = sensitivity entered late names b.0 in
      let u = condition checked early when c.0 in
      let v = condition entered late when d.0 in
      finished_follows G _ place _ _ n m u.0 v.0
      (on_follows G n m a.0 b.0 u.0 v.0 (breaks_follows G natures checked entered early late premise elements n m)
      (on_follows G a.0 b.0 c.0 d.0 u.0 v.0 (sensitivity_follows G natures checked entered early late premise names a.0 b.0) (condition_follows G natures checked entered early late premise when c.0 d.0)))

pub each_follow : (G : Type 0) (natures : List ℕ) (checked entered : Setting) (early late : Scope) → BothRead G natures checked entered early late → StatementsFollow G checked entered early late
each_follow G natures checked entered early late premise =
    record {
      equation = λ q n m. pair_follows G natures checked entered early late premise q n m;
      choice = λ place all last n m. if_follows G natures checked entered early late premise place all last n m;
      case_of = λ place x all n m. case_follows G natures checked entered early late premise place x all n m;
      assignment = λ x delay all last when n m. assignment_follows G natures checked entered early late premise x delay all last when n m;
      assertion = λ a n m. assert_follows G natures checked entered early late premise a n m;
      break_of = λ place elements names when n m. break_follows G natures checked entered early late premise place elements names when n m;
    }

pub statements_follow : EachFollows
statements_follow b natures v w c i premise = each_follow (IsTrue b) natures v w c i premise
