-- Concurrent and simultaneous statements, read twice.
use Rattle.std.proofs.Common.{◌≡◌, ℕ, Bool, true, false, if◌then◌else◌, List, [], ◌∷◌, ◌++◌, Option, Some, None, refl, sym, ap, subst}
use Rattle.std.specs.Prelude.{◌&&◌, not}
use Rattle.ams_token.specs.declared.token.Place.{Place}
use Rattle.ams_tree.specs.declared.concurrent.ConditionalWaveform.{ConditionalWaveform}
use Rattle.ams_tree.specs.declared.concurrent.Equation.{Equation}
use Rattle.ams_tree.specs.declared.concurrent.SimultaneousAlternative.{SimultaneousAlternative}
use Rattle.ams_tree.specs.declared.concurrent.SimultaneousBranch.{SimultaneousBranch}
use Rattle.ams_tree.specs.declared.expression.Expr.{Expr}
use Rattle.ams_tree.specs.declared.expression.Name.{Name}
use Rattle.ams_tree.specs.declared.sequential.Assertion.{Assertion}
use Rattle.ams_tree.specs.declared.sequential.BreakElement.{BreakElement}
use Rattle.ams_tree.specs.declared.sequential.Choice.{Choice}
use Rattle.ams_tree.specs.declared.sequential.Choice.TheVariants as choice
use Rattle.ams_tree.specs.declared.sequential.DelayMechanism.{DelayMechanism}
use Rattle.ams_tree.specs.declared.sequential.WaveformElement.{WaveformElement}
use Rattle.ams_value.specs.declared.value_type.ValueType.TheVariants as t
use Rattle.flat_expr.specs.declared.expr.FlatExpr.{FlatExpr}
use Rattle.flat_expr.specs.declared.expr.SignalName.{SignalName}
use Rattle.flat_expr.specs.declared.statement.BreakElement.{BreakElement as Broken}
use Rattle.flat_expr.specs.declared.statement.DelayMechanism.{DelayMechanism as Mechanism}
use Rattle.flat_expr.specs.declared.statement.Severity.{Severity}
use Rattle.flat_expr.specs.declared.statement.WaveElement.{WaveElement}
use Rattle.flat_design.specs.declared.objects.CaseArm.{CaseArm}
use Rattle.flat_design.specs.declared.objects.Equation.{Equation as Made}
use Rattle.flat_design.specs.declared.objects.IfArm.{IfArm}
use Rattle.flat_design.specs.declared.objects.Pair.{Pair}
use Rattle.flat_design.specs.declared.objects.Process.{Process}
use Rattle.name_scope.specs.declared.thing.Kind.{Kind}
use Rattle.name_scope.specs.declared.thing.Kind.TheVariants.{Of}
use Rattle.name_scope.specs.declared.thing.Subtype.{Subtype}
use Rattle.name_scope.specs.declared.scope.Scope.{Scope}
use Rattle.elab_meaning.specs.declared.fault.Cause.TheVariants.{UnequalBranches}
use Rattle.elab_meaning.specs.declared.fault.Notes.{Notes}
use Rattle.elab_meaning.specs.declared.part.Part.{Part}
use Rattle.elab_meaning.specs.declared.part.Part.TheVariants.{Kept, Wrong, Hidden}
use Rattle.elab_meaning.specs.declared.typed.Asked.{Asked}
use Rattle.elab_meaning.specs.declared.typed.Context.{Context}
use Rattle.elab_meaning.specs.declared.typed.Typed.{Typed}
use Rattle.elab_meaning.specs.Kinds.{same_kind}
use Rattle.elab_meaning.specs.Notes.{noted}
use Rattle.elab_meaning.specs.Parts.{part_of, where_true, judged, both}
use Rattle.elab_meaning.specs.Expressions.{static, static_in}
use Rattle.unit_meaning.specs.declared.draft.Seen.{Seen}
use Rattle.unit_meaning.specs.Settings.{Setting, equating, choosing, typed, must_be, condition, listed, paired, ahead}
use Rattle.unit_meaning.specs.Bare.{sensitivity, break_elements}
use Rattle.unit_meaning.specs.Waveforms.{target, mechanism, waveform}
use Rattle.unit_meaning.specs.Cases.{place_of, choosing_value, one_choice, seen_or, beside, choices, nothing_seen, covers}
use Rattle.unit_meaning.specs.Sequential.{text_or, assertion_parts, kind_known}
use Rattle.unit_meaning.specs.Processes.{Wave, made_wave, wave, conditional, assigning_process, concurrent_assignment, asserting, concurrent_assertion, breaking, concurrent_break}
use Rattle.unit_meaning.specs.Simultaneous.{pair_of, pair, pairs, same_lengths, first_length, compared, arm_of, if_arm, last_arm, chosen_if, if_lengths, if_statement, case_arm_of, case_arms, case_lengths, chosen_case, case_statement}
use Rattle.again_laws.specs.Again.{BreaksAlike}
use Rattle.again_laws.proofs.Breaks.{breaks_same, breaks_noted, breaks_on}
use Rattle.again_laws.proofs.Steps.{as_read, LikeTyped}
use Rattle.again_part_laws.specs.Parts.{PartsBreakAlike}
use Rattle.again_part_laws.proofs.Like.{PartLike, Any, Same, Formed, like_self, like_equal, equal_like, judged_like, both_like, formed_where, ReadsAs, finished_as, listed_as}
use Rattle.again_part_laws.proofs.Parts.{typed_as, must_as, condition_as, asked_as, sensitivity_as, breaks_as, assertion_as, target_as, mechanism_as, waveform_as}

-- the type of an expression, where it keeps the rules
pub same_known : (p q : Part Typed) → PartLike Typed LikeTyped p q → kind_known p ≡ kind_known q
same_known (Kept a) (Kept b) h = subst (λ (z : Typed). Some a.kind ≡ Some z.kind) (sym h.1) refl
same_known Wrong Wrong h = refl
same_known Hidden Hidden h = refl
same_known (Kept a) Wrong h = absurd h
same_known (Kept a) Hidden h = absurd h
same_known Wrong (Kept b) h = absurd h
same_known Wrong Hidden h = absurd h
same_known Hidden (Kept b) h = absurd h
same_known Hidden Wrong h = absurd h

module _ (w : Setting) (scope : Scope) where
  -- ---- equations

  pair_formed : (a c b d : Typed) → LikeTyped a c → LikeTyped b d → Formed Pair (pair_of a b) (pair_of c d)
  pair_formed a c b d h k =
      subst (λ (z : Typed). Formed Pair (pair_of a b) (pair_of z d)) (sym h.1)
      (subst (λ (z : Typed). Formed Pair (pair_of a b) (pair_of (as_read h.0 a) z)) (sym k.1) (formed_where Pair (same_kind a.kind (Of t.Real) && same_kind b.kind (Of t.Real)) _ _))

  pair_as : (q : Equation) (n m : Notes) → ReadsAs Pair (Any Pair) n m (pair w scope q n) (pair w scope q m)
  pair_as q n m =
      let a = typed w scope equating q.left n in
      let b = typed w scope equating q.left m in
      let c = typed w scope equating q.right a.0 in
      let d = typed w scope equating q.right b.0 in
      let first : ReadsAs Typed LikeTyped n m a b = typed_as w scope equating q.left n m in
      let second : ReadsAs Typed LikeTyped a.0 b.0 c d = typed_as w scope equating q.right a.0 b.0 in
      finished_as Pair (Any Pair) (place_of q.left) n m (c.0, both pair_of a.1 c.1) (d.0, both pair_of b.1 d.1)
      (record {
        breaks = breaks_on n m a.0 b.0 c.0 d.0 first.breaks second.breaks;
        like = both_like Typed Typed Pair LikeTyped LikeTyped (Any Pair) pair_of pair_of pair_formed a.1 b.1 c.1 d.1 first.like second.like;
      })

  pairs_as : (all : List Equation) (n m : Notes) → ReadsAs (List Pair) (Any (List Pair)) n m (pairs w scope all n) (pairs w scope all m)
  pairs_as all n m = listed_as Pair Equation (Any Pair) (pair w scope) (pair w scope) pair_as all n m

  -- ---- choices

  pub one_choice_as : (c : Context) (k : Option Kind) (s : Seen) (x : Choice) (n m : Notes) → ReadsAs Seen (Same Seen) n m (one_choice w scope c k s x n) (one_choice w scope c k s x m)
  one_choice_as c k s (choice.Value x) n m =
      let a = static w.texts scope x c n in
      let b = static w.texts scope x c m in
      let read : ReadsAs Asked (Same Asked) n m (a.0, part_of a.1) (b.0, part_of b.1) = asked_as w scope x c n m in
      finished_as Seen (Same Seen) (place_of x) n m (a.0, judged (choosing_value k s) (part_of a.1)) (b.0, judged (choosing_value k s) (part_of b.1))
      (record {
        breaks = read.breaks;
        like =
            like_equal Seen (Same Seen) (λ z. refl) (judged (choosing_value k s) (part_of a.1)) (judged (choosing_value k s) (part_of b.1))
            (ap (λ (p : Part Asked). judged (choosing_value k s) p) (equal_like Asked (part_of a.1) (part_of b.1) read.like));
      })
  one_choice_as c k s (choice.Others place) n m =
      finished_as Seen (Same Seen) place n m (n, where_true (not s.others) (record s { others = true })) (m, where_true (not s.others) (record s { others = true }))
      (record { breaks = breaks_same n m; like = like_self Seen (Same Seen) (λ z. refl) (where_true (not s.others) (record s { others = true })) })

  -- the same is seen behind choices, and they keep the rules alike
  pub record ChoosesAs (n m : Notes) (f g : Notes × (Seen × Part Bool)) : Type 0 where
    pub breaks : BreaksAlike n m f.0 g.0
    pub found : f.1 ≡ g.1

  abbrev joined : Part Seen → Seen × Part Bool → Seen × Part Bool
  joined p y = (y.0, beside p y.1)

  pub choices_as : (c : Context) (k : Option Kind) (s : Seen) (all : List Choice) (n m : Notes) → ChoosesAs n m (choices w scope c k s all n) (choices w scope c k s all m)
  choices_as c k s [] n m = record { breaks = breaks_same n m; found = refl }
  choices_as c k s (x ∷ more) n m =
      let a = one_choice w scope c k s x n in
      let b = one_choice w scope c k s x m in
      let one : ReadsAs Seen (Same Seen) n m a b = one_choice_as c k s x n m in
      let same : a.1 ≡ b.1 = equal_like Seen a.1 b.1 one.like in
      let f = choices w scope c k (seen_or s a.1) more a.0 in
      let g = choices w scope c k (seen_or s b.1) more b.0 in
      let rest : ChoosesAs a.0 b.0 f g =
      subst (λ (p : Part Seen). ChoosesAs a.0 b.0 f (choices w scope c k (seen_or s p) more b.0)) same (choices_as c k (seen_or s a.1) more a.0 b.0) in
      record {
        breaks = breaks_on n m a.0 b.0 f.0 g.0 one.breaks rest.breaks;
        found = both_same a.1 b.1 f.1 g.1 same rest.found;
      }
    where
      both_same : (p q : Part Seen) (y z : Seen × Part Bool) → p ≡ q → y ≡ z → joined p y ≡ joined q z
      both_same p q y z h g = subst (λ (i : Part Seen). joined p y ≡ joined i z) h (subst (λ (i : Seen × Part Bool). joined p y ≡ joined p i) g refl)

  -- ---- simultaneous if and case

  compared_as : (place : Place) (lengths : List ℕ) (n m : Notes) → BreaksAlike n m (compared place lengths n) (compared place lengths m)
  compared_as place lengths n m = go (same_lengths lengths)
    where
      go : (b : Bool) → BreaksAlike n m (if b then n else noted place UnequalBranches n) (if b then m else noted place UnequalBranches m)
      go true = breaks_same n m
      go false = breaks_noted place UnequalBranches n m

  arm_as : (b : SimultaneousBranch) (n m : Notes) → ReadsAs IfArm (Any IfArm) n m (if_arm w scope b n) (if_arm w scope b m)
  arm_as b n m =
      let u = must_be w scope choosing (Of t.Boolean) b.condition n in
      let v = must_be w scope choosing (Of t.Boolean) b.condition m in
      let y = pairs w scope b.equations u.0 in
      let z = pairs w scope b.equations v.0 in
      let first : ReadsAs FlatExpr (Any FlatExpr) n m u v = must_as w scope choosing (Of t.Boolean) b.condition n m in
      let second : ReadsAs (List Pair) (Any (List Pair)) u.0 v.0 y z = pairs_as b.equations u.0 v.0 in
      record {
        breaks = breaks_on n m u.0 v.0 y.0 z.0 first.breaks second.breaks;
        like = both_like FlatExpr (List Pair) IfArm (Any FlatExpr) (Any (List Pair)) (Any IfArm) arm_of arm_of (λ a c b d h k. tt) u.1 v.1 y.1 z.1 first.like second.like;
      }

  last_as : (last : Option (List Equation)) (n m : Notes) → ReadsAs (List Pair) (Any (List Pair)) n m (last_arm w scope last n) (last_arm w scope last m)
  last_as None n m = record { breaks = breaks_same n m; like = tt }
  last_as (Some all) n m = pairs_as all n m

  if_as : (place : Place) (all : List SimultaneousBranch) (last : Option (List Equation)) (n m : Notes) → ReadsAs Made (Any Made) n m (if_statement w scope place all last n) (if_statement w scope place all last m)
  if_as place all last n m =
      let a = listed (if_arm w scope) all n in
      let b = listed (if_arm w scope) all m in
      let c = last_arm w scope last a.0 in
      let d = last_arm w scope last b.0 in
      let u = compared place (if_lengths all last) c.0 in
      let v = compared place (if_lengths all last) d.0 in
      let rule = chosen_if (first_length (if_lengths all last)) in
      let first : ReadsAs (List IfArm) (Any (List IfArm)) n m a b = listed_as IfArm SimultaneousBranch (Any IfArm) (if_arm w scope) (if_arm w scope) arm_as all n m in
      let second : ReadsAs (List Pair) (Any (List Pair)) a.0 b.0 c d = last_as last a.0 b.0 in
      finished_as Made (Any Made) place n m (u, both rule a.1 c.1) (v, both rule b.1 d.1)
      (record {
        breaks = breaks_on n m a.0 b.0 u v first.breaks (breaks_on a.0 b.0 c.0 d.0 u v second.breaks (compared_as place (if_lengths all last) c.0 d.0));
        like = both_like (List IfArm) (List Pair) Made (Any (List IfArm)) (Any (List Pair)) (Any Made) rule rule (λ a c b d h k. tt) a.1 b.1 c.1 d.1 first.like second.like;
      })

  record ArmsAs (n m : Notes) (f g : Notes × (Seen × Part (List CaseArm))) : Type 0 where
    breaks : BreaksAlike n m f.0 g.0
    seen : f.1.0 ≡ g.1.0
    like : Formed (List CaseArm) f.1.1 g.1.1

  arms_as : (k : Option Kind) (s : Seen) (all : List SimultaneousAlternative) (n m : Notes) → ArmsAs n m (case_arms w scope k s all n) (case_arms w scope k s all m)
  arms_as k s [] n m = record { breaks = breaks_same n m; seen = refl; like = tt }
  arms_as k s (a ∷ more) n m =
      let b = choices w scope (static_in equating) k s a.choices n in
      let c = choices w scope (static_in equating) k s a.choices m in
      let d = pairs w scope a.equations b.0 in
      let e = pairs w scope a.equations c.0 in
      let first : ChoosesAs n m b c = choices_as (static_in equating) k s a.choices n m in
      let second : ReadsAs (List Pair) (Any (List Pair)) b.0 c.0 d e = pairs_as a.equations b.0 c.0 in
      let f = case_arms w scope k b.1.0 more d.0 in
      let g = case_arms w scope k c.1.0 more e.0 in
      let rest : ArmsAs d.0 e.0 f g =
      subst (λ (z : Seen × Part Bool). ArmsAs d.0 e.0 f (case_arms w scope k z.0 more e.0)) first.found (arms_as k b.1.0 more d.0 e.0) in
      record {
        breaks = breaks_on n m b.0 c.0 f.0 g.0 first.breaks (breaks_on b.0 c.0 d.0 e.0 f.0 g.0 second.breaks rest.breaks);
        seen = rest.seen;
        like =
            both_like CaseArm (List CaseArm) (List CaseArm) (Any CaseArm) (Any (List CaseArm)) (Any (List CaseArm)) ahead ahead (λ a c b d h k. tt)
            (both (case_arm_of s b.1.0) b.1.1 d.1) (both (case_arm_of s c.1.0) c.1.1 e.1) f.1.1 g.1.1
            (both_like Bool (List Pair) CaseArm (Any Bool) (Any (List Pair)) (Any CaseArm) (case_arm_of s b.1.0) (case_arm_of s c.1.0) (λ a c b d h k. tt) b.1.1 c.1.1 d.1 e.1
            (like_equal Bool (Any Bool) (λ z. tt) b.1.1 c.1.1 (ap (λ (z : Seen × Part Bool). z.1) first.found)) second.like)
            rest.like;
      }

  chosen_formed : (s : Seen) (size : ℕ) (a c : Typed) (b d : List CaseArm) → LikeTyped a c → Formed Made (chosen_case w s size a b) (chosen_case w s size c d)
  chosen_formed s size a c b d h =
      subst (λ (z : Typed). Formed Made (chosen_case w s size a b) (chosen_case w s size z d)) (sym h.1) (formed_where Made (covers w.enumerations a.kind s) _ _)

  case_as : (place : Place) (x : Expr) (all : List SimultaneousAlternative) (n m : Notes) → ReadsAs Made (Any Made) n m (case_statement w scope place x all n) (case_statement w scope place x all m)
  case_as place x all n m =
      let a = typed w scope choosing x n in
      let b = typed w scope choosing x m in
      let c = case_arms w scope (kind_known a.1) nothing_seen all a.0 in
      let d = case_arms w scope (kind_known b.1) nothing_seen all b.0 in
      let u = compared place (case_lengths all) c.0 in
      let v = compared place (case_lengths all) d.0 in
      let size = first_length (case_lengths all) in
      let first : ReadsAs Typed LikeTyped n m a b = typed_as w scope choosing x n m in
      let second : ArmsAs a.0 b.0 c d =
      subst (λ (k : Option Kind). ArmsAs a.0 b.0 c (case_arms w scope k nothing_seen all b.0)) (same_known a.1 b.1 first.like) (arms_as (kind_known a.1) nothing_seen all a.0 b.0) in
      finished_as Made (Any Made) place n m (u, both (chosen_case w c.1.0 size) a.1 c.1.1) (v, both (chosen_case w d.1.0 size) b.1 d.1.1)
      (record {
        breaks = breaks_on n m a.0 b.0 u v first.breaks (breaks_on a.0 b.0 c.0 d.0 u v second.breaks (compared_as place (case_lengths all) c.0 d.0));
        like =
            subst (λ (s : Seen). Formed Made (both (chosen_case w c.1.0 size) a.1 c.1.1) (both (chosen_case w s size) b.1 d.1.1)) second.seen
            (both_like Typed (List CaseArm) Made LikeTyped (Any (List CaseArm)) (Any Made) (chosen_case w c.1.0 size) (chosen_case w c.1.0 size) (λ a' c' b' d' h k. chosen_formed c.1.0 size a' c' b' d' h)
            a.1 b.1 c.1.1 d.1.1 first.like second.like);
      })

  -- ---- concurrent assignments, assertions and breaks

  made_formed : (a : ℕ × Subtype) (b d : (Mechanism × List WaveElement) × Option FlatExpr) → Formed Wave (made_wave a b) (made_wave a d)
  made_formed a b d = tt

  wave_as : (to : Part (ℕ × Subtype)) (d : Option DelayMechanism) (xs : List WaveformElement) (when : Option Expr) (n m : Notes) → ReadsAs Wave (Any Wave) n m (wave w scope to d xs when n) (wave w scope to d xs when m)
  wave_as to d xs when n m =
      let a = mechanism w scope d n in
      let b = mechanism w scope d m in
      let e = waveform w scope to xs a.0 in
      let f = waveform w scope to xs b.0 in
      let u = condition w scope when e.0 in
      let v = condition w scope when f.0 in
      let first : ReadsAs Mechanism (Any Mechanism) n m a b = mechanism_as w scope d n m in
      let second : ReadsAs (List WaveElement) (Any (List WaveElement)) a.0 b.0 e f = waveform_as w scope to xs a.0 b.0 in
      let third : ReadsAs (Option FlatExpr) (Any (Option FlatExpr)) e.0 f.0 u v = condition_as w scope when e.0 f.0 in
      record {
        breaks = breaks_on n m a.0 b.0 u.0 v.0 first.breaks (breaks_on a.0 b.0 e.0 f.0 u.0 v.0 second.breaks third.breaks);
        like =
            both_like (ℕ × Subtype) ((Mechanism × List WaveElement) × Option FlatExpr) Wave (Any (ℕ × Subtype)) (Any ((Mechanism × List WaveElement) × Option FlatExpr)) (Any Wave) made_wave made_wave
            (λ a c b d h k. tt) to to (both paired (both paired a.1 e.1) u.1) (both paired (both paired b.1 f.1) v.1) (like_self (ℕ × Subtype) (Any (ℕ × Subtype)) (λ z. tt) to)
            (both_like (Mechanism × List WaveElement) (Option FlatExpr) ((Mechanism × List WaveElement) × Option FlatExpr) (Any (Mechanism × List WaveElement)) (Any (Option FlatExpr))
            (Any ((Mechanism × List WaveElement) × Option FlatExpr)) paired paired (λ a c b d h k. tt) (both paired a.1 e.1) (both paired b.1 f.1) u.1 v.1
            (both_like Mechanism (List WaveElement) (Mechanism × List WaveElement) (Any Mechanism) (Any (List WaveElement)) (Any (Mechanism × List WaveElement)) paired paired (λ a c b d h k. tt)
            a.1 b.1 e.1 f.1 first.like second.like)
            third.like);
      }

  waves_as : (to : Part (ℕ × Subtype)) (delay : Option DelayMechanism) (all : List ConditionalWaveform) (n m : Notes)
      → ReadsAs (List Wave) (Any (List Wave)) n m (listed (conditional w scope to delay) all n) (listed (conditional w scope to delay) all m)
  waves_as to delay all n m =
      listed_as Wave ConditionalWaveform (Any Wave) (conditional w scope to delay) (conditional w scope to delay) (λ y i j. wave_as to delay y.elements (Some y.condition) i j) all n m

  -- the waveforms behind a target
  abbrev behind_all : List Wave → Wave → Part (List Wave)
  behind_all all x = Kept (all ++ x ∷ [])

  abbrev whole : Name → Option DelayMechanism → List ConditionalWaveform → List WaveformElement → Option Expr → Part (ℕ × Subtype) → Notes → Notes × Part Process
  whole x delay all last when to n =
      let first = listed (conditional w scope to delay) all n in
      let rest = wave w scope to delay last when first.0 in
      (rest.0, both assigning_process to (both behind_all first.1 rest.1))

  whole_as : (x : Name) (delay : Option DelayMechanism) (all : List ConditionalWaveform) (last : List WaveformElement) (when : Option Expr) (to : Part (ℕ × Subtype)) (n m : Notes)
      → ReadsAs Process (Any Process) n m (whole x delay all last when to n) (whole x delay all last when to m)
  whole_as x delay all last when to n m =
      let c = listed (conditional w scope to delay) all n in
      let d = listed (conditional w scope to delay) all m in
      let u = wave w scope to delay last when c.0 in
      let v = wave w scope to delay last when d.0 in
      let first : ReadsAs (List Wave) (Any (List Wave)) n m c d = waves_as to delay all n m in
      let second : ReadsAs Wave (Any Wave) c.0 d.0 u v = wave_as to delay last when c.0 d.0 in
      record {
        breaks = breaks_on n m c.0 d.0 u.0 v.0 first.breaks second.breaks;
        like =
            both_like (ℕ × Subtype) (List Wave) Process (Any (ℕ × Subtype)) (Any (List Wave)) (Any Process) assigning_process assigning_process (λ a c b d h k. tt) to to (both behind_all c.1 u.1)
            (both behind_all d.1 v.1) (like_self (ℕ × Subtype) (Any (ℕ × Subtype)) (λ z. tt) to)
            (both_like (List Wave) Wave (List Wave) (Any (List Wave)) (Any Wave) (Any (List Wave)) behind_all behind_all (λ a c b d h k. tt) c.1 d.1 u.1 v.1 first.like second.like);
      }

  assignment_as : (x : Name) (delay : Option DelayMechanism) (all : List ConditionalWaveform) (last : List WaveformElement) (when : Option Expr) (n m : Notes)
      → ReadsAs Process (Any Process) n m (concurrent_assignment w scope x delay all last when n) (concurrent_assignment w scope x delay all last when m)
  assignment_as x delay all last when n m =
      let a = target scope x n in
      let b = target scope x m in
      let f = whole x delay all last when a.1 a.0 in
      let g = whole x delay all last when b.1 b.0 in
      let first : ReadsAs (ℕ × Subtype) (Same (ℕ × Subtype)) n m a b = target_as w scope x n m in
      let second : ReadsAs Process (Any Process) a.0 b.0 f g =
      subst (λ (to : Part (ℕ × Subtype)). ReadsAs Process (Any Process) a.0 b.0 f (whole x delay all last when to b.0)) (equal_like (ℕ × Subtype) a.1 b.1 first.like)
      (whole_as x delay all last when a.1 a.0 b.0) in
      finished_as Process (Any Process) x.place n m f g (record { breaks = breaks_on n m a.0 b.0 f.0 g.0 first.breaks second.breaks; like = second.like })

  assert_as : (a : Assertion) (n m : Notes) → ReadsAs Process (Any Process) n m (concurrent_assertion w scope a n) (concurrent_assertion w scope a m)
  assert_as a n m =
      let u = assertion_parts w scope a n in
      let v = assertion_parts w scope a m in
      let read : ReadsAs (FlatExpr × Severity) (Any (FlatExpr × Severity)) n m u v = assertion_as w scope a n m in
      let rule = asserting (text_or w.texts a.text) in
      finished_as Process (Any Process) a.place n m (u.0, judged rule u.1) (v.0, judged rule v.1)
      (record { breaks = read.breaks; like = judged_like (FlatExpr × Severity) Process (Any (FlatExpr × Severity)) (Any Process) rule rule (λ a b h. tt) u.1 v.1 read.like })

  break_as : (place : Place) (elements : List BreakElement) (names : List Expr) (when : Option Expr) (n m : Notes)
      → ReadsAs Process (Any Process) n m (concurrent_break w scope place elements names when n) (concurrent_break w scope place elements names when m)
  break_as place elements names when n m =
      let a = break_elements w scope elements n in
      let b = break_elements w scope elements m in
      let c = sensitivity w scope names a.0 in
      let d = sensitivity w scope names b.0 in
      let u = condition w scope when c.0 in
      let v = condition w scope when d.0 in
      let first : ReadsAs (List Broken) (Any (List Broken)) n m a b = breaks_as w scope elements n m in
      let second : ReadsAs (List SignalName) (Any (List SignalName)) a.0 b.0 c d = sensitivity_as w scope names a.0 b.0 in
      let third : ReadsAs (Option FlatExpr) (Any (Option FlatExpr)) c.0 d.0 u v = condition_as w scope when c.0 d.0 in
      finished_as Process (Any Process) place n m (u.0, both (breaking names) a.1 (both paired c.1 u.1)) (v.0, both (breaking names) b.1 (both paired d.1 v.1))
      (record {
        breaks = breaks_on n m a.0 b.0 u.0 v.0 first.breaks (breaks_on a.0 b.0 c.0 d.0 u.0 v.0 second.breaks third.breaks);
        like =
            both_like (List Broken) (List SignalName × Option FlatExpr) Process (Any (List Broken)) (Any (List SignalName × Option FlatExpr)) (Any Process) (breaking names) (breaking names) (λ a c b d h k. tt) a.1 b.1
            (both paired c.1 u.1) (both paired d.1 v.1) first.like
            (both_like (List SignalName) (Option FlatExpr) (List SignalName × Option FlatExpr) (Any (List SignalName)) (Any (Option FlatExpr)) (Any (List SignalName × Option FlatExpr)) paired paired
            (λ a c b d h k. tt) c.1 d.1 u.1 v.1 second.like third.like);
      })

pub parts_break_alike : PartsBreakAlike
parts_break_alike = record {
  equation = λ w scope q n m. (pair_as w scope q n m).breaks;
  choice = λ w scope place all last n m. (if_as w scope place all last n m).breaks;
  case_of = λ w scope place x all n m. (case_as w scope place x all n m).breaks;
  assignment = λ w scope x delay all last when n m. (assignment_as w scope x delay all last when n m).breaks;
  assertion = λ w scope a n m. (assert_as w scope a n m).breaks;
  break_of = λ w scope place elements names when n m. (break_as w scope place elements names when n m).breaks;
}
