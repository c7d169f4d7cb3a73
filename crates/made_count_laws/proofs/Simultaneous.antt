-- Simultaneous statements that are read without a fault, and the equations that they make.
use Rattle.std.proofs.Common.{◌≡◌, ℕ, Bool, true, false, not, if◌then◌else◌, List, [], ◌∷◌, Option, Some, None, IfSome, refl, sym, subst}
use Rattle.ams_token.specs.declared.token.Place.{Place}
use Rattle.ams_tree.specs.declared.expression.Expr.{Expr}
use Rattle.ams_tree.specs.declared.expression.Name.{Name}
use Rattle.ams_tree.specs.declared.concurrent.ConcurrentStatement.{ConcurrentStatement}
use Rattle.ams_tree.specs.declared.concurrent.ConcurrentStatement.TheVariants as conc
use Rattle.ams_tree.specs.declared.concurrent.Equation.{Equation}
use Rattle.ams_tree.specs.declared.concurrent.SimultaneousAlternative.{SimultaneousAlternative}
use Rattle.ams_tree.specs.declared.concurrent.SimultaneousBranch.{SimultaneousBranch}
use Rattle.ams_tree.specs.declared.sequential.Choice.{Choice}
use Rattle.ams_tree.specs.declared.sequential.Choice.TheVariants as choice
use Rattle.ams_value.specs.declared.val.Val.{Val}
use Rattle.ams_value.specs.declared.value_type.ValueType.TheVariants as t
use Rattle.flat_expr.specs.declared.expr.FlatExpr.{FlatExpr}
use Rattle.flat_design.specs.declared.objects.CaseArm.{CaseArm}
use Rattle.flat_design.specs.declared.objects.Equation.{Equation as Made}
use Rattle.flat_design.specs.declared.objects.Equation.TheVariants as equation
use Rattle.flat_design.specs.declared.objects.IfArm.{IfArm}
use Rattle.flat_design.specs.declared.objects.Pair.{Pair}
use Rattle.flat_design.specs.declared.objects.Process.{Process}
use Rattle.flat_design.specs.declared.objects.Selection.TheVariants as selection
use Rattle.name_scope.specs.declared.thing.Kind.{Kind}
use Rattle.name_scope.specs.declared.thing.Kind.TheVariants.{Of}
use Rattle.name_scope.specs.declared.scope.Scope.{Scope}
use Rattle.elab_meaning.specs.declared.fault.Cause.TheVariants.{UnequalBranches}
use Rattle.elab_meaning.specs.declared.fault.Notes.{Notes}
use Rattle.elab_meaning.specs.declared.part.Part.{Part}
use Rattle.elab_meaning.specs.declared.part.Part.TheVariants.{Kept, Wrong, Hidden}
use Rattle.elab_meaning.specs.declared.typed.Asked.{Asked}
use Rattle.elab_meaning.specs.declared.typed.Context.{Context}
use Rattle.elab_meaning.specs.declared.typed.Typed.{Typed}
use Rattle.elab_meaning.specs.Notes.{noted}
use Rattle.elab_meaning.specs.Parts.{part_of, where_true, judged, both, closed}
use Rattle.elab_meaning.specs.Expressions.{static, static_in}
use Rattle.unit_meaning.specs.declared.draft.Made.TheVariants as made
use Rattle.unit_meaning.specs.declared.draft.Seen.{Seen}
use Rattle.unit_meaning.specs.Cases.{place_of, nothing_seen, with_value, fits_kind, choosing_value, one_choice, seen_or, beside, choices, covers}
use Rattle.unit_meaning.specs.Concurrent.{process_of, equation_of, concurrent}
use Rattle.unit_meaning.specs.Sequential.{kind_known}
use Rattle.unit_meaning.specs.Settings.{Setting, equating, choosing, typed, of_kind, must_be, ahead, listed, sealed, finished}
use Rattle.unit_meaning.specs.Simultaneous.{pair_of, pair, pairs, single, simple, same_lengths, first_length, compared, arm_of, if_arm, last_arm, if_lengths, chosen_if, if_statement, case_arm_of, case_arms, case_lengths, chosen_case, case_statement, equation_count}
use Rattle.walk_laws.specs.Steps.{IsNoInstance}
use Rattle.kept_laws.specs.Kept.{NamesAreFaultless}
use Rattle.tally_laws.specs.Tally.{made_size}
use Rattle.made_count_laws.proofs.Parts.{NoFaults, before_noted, NotHidden, IsKept, kept_shown, judged_shown, both_shown, where_shown, if_shown, closed_kept, closed_before, Reads, Keeps, keeps_reads, finished_keeps, typed_reads, asked_reads}

-- ---- lists

both_kept : (A B C : Type 0) (rule : A → B → Part C) → ((a : A) (b : B) → IsKept (rule a b)) → (p : Part A) (q : Part B) → IsKept p → IsKept q → IsKept (both rule p q)
both_kept A B C rule h (Kept a) (Kept b) k l = h a b
both_kept A B C rule h (Kept a) Wrong k l = l
both_kept A B C rule h (Kept a) Hidden k l = l
both_kept A B C rule h Wrong q k l = absurd k
both_kept A B C rule h Hidden q k l = absurd k

listed_keeps : (G A B : Type 0) (rule : B → Notes → Notes × Part A) → ((x : B) (n : Notes) → Reads G A n (rule x n)) → (all : List B) (n : Notes) → Reads G (List A) n (listed rule all n)
listed_keeps G A B rule h [] n = record { before = λ f. f; shown = λ g f. tt }
listed_keeps G A B rule h (x ∷ more) n =
    let first = rule x n in
    let rest = listed rule more first.0 in
    let one = h x n in
    let two = listed_keeps G A B rule h more first.0 in
    record {
      before = λ f. one.before (two.before f);
      shown = λ g f. both_shown A (List A) (List A) ahead (λ a b. tt) first.1 rest.1 (one.shown g (two.before f)) (two.shown g f);
    }

module _ (w : Setting) (scope : Scope) where
  abbrev Sound : Type 0
  Sound = NamesAreFaultless scope

  -- ---- equations

  pair_keeps : (q : Equation) (n : Notes) → Keeps Sound Pair n (pair w scope q n)
  pair_keeps q n =
      let left = typed w scope equating q.left n in
      let right = typed w scope equating q.right left.0 in
      let one = typed_reads w.texts scope equating q.left n in
      let two = typed_reads w.texts scope equating q.right left.0 in
      finished_keeps Sound Pair (place_of q.left) n (right.0, both pair_of left.1 right.1)
      (record {
        before = λ f. one.before (two.before f);
        shown = λ g f. both_shown Typed Typed Pair pair_of (λ a b. where_shown Pair _ _) left.1 right.1 (one.shown g (two.before f)) (two.shown g f);
      })

  pairs_read : (all : List Equation) (n : Notes) → Reads Sound (List Pair) n (pairs w scope all n)
  pairs_read all n = listed_keeps Sound Pair Equation (pair w scope) (λ q m. keeps_reads Sound Pair m (pair w scope q m) (pair_keeps q m)) all n

  single_size : (p : Part Pair) → IsKept p → made_size (equation_of (judged single p)) ≡ 1
  single_size (Kept p) h = refl
  single_size Wrong h = absurd h
  single_size Hidden h = absurd h

  simple_size : (q : Equation) (n : Notes) → Sound → NoFaults (simple w scope q n).0 → made_size (equation_of (simple w scope q n).1) ≡ 1
  simple_size q n g f = single_size (pair w scope q n).1 ((pair_keeps q n).kept_is g f)

  compared_before : (place : Place) (lengths : List ℕ) (n : Notes) → NoFaults (compared place lengths n) → NoFaults n
  compared_before place lengths n = go (same_lengths lengths)
    where
      go : (b : Bool) → NoFaults (if b then n else noted place UnequalBranches n) → NoFaults n
      go true f = f
      go false f = before_noted place UnequalBranches n f

  -- ---- if

  must_reads : (c : Context) (k : Kind) (x : Expr) (n : Notes) → Reads Sound FlatExpr n (must_be w scope c k x n)
  must_reads c k x n =
      let one = typed_reads w.texts scope c x n in
      record { before = one.before; shown = λ g f. judged_shown Typed FlatExpr (of_kind k) (λ a. where_shown FlatExpr _ _) (typed w scope c x n).1 (one.shown g f) }

  arm_reads : (b : SimultaneousBranch) (n : Notes) → Reads Sound IfArm n (if_arm w scope b n)
  arm_reads b n =
      let x = must_be w scope choosing (Of t.Boolean) b.condition n in
      let all = pairs w scope b.equations x.0 in
      let one = must_reads choosing (Of t.Boolean) b.condition n in
      let two = pairs_read b.equations x.0 in
      record {
        before = λ f. one.before (two.before f);
        shown = λ g f. both_shown FlatExpr (List Pair) IfArm arm_of (λ a l. tt) x.1 all.1 (one.shown g (two.before f)) (two.shown g f);
      }

  last_reads : (last : Option (List Equation)) (n : Notes) → Reads Sound (List Pair) n (last_arm w scope last n)
  last_reads None n = record { before = λ f. f; shown = λ g f. tt }
  last_reads (Some all) n = pairs_read all n

  if_size : (size : ℕ) (a : Part (List IfArm)) (b : Part (List Pair)) → IsKept (both (chosen_if size) a b) → made_size (equation_of (sealed (both (chosen_if size) a b))) ≡ size
  if_size size (Kept a) (Kept b) h = refl
  if_size size (Kept a) Wrong h = absurd h
  if_size size (Kept a) Hidden h = absurd h
  if_size size Wrong (Kept b) h = absurd h
  if_size size Wrong Wrong h = absurd h
  if_size size Wrong Hidden h = absurd h
  if_size size Hidden b h = absurd h

  if_makes : (place : Place) (all : List SimultaneousBranch) (last : Option (List Equation)) (n : Notes) → Sound → NoFaults (if_statement w scope place all last n).0
      → made_size (equation_of (if_statement w scope place all last n).1) ≡ first_length (if_lengths all last)
  if_makes place all last n g f =
      let arms = listed (if_arm w scope) all n in
      let rest = last_arm w scope last arms.0 in
      let one = listed_keeps Sound IfArm SimultaneousBranch (if_arm w scope) arm_reads all n in
      let two = last_reads last arms.0 in
      let whole = both (chosen_if (first_length (if_lengths all last))) arms.1 rest.1 in
      let here : NoFaults (compared place (if_lengths all last) rest.0) = closed_before Made place whole (compared place (if_lengths all last) rest.0) f in
      let ends : NoFaults rest.0 = compared_before place (if_lengths all last) rest.0 here in
      let shown : NotHidden whole =
      both_shown (List IfArm) (List Pair) Made (chosen_if (first_length (if_lengths all last))) (λ a b. tt) arms.1 rest.1 (one.shown g (two.before ends)) (two.shown g ends) in
      if_size (first_length (if_lengths all last)) arms.1 rest.1 (closed_kept Made place whole (compared place (if_lengths all last) rest.0) f shown)

  -- ---- case

  value_shown : (v : Option Val) (s : Seen) → NotHidden (with_value v s)
  value_shown (Some v) s = where_shown Seen _ _
  value_shown None s = tt

  choosing_shown : (k : Option Kind) (s : Seen) (a : Asked) → NotHidden (choosing_value k s a)
  choosing_shown k s a = if_shown Seen (fits_kind k a.kind) (with_value a.value s) Wrong (value_shown a.value s) tt

  choice_keeps : (c : Context) (k : Option Kind) (s : Seen) (x : Choice) (n : Notes) → Keeps Sound Seen n (one_choice w scope c k s x n)
  choice_keeps c k s (choice.Value x) n =
      let value = static w.texts scope x c n in
      let one = asked_reads w.texts scope c x n in
      finished_keeps Sound Seen (place_of x) n (value.0, judged (choosing_value k s) (part_of value.1))
      (record { before = one.before; shown = λ g f. judged_shown Asked Seen (choosing_value k s) (choosing_shown k s) (part_of value.1) (one.shown g f) })
  choice_keeps c k s (choice.Others place) n =
      finished_keeps Sound Seen place n (n, where_true (not s.others) (record s { others = true })) (record { before = λ f. f; shown = λ g f. where_shown Seen _ _ })

  -- what is shown of choices
  record ChoicesKeep (n : Notes) (found : Notes × (Seen × Part Bool)) : Type 0 where
    before : NoFaults found.0 → NoFaults n
    kept_is : Sound → NoFaults found.0 → IsKept found.1.1

  beside_kept : (A B : Type 0) (p : Part A) (q : Part B) → IsKept p → IsKept q → IsKept (beside p q)
  beside_kept A B (Kept a) q h k = k
  beside_kept A B Wrong q h k = absurd h
  beside_kept A B Hidden q h k = absurd h

  choices_keep : (c : Context) (k : Option Kind) (s : Seen) (all : List Choice) (n : Notes) → ChoicesKeep n (choices w scope c k s all n)
  choices_keep c k s [] n = record { before = λ f. f; kept_is = λ g f. tt }
  choices_keep c k s (x ∷ more) n =
      let one = one_choice w scope c k s x n in
      let rest = choices w scope c k (seen_or s one.1) more one.0 in
      let first = choice_keeps c k s x n in
      let others = choices_keep c k (seen_or s one.1) more one.0 in
      record {
        before = λ f. first.before (others.before f);
        kept_is = λ g f. beside_kept Seen Bool one.1 rest.1.1 (first.kept_is g (others.before f)) (others.kept_is g f);
      }

  record ArmsRead (n : Notes) (found : Notes × (Seen × Part (List CaseArm))) : Type 0 where
    before : NoFaults found.0 → NoFaults n
    shown : Sound → NoFaults found.0 → NotHidden found.1.1

  arms_read : (k : Option Kind) (seen : Seen) (all : List SimultaneousAlternative) (n : Notes) → ArmsRead n (case_arms w scope k seen all n)
  arms_read k seen [] n = record { before = λ f. f; shown = λ g f. tt }
  arms_read k seen (a ∷ more) n =
      let c = choices w scope (static_in equating) k seen a.choices n in
      let all = pairs w scope a.equations c.0 in
      let rest = case_arms w scope k c.1.0 more all.0 in
      let one = choices_keep (static_in equating) k seen a.choices n in
      let two = pairs_read a.equations c.0 in
      let three = arms_read k c.1.0 more all.0 in
      record {
        before = λ f. one.before (two.before (three.before f));
        shown = λ g f.
            let here = three.before f in
            both_shown CaseArm (List CaseArm) (List CaseArm) ahead (λ x y. tt) (both (case_arm_of seen c.1.0) c.1.1 all.1) rest.1.1
            (both_shown Bool (List Pair) CaseArm (case_arm_of seen c.1.0) (λ x y. tt) c.1.1 all.1 (kept_shown Bool c.1.1 (one.kept_is g (two.before here))) (two.shown g here)) (three.shown g f);
      }

  chosen_size : (b : Bool) (size : ℕ) (x : Typed) (arms : List CaseArm) → IsKept (where_true b (equation.Choice (record { selection = selection.Case x.expr arms; size = size })))
      → made_size (equation_of (sealed (where_true b (equation.Choice (record { selection = selection.Case x.expr arms; size = size }))))) ≡ size
  chosen_size true size x arms h = refl
  chosen_size false size x arms h = absurd h

  case_size : (seen : Seen) (size : ℕ) (a : Part Typed) (b : Part (List CaseArm)) → IsKept (both (chosen_case w seen size) a b) → made_size (equation_of (sealed (both (chosen_case w seen size) a b))) ≡ size
  case_size seen size (Kept a) (Kept b) h = chosen_size (covers w.enumerations a.kind seen) size a b h
  case_size seen size (Kept a) Wrong h = absurd h
  case_size seen size (Kept a) Hidden h = absurd h
  case_size seen size Wrong (Kept b) h = absurd h
  case_size seen size Wrong Wrong h = absurd h
  case_size seen size Wrong Hidden h = absurd h
  case_size seen size Hidden b h = absurd h

  case_makes : (place : Place) (x : Expr) (all : List SimultaneousAlternative) (n : Notes) → Sound → NoFaults (case_statement w scope place x all n).0
      → made_size (equation_of (case_statement w scope place x all n).1) ≡ first_length (case_lengths all)
  case_makes place x all n g f =
      let e = typed w scope choosing x n in
      let arms = case_arms w scope (kind_known e.1) nothing_seen all e.0 in
      let one = typed_reads w.texts scope choosing x n in
      let two = arms_read (kind_known e.1) nothing_seen all e.0 in
      let size = first_length (case_lengths all) in
      let whole = both (chosen_case w arms.1.0 size) e.1 arms.1.1 in
      let here : NoFaults (compared place (case_lengths all) arms.0) = closed_before Made place whole (compared place (case_lengths all) arms.0) f in
      let ends : NoFaults arms.0 = compared_before place (case_lengths all) arms.0 here in
      let shown : NotHidden whole =
      both_shown Typed (List CaseArm) Made (chosen_case w arms.1.0 size) (λ a b. where_shown Made _ _) e.1 arms.1.1 (one.shown g (two.before ends)) (two.shown g ends) in
      case_size arms.1.0 size e.1 arms.1.1 (closed_kept Made place whole (compared place (case_lengths all) arms.0) f shown)

  -- ---- by kind

  no_size : (p : Part Process) → made_size (process_of p) ≡ 0
  no_size (Kept p) = refl
  no_size Wrong = refl
  no_size Hidden = refl

  pub makes_as_counted : (label : Option Name) (x : ConcurrentStatement) (n : Notes) → IsNoInstance x → Sound → NoFaults (concurrent w scope label x n).0
      → made_size (concurrent w scope label x n).1 ≡ equation_count x
  makes_as_counted label (conc.Process p) n plain g f = no_size _
  makes_as_counted label (conc.Assign x d all last when) n plain g f = no_size _
  makes_as_counted label (conc.Assert a) n plain g f = no_size _
  makes_as_counted label (conc.Break p all names when) n plain g f = no_size _
  makes_as_counted label (conc.Equation q) n plain g f = simple_size q n g f
  makes_as_counted label (conc.If p all last) n plain g f = if_makes p all last n g f
  makes_as_counted label (conc.Case p x all) n plain g f = case_makes p x all n g f
  makes_as_counted label (conc.Instance i) n plain g f = absurd plain
