-- Simultaneous statements, and the dots in what they make.
use Rattle.std.proofs.Common.{◌≡◌, ◌≤◌, ℕ, Bool, true, false, if◌then◌else◌, List, [], ◌∷◌, ◌++◌, length, append-nil, Option, Some, None, refl, sym, ap, ◌∙◌, subst}
use Rattle.std.specs.Prelude.{nat_eq, not, IsSome, ◌||◌}
use Rattle.std.specs.List.{list_any, flat_map}
use Rattle.std.proofs.lemmas.Bool.{or_left}
use Rattle.std.proofs.lemmas.List.Folds.{list_any-append}
use Rattle.std.proofs.lemmas.List.Concat.{flat_map-append}
use Rattle.ams_token.specs.declared.token.Place.{Place}
use Rattle.ams_tree.specs.declared.concurrent.ConcurrentStatement.{ConcurrentStatement}
use Rattle.ams_tree.specs.declared.concurrent.ConcurrentStatement.TheVariants as conc
use Rattle.ams_tree.specs.declared.concurrent.Equation.{Equation}
use Rattle.ams_tree.specs.declared.concurrent.SimultaneousAlternative.{SimultaneousAlternative}
use Rattle.ams_tree.specs.declared.concurrent.SimultaneousBranch.{SimultaneousBranch}
use Rattle.ams_tree.specs.declared.expression.Expr.{Expr}
use Rattle.ams_tree.specs.declared.sequential.Choice.{Choice}
use Rattle.ams_tree.specs.declared.sequential.Choice.TheVariants as choice
use Rattle.ams_value.specs.declared.val.Val.{Val}
use Rattle.ams_value.specs.declared.value_type.ValueType.TheVariants as t
use Rattle.flat_expr.specs.declared.expr.FlatExpr.{FlatExpr}
use Rattle.flat_expr.specs.declared.expr.Unknown.{Unknown}
use Rattle.flat_design.specs.Limits.{unknown_limit}
use Rattle.flat_design.specs.declared.objects.CaseArm.{CaseArm}
use Rattle.flat_design.specs.declared.objects.Equation.{Equation as Made}
use Rattle.flat_design.specs.declared.objects.Equation.TheVariants as equation
use Rattle.flat_design.specs.declared.objects.IfArm.{IfArm}
use Rattle.flat_design.specs.declared.objects.Pair.{Pair}
use Rattle.flat_design.specs.declared.objects.Process.{Process}
use Rattle.flat_design.specs.declared.objects.Selection.TheVariants as selection
use Rattle.name_scope.specs.declared.scope.Scope.{Scope}
use Rattle.name_scope.specs.declared.thing.Kind.{Kind}
use Rattle.name_scope.specs.declared.thing.Kind.TheVariants.{Of}
use Rattle.elab_meaning.specs.declared.fault.Cause.TheVariants.{UnequalBranches}
use Rattle.elab_meaning.specs.declared.fault.Fault.{Fault}
use Rattle.elab_meaning.specs.declared.fault.Notes.{Notes}
use Rattle.elab_meaning.specs.declared.part.Part.{Part}
use Rattle.elab_meaning.specs.declared.part.Part.TheVariants.{Kept, Wrong, Hidden}
use Rattle.elab_meaning.specs.declared.typed.Asked.{Asked}
use Rattle.elab_meaning.specs.declared.typed.Context.{Context}
use Rattle.elab_meaning.specs.declared.typed.StaticValue.{StaticValue}
use Rattle.elab_meaning.specs.declared.typed.StaticValue.TheVariants.{Known, Faulty, Later, Changing}
use Rattle.elab_meaning.specs.declared.typed.Typed.{Typed}
use Rattle.elab_meaning.specs.Kinds.{same_kind}
use Rattle.elab_meaning.specs.Notes.{noted}
use Rattle.elab_meaning.specs.Parts.{part_of, where_true, judged, both, closed}
use Rattle.elab_meaning.specs.Expressions.{expression, asked_value, asked, static_in, static}
use Rattle.unit_meaning.specs.declared.draft.Seen.{Seen}
use Rattle.unit_meaning.specs.Settings.{Setting, equating, choosing, typed, of_kind, must_be, ahead, listed}
use Rattle.unit_meaning.specs.Cases.{place_of, nothing_seen, with_value, fits_kind, choosing_value, one_choice, seen_or, choices, covers, beside}
use Rattle.unit_meaning.specs.Concurrent.{process_of, equation_of}
use Rattle.unit_meaning.specs.Sequential.{kind_known}
use Rattle.unit_meaning.specs.Simultaneous.{single, pair, simple, pairs, same_lengths, first_length, compared, arm_of, if_arm, last_arm, if_lengths, chosen_if, if_statement, case_arm_of, case_arms, case_lengths, chosen_case, case_statement, dots_in, dots_in_equations, equations_or, equations_in}
use Rattle.design_rules.specs.Equations.{stands_in, pairs_in}
use Rattle.reading_laws.specs.Growing.{Extends, Grows}
use Rattle.reading_laws.proofs.Growing.{grows_same, grows_on, grows_noted, grows_asked}
use Rattle.reading_laws.proofs.Reading.{reading_adds_notes}
use Rattle.choice_laws.proofs.Seen.{grows_choices}
use Rattle.draft_laws.proofs.Notes.{grows_closed}
use Rattle.scope_laws.specs.Holds.{HasNoFaults}
use Rattle.selector_laws.specs.Selectors.{in_pairs, KeepsReadings, DotsStand, SelectorsHaveDots}
use Rattle.selector_laws.proofs.Dots.{fine_before}
use Rattle.selector_laws.proofs.Expressions.{same_dots, more_dots}
use Rattle.selector_laws.proofs.Parts.{OnShown, OnWhole, judged_shown, both_shown, where_shown, sealed_whole, Each, each_wider, each_both, names_in, in_pair, pair_reads, grows_pairs, pairs_read}

abbrev Any : (A : Type 0) → A → Type 0
Any A a = Unit {0}

any_shown : (A : Type 0) (R : A → Type 0) (p : Part A) → OnShown A R p → OnShown A (Any A) p
any_shown A R (Kept a) h = tt
any_shown A R Wrong h = tt
any_shown A R Hidden h = absurd h

grows_compared : (place : Place) (lengths : List ℕ) (n : Notes) → Grows n (compared place lengths n)
grows_compared place lengths n = go (same_lengths lengths)
  where
    go : (b : Bool) → Grows n (if b then n else noted place UnequalBranches n)
    go true = grows_same n
    go false = grows_noted place UnequalBranches n

none_there : (A : Type 0) → IsSome {T = A} None → ⊥
none_there A h = cc

module _ (w : Setting) (scope : Scope) (keeps : KeepsReadings w.texts scope) where
  abbrev Dots : List ℕ → List ℕ → (Unknown → Bool) → Type 0
  Dots = Each w scope keeps

  -- ---- lists of branches

  names_more : (a b : List Equation) → dots_in_equations (a ++ b) ≡ dots_in_equations a ++ dots_in_equations b
  names_more a b = flat_map-append (λ (q : Equation). dots_in q.left ++ dots_in q.right) a b

  joined : (a b : List Equation) (all : List ℕ) (ps qs : List Pair) → Dots (dots_in_equations a) all (in_pairs ps) → Dots (dots_in_equations b) all (in_pairs qs) → Dots (dots_in_equations (a ++ b)) all (in_pairs (ps ++ qs))
  joined a b all ps qs h g =
      subst (λ (names : List ℕ). Dots names all (in_pairs (ps ++ qs))) (sym (names_more a b))
      (each_wider w scope keeps (dots_in_equations a ++ dots_in_equations b) all (λ u. in_pairs ps u || in_pairs qs u) (in_pairs (ps ++ qs))
      (λ u is. list_any-append (λ (p : Pair). stands_in u p.left || stands_in u p.right) ps qs ∙ is) (each_both w scope keeps (dots_in_equations a) (dots_in_equations b) all (in_pairs ps) (in_pairs qs) h g))

  -- ---- if

  must_shown : (x : Expr) (n : Notes) → HasNoFaults (must_be w scope choosing (Of t.Boolean) x n).0 → OnShown FlatExpr (Any FlatExpr) (must_be w scope choosing (Of t.Boolean) x n).1
  must_shown x n fine =
      let found = typed w scope choosing x n in
      judged_shown Typed FlatExpr (Any Typed) (Any FlatExpr) (of_kind (Of t.Boolean)) (λ a h. where_shown FlatExpr (Any FlatExpr) (same_kind a.kind (Of t.Boolean)) a.expr tt) found.1 (on (expression w.texts scope x choosing n).1 (keeps x choosing n fine))
    where
      on : (o : Option Typed) → IsSome o → OnShown Typed (Any Typed) (part_of o)
      on (Some a) h = tt
      on None h = absurd (none_there Typed h)

  abbrev arm_pairs : List IfArm → List Pair
  arm_pairs arms = flat_map (λ (arm : IfArm). arm.pairs) arms

  abbrev branch_equations : List SimultaneousBranch → List Equation
  branch_equations all = flat_map (λ (b : SimultaneousBranch). b.equations) all

  grows_arm : (b : SimultaneousBranch) (n : Notes) → Grows n (if_arm w scope b n).0
  grows_arm b n =
      let x = must_be w scope choosing (Of t.Boolean) b.condition n in
      grows_on n x.0 (if_arm w scope b n).0 (reading_adds_notes w.texts scope b.condition choosing n) (grows_pairs w scope keeps b.equations x.0)

  arm_reads : (b : SimultaneousBranch) (n : Notes) (all : List ℕ) → Extends ℕ (if_arm w scope b n).0.dots all → length all ≤ unknown_limit → HasNoFaults (if_arm w scope b n).0
      → OnShown IfArm (λ arm. Dots (dots_in_equations b.equations) all (in_pairs arm.pairs)) (if_arm w scope b n).1
  arm_reads b n all e short fine =
      let x = must_be w scope choosing (Of t.Boolean) b.condition n in
      let ps = pairs w scope b.equations x.0 in
      both_shown FlatExpr (List Pair) IfArm (Any FlatExpr) (λ qs. Dots (dots_in_equations b.equations) all (in_pairs qs)) (λ arm. Dots (dots_in_equations b.equations) all (in_pairs arm.pairs)) arm_of (λ y qs h g. g)
      x.1 ps.1 (must_shown b.condition n (fine_before x.0 ps.0 (grows_pairs w scope keeps b.equations x.0) fine)) (pairs_read w scope keeps b.equations x.0 all e short fine)

  grows_arms : (bs : List SimultaneousBranch) (n : Notes) → Grows n (listed (if_arm w scope) bs n).0
  grows_arms [] n = grows_same n
  grows_arms (b ∷ more) n = grows_on n (if_arm w scope b n).0 (listed (if_arm w scope) more (if_arm w scope b n).0).0 (grows_arm b n) (grows_arms more (if_arm w scope b n).0)

  arms_read : (bs : List SimultaneousBranch) (n : Notes) (all : List ℕ) → Extends ℕ (listed (if_arm w scope) bs n).0.dots all → length all ≤ unknown_limit → HasNoFaults (listed (if_arm w scope) bs n).0
      → OnShown (List IfArm) (λ arms. Dots (dots_in_equations (branch_equations bs)) all (in_pairs (arm_pairs arms))) (listed (if_arm w scope) bs n).1
  arms_read [] n all e short fine = λ x i c named there. absurd (cc)
  arms_read (b ∷ more) n all e short fine =
      let first = if_arm w scope b n in
      let rest = listed (if_arm w scope) more first.0 in
      let on : Grows first.0 rest.0 = grows_arms more first.0 in
      both_shown IfArm (List IfArm) (List IfArm) (λ arm. Dots (dots_in_equations b.equations) all (in_pairs arm.pairs)) (λ arms. Dots (dots_in_equations (branch_equations more)) all (in_pairs (arm_pairs arms)))
      (λ arms. Dots (dots_in_equations (branch_equations (b ∷ more))) all (in_pairs (arm_pairs arms))) ahead
      (λ arm arms h g. joined b.equations (branch_equations more) all arm.pairs (arm_pairs arms) h g) first.1 rest.1
      (arm_reads b n all (more_dots first.0.dots rest.0.dots all on.dots e) short (fine_before first.0 rest.0 on fine)) (arms_read more first.0 all e short fine)

  grows_last : (last : Option (List Equation)) (n : Notes) → Grows n (last_arm w scope last n).0
  grows_last None n = grows_same n
  grows_last (Some qs) n = grows_pairs w scope keeps qs n

  last_reads : (last : Option (List Equation)) (n : Notes) (all : List ℕ) → Extends ℕ (last_arm w scope last n).0.dots all → length all ≤ unknown_limit → HasNoFaults (last_arm w scope last n).0
      → OnShown (List Pair) (λ ps. Dots (dots_in_equations (equations_or last)) all (in_pairs ps)) (last_arm w scope last n).1
  last_reads None n all e short fine = tt
  last_reads (Some qs) n all e short fine = pairs_read w scope keeps qs n all e short fine

  abbrev HasDots : List Equation → List ℕ → Made → Type 0
  HasDots qs all m = Dots (dots_in_equations qs) all (in_pairs (pairs_in m))

  if_whole : (place : Place) (bs : List SimultaneousBranch) (last : Option (List Equation)) (n : Notes) → HasNoFaults (if_statement w scope place bs last n).0 → length (if_statement w scope place bs last n).0.dots ≤ unknown_limit
      → OnWhole Made (HasDots (branch_equations bs ++ equations_or last) (if_statement w scope place bs last n).0.dots) (if_statement w scope place bs last n).1
  if_whole place bs last n fine short =
      let arms = listed (if_arm w scope) bs n in
      let rest = last_arm w scope last arms.0 in
      let size = first_length (if_lengths bs last) in
      let here = compared place (if_lengths bs last) rest.0 in
      let whole = both (chosen_if size) arms.1 rest.1 in
      let behind = closed place whole here in
      let all = behind.dots in
      let to_here : Grows rest.0 here = grows_compared place (if_lengths bs last) rest.0 in
      let to_end : Grows rest.0 behind = grows_on rest.0 here behind to_here (grows_closed Made place whole here) in
      let on : Grows arms.0 rest.0 = grows_last last arms.0 in
      let fine_rest : HasNoFaults rest.0 = fine_before rest.0 behind to_end fine in
      sealed_whole Made (HasDots (branch_equations bs ++ equations_or last) all) place whole here fine
      (both_shown (List IfArm) (List Pair) Made (λ xs. Dots (dots_in_equations (branch_equations bs)) all (in_pairs (arm_pairs xs))) (λ ps. Dots (dots_in_equations (equations_or last)) all (in_pairs ps))
      (HasDots (branch_equations bs ++ equations_or last) all) (chosen_if size) (λ xs ps h g. joined (branch_equations bs) (equations_or last) all (arm_pairs xs) ps h g) arms.1 rest.1
      (arms_read bs n all (more_dots arms.0.dots rest.0.dots all on.dots to_end.dots) short (fine_before arms.0 rest.0 on fine_rest)) (last_reads last arms.0 all to_end.dots short fine_rest))

  -- ---- choices

  asked_value_there : (place : Place) (k : Kind) (v : StaticValue) (n : Notes) → HasNoFaults (asked_value place k v n).0 → IsSome (asked_value place k v n).1
  asked_value_there place k (Known v) n h = refl
  asked_value_there place k Faulty n h = absurd (not_added n.faults _ h)
    where
      not_added : (xs : List Fault) (x : Fault) → xs ++ x ∷ [] ≡ [] → ⊥
      not_added [] x h = absurd (cc)
      not_added (y ∷ xs) x h = absurd (cc)
  asked_value_there place k Later n h = refl
  asked_value_there place k Changing n h = refl

  asked_there : (o : Option Typed) (n : Notes) → IsSome o → HasNoFaults (asked o n).0 → IsSome (asked o n).1
  asked_there (Some a) n some h = asked_value_there a.place a.kind a.value n h
  asked_there None n some h = absurd (none_there Typed some)

  static_there : (c : Context) (x : Expr) (n : Notes) → HasNoFaults (static w.texts scope x c n).0 → IsSome (static w.texts scope x c n).1
  static_there c x n fine =
      let found = expression w.texts scope x (static_in c) n in
      asked_there found.1 found.0 (keeps x (static_in c) n (fine_before found.0 (asked found.1 found.0).0 (grows_asked found.1 found.0) fine)) fine

  value_shown : (s : Seen) (v : Option Val) → OnShown Seen (Any Seen) (with_value v s)
  value_shown s (Some v) = where_shown Seen (Any Seen) _ _ tt
  value_shown s None = tt

  choosing_shown : (k : Option Kind) (s : Seen) (a : Asked) → OnShown Seen (Any Seen) (choosing_value k s a)
  choosing_shown k s a = go (fits_kind k a.kind)
    where
      go : (b : Bool) → OnShown Seen (Any Seen) (if b then with_value a.value s else Wrong)
      go true = value_shown s a.value
      go false = tt

  one_there : (c : Context) (k : Option Kind) (s : Seen) (x : Choice) (n : Notes) → HasNoFaults (one_choice w scope c k s x n).0 → OnWhole Seen (Any Seen) (one_choice w scope c k s x n).1
  one_there c k s (choice.Value x) n fine =
      let value = static w.texts scope x c n in
      let part = judged (choosing_value k s) (part_of value.1) in
      sealed_whole Seen (Any Seen) (place_of x) part value.0 fine
      (judged_shown Asked Seen (Any Asked) (Any Seen) (choosing_value k s) (λ a h. choosing_shown k s a) (part_of value.1)
      (on value.1 (static_there c x n (fine_before value.0 (closed (place_of x) part value.0) (grows_closed Seen (place_of x) part value.0) fine))))
    where
      on : (o : Option Asked) → IsSome o → OnShown Asked (Any Asked) (part_of o)
      on (Some a) h = tt
      on None h = absurd (none_there Asked h)
  one_there c k s (choice.Others place) n fine =
      sealed_whole Seen (Any Seen) place (where_true (not s.others) (record s { others = true })) n fine (where_shown Seen (Any Seen) (not s.others) (record s { others = true }) tt)

  beside_there : (p : Part Seen) (q : Part Bool) → OnWhole Seen (Any Seen) p → OnShown Bool (Any Bool) q → OnShown Bool (Any Bool) (beside p q)
  beside_there (Kept s) q h g = g
  beside_there Wrong q h g = absurd h
  beside_there Hidden q h g = absurd h

  choices_there : (c : Context) (k : Option Kind) (s : Seen) (xs : List Choice) (n : Notes) → HasNoFaults (choices w scope c k s xs n).0 → OnShown Bool (Any Bool) (choices w scope c k s xs n).1.1
  choices_there c k s [] n fine = tt
  choices_there c k s (x ∷ more) n fine =
      let one = one_choice w scope c k s x n in
      let rest = choices w scope c k (seen_or s one.1) more one.0 in
      beside_there one.1 rest.1.1 (one_there c k s x n (fine_before one.0 rest.0 (grows_choices w scope c k (seen_or s one.1) more one.0) fine)) (choices_there c k (seen_or s one.1) more one.0 fine)

  -- ---- case

  abbrev case_pairs : List CaseArm → List Pair
  case_pairs arms = flat_map (λ (arm : CaseArm). arm.pairs) arms

  abbrev case_equations : List SimultaneousAlternative → List Equation
  case_equations all = flat_map (λ (a : SimultaneousAlternative). a.equations) all

  grows_case : (k : Option Kind) (s : Seen) (alts : List SimultaneousAlternative) (n : Notes) → Grows n (case_arms w scope k s alts n).0
  grows_case k s [] n = grows_same n
  grows_case k s (a ∷ more) n =
      let c = choices w scope (static_in equating) k s a.choices n in
      let ps = pairs w scope a.equations c.0 in
      let rest = case_arms w scope k c.1.0 more ps.0 in
      grows_on n c.0 rest.0 (grows_choices w scope (static_in equating) k s a.choices n) (grows_on c.0 ps.0 rest.0 (grows_pairs w scope keeps a.equations c.0) (grows_case k c.1.0 more ps.0))

  case_reads : (k : Option Kind) (s : Seen) (alts : List SimultaneousAlternative) (n : Notes) (all : List ℕ) → Extends ℕ (case_arms w scope k s alts n).0.dots all → length all ≤ unknown_limit
      → HasNoFaults (case_arms w scope k s alts n).0 → OnShown (List CaseArm) (λ arms. Dots (dots_in_equations (case_equations alts)) all (in_pairs (case_pairs arms))) (case_arms w scope k s alts n).1.1
  case_reads k s [] n all e short fine = λ x i c named there. absurd (cc)
  case_reads k s (a ∷ more) n all e short fine =
      let c = choices w scope (static_in equating) k s a.choices n in
      let ps = pairs w scope a.equations c.0 in
      let rest = case_arms w scope k c.1.0 more ps.0 in
      let to_ps : Grows c.0 ps.0 = grows_pairs w scope keeps a.equations c.0 in
      let to_rest : Grows ps.0 rest.0 = grows_case k c.1.0 more ps.0 in
      let fine_ps : HasNoFaults ps.0 = fine_before ps.0 rest.0 to_rest fine in
      both_shown CaseArm (List CaseArm) (List CaseArm) (λ arm. Dots (dots_in_equations a.equations) all (in_pairs arm.pairs)) (λ arms. Dots (dots_in_equations (case_equations more)) all (in_pairs (case_pairs arms)))
      (λ arms. Dots (dots_in_equations (case_equations (a ∷ more))) all (in_pairs (case_pairs arms))) ahead
      (λ arm arms h g. joined a.equations (case_equations more) all arm.pairs (case_pairs arms) h g) (both (case_arm_of s c.1.0) c.1.1 ps.1) rest.1.1
      (both_shown Bool (List Pair) CaseArm (Any Bool) (λ qs. Dots (dots_in_equations a.equations) all (in_pairs qs)) (λ arm. Dots (dots_in_equations a.equations) all (in_pairs arm.pairs)) (case_arm_of s c.1.0)
      (λ b qs h g. g) c.1.1 ps.1 (choices_there (static_in equating) k s a.choices n (fine_before c.0 ps.0 to_ps fine_ps))
      (pairs_read w scope keeps a.equations c.0 all (more_dots ps.0.dots rest.0.dots all to_rest.dots e) short fine_ps))
      (case_reads k c.1.0 more ps.0 all e short fine)

  case_whole : (place : Place) (x : Expr) (alts : List SimultaneousAlternative) (n : Notes) → HasNoFaults (case_statement w scope place x alts n).0 → length (case_statement w scope place x alts n).0.dots ≤ unknown_limit
      → OnWhole Made (HasDots (case_equations alts) (case_statement w scope place x alts n).0.dots) (case_statement w scope place x alts n).1
  case_whole place x alts n fine short =
      let e = typed w scope choosing x n in
      let arms = case_arms w scope (kind_known e.1) nothing_seen alts e.0 in
      let size = first_length (case_lengths alts) in
      let here = compared place (case_lengths alts) arms.0 in
      let whole = both (chosen_case w arms.1.0 size) e.1 arms.1.1 in
      let behind = closed place whole here in
      let all = behind.dots in
      let to_end : Grows arms.0 behind = grows_on arms.0 here behind (grows_compared place (case_lengths alts) arms.0) (grows_closed Made place whole here) in
      let on : Grows e.0 arms.0 = grows_case (kind_known e.1) nothing_seen alts e.0 in
      let fine_arms : HasNoFaults arms.0 = fine_before arms.0 behind to_end fine in
      sealed_whole Made (HasDots (case_equations alts) all) place whole here fine
      (both_shown Typed (List CaseArm) Made (Any Typed) (λ l. Dots (dots_in_equations (case_equations alts)) all (in_pairs (case_pairs l))) (HasDots (case_equations alts) all) (chosen_case w arms.1.0 size)
      (λ y l h g. where_shown Made (HasDots (case_equations alts) all) (covers w.enumerations y.kind arms.1.0) (equation.Choice (record { selection = selection.Case y.expr l; size = size })) g) e.1 arms.1.1
      (there (expression w.texts scope x choosing n).1 (keeps x choosing n (fine_before e.0 arms.0 on fine_arms)))
      (case_reads (kind_known e.1) nothing_seen alts e.0 all to_end.dots short fine_arms))
    where
      there : (o : Option Typed) → IsSome o → OnShown Typed (Any Typed) (part_of o)
      there (Some a) h = tt
      there None h = absurd (none_there Typed h)

  -- ---- simple

  single_whole : (q : Equation) (n : Notes) → HasNoFaults (simple w scope q n).0 → length (simple w scope q n).0.dots ≤ unknown_limit → OnWhole Made (HasDots (q ∷ []) (simple w scope q n).0.dots) (simple w scope q n).1
  single_whole q n fine short = on (pair w scope q n).1 (pair_reads w scope keeps q n (pair w scope q n).0.dots (same_dots (pair w scope q n).0.dots) short fine)
    where
      on : (p : Part Pair) → OnWhole Pair (λ p. Dots (names_in w scope keeps q) (pair w scope q n).0.dots (in_pair w scope keeps p)) p → OnWhole Made (HasDots (q ∷ []) (pair w scope q n).0.dots) (judged single p)
      on (Kept p) h =
          subst (λ (names : List ℕ). Dots names (pair w scope q n).0.dots (in_pairs (p ∷ []))) (sym (append-nil (dots_in q.left ++ dots_in q.right)))
          (each_wider w scope keeps (dots_in q.left ++ dots_in q.right) (pair w scope q n).0.dots (in_pair w scope keeps p) (in_pairs (p ∷ [])) (λ u is. or_left (in_pair w scope keeps p u) false is) h)
      on Wrong h = absurd h
      on Hidden h = absurd h

-- ---- the whole

module _ (scope : Scope) (dots : List ℕ) where
  process_stands : (s : ConcurrentStatement) → dots_in_equations (equations_in s) ≡ [] → (p : Part Process) → DotsStand scope dots s (process_of p)
  process_stands s none (Kept p) = λ x. ap (list_any (nat_eq x)) none
  process_stands s none Wrong = λ x. ap (list_any (nat_eq x)) none
  process_stands s none Hidden = λ x. ap (list_any (nat_eq x)) none

  equation_stands : (w : Setting) (keeps : KeepsReadings w.texts scope) (s : ConcurrentStatement) (q : Part Made) → OnWhole Made (λ m. Each w scope keeps (dots_in_equations (equations_in s)) dots (in_pairs (pairs_in m))) q
      → DotsStand scope dots s (equation_of q)
  equation_stands w keeps s (Kept q) h = h
  equation_stands w keeps s Wrong h = absurd h
  equation_stands w keeps s Hidden h = absurd h

pub selectors_have_dots : SelectorsHaveDots
selectors_have_dots w scope label (conc.Process p) n keeps fine short = process_stands scope _ (conc.Process p) refl _
selectors_have_dots w scope label (conc.Assign x delay all last when) n keeps fine short = process_stands scope _ (conc.Assign x delay all last when) refl _
selectors_have_dots w scope label (conc.Assert a) n keeps fine short = process_stands scope _ (conc.Assert a) refl _
selectors_have_dots w scope label (conc.Break place elements names when) n keeps fine short = process_stands scope _ (conc.Break place elements names when) refl _
selectors_have_dots w scope label (conc.Equation q) n keeps fine short = equation_stands scope _ w keeps (conc.Equation q) _ (single_whole w scope keeps q n fine short)
selectors_have_dots w scope label (conc.If place all last) n keeps fine short = equation_stands scope _ w keeps (conc.If place all last) _ (if_whole w scope keeps place all last n fine short)
selectors_have_dots w scope label (conc.Case place x all) n keeps fine short = equation_stands scope _ w keeps (conc.Case place x all) _ (case_whole w scope keeps place x all n fine short)
selectors_have_dots w scope label (conc.Instance i) n keeps fine short = λ x. refl
