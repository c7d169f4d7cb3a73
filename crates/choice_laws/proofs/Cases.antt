-- Cases that are read, sequential and simultaneous.
use Rattle.std.proofs.Common.{◌≡◌, ◌+◌, ◌<◌, ℕ, suc, Bool, true, false, if◌then◌else◌, List, [], ◌∷◌, ◌++◌, length, map, Option, Some, None, refl, sym, ap, ◌∙◌, subst, arith}
use Rattle.std.specs.Prelude.{nat_eq, ◌&&◌}
use Rattle.std.specs.List.{All, list_all, flat_map}
use Rattle.std.proofs.lemmas.Bool.Decides.{nat_tests}
use Rattle.std.proofs.lemmas.List.Elements.{All-nil, All-cons}
use Rattle.ams_token.specs.declared.token.Place.{Place}
use Rattle.ams_tree.specs.declared.expression.Expr.{Expr}
use Rattle.ams_tree.specs.declared.concurrent.Equation.{Equation}
use Rattle.ams_tree.specs.declared.concurrent.SimultaneousAlternative.{SimultaneousAlternative}
use Rattle.ams_value.specs.declared.val.Val.{Val}
use Rattle.ams_value.specs.declared.value_type.ValueType.{ValueType}
use Rattle.flat_expr.specs.declared.expr.FlatExpr.{FlatExpr}
use Rattle.flat_expr.specs.declared.statement.Statement.{Statement}
use Rattle.flat_expr.specs.declared.statement.Alternative.{Alternative, out-Alternative}
use Rattle.flat_design.specs.declared.objects.CaseArm.{CaseArm}
use Rattle.flat_design.specs.declared.objects.Equation.{Equation as Made}
use Rattle.flat_design.specs.declared.objects.Equation.TheVariants as equation
use Rattle.flat_design.specs.declared.objects.Selection.TheVariants as selection
use Rattle.flat_design.specs.declared.objects.Objects.{Objects}
use Rattle.flat_design.specs.declared.objects.Pair.{Pair}
use Rattle.name_scope.specs.declared.thing.Kind.{Kind}
use Rattle.name_scope.specs.declared.thing.Kind.TheVariants.{Of, Vector}
use Rattle.name_scope.specs.declared.scope.Scope.{Scope}
use Rattle.elab_meaning.specs.declared.fault.Cause.TheVariants.{UnequalBranches}
use Rattle.elab_meaning.specs.declared.fault.Notes.{Notes}
use Rattle.elab_meaning.specs.declared.part.Part.{Part}
use Rattle.elab_meaning.specs.declared.part.Part.TheVariants.{Kept, Wrong, Hidden}
use Rattle.elab_meaning.specs.declared.typed.Typed.{Typed}
use Rattle.elab_meaning.specs.Notes.{noted}
use Rattle.elab_meaning.specs.Parts.{where_true, judged, both}
use Rattle.elab_meaning.specs.Expressions.{static_in}
use Rattle.unit_meaning.specs.declared.draft.Draft.{Draft}
use Rattle.unit_meaning.specs.declared.draft.Seen.{Seen}
use Rattle.unit_meaning.specs.declared.draft.Spot.{Spot}
use Rattle.unit_meaning.specs.Settings.{Setting, running, equating, choosing, typed, ahead}
use Rattle.unit_meaning.specs.Cases.{nothing_seen, choices, values_since, others_since, covers}
use Rattle.unit_meaning.specs.Sequential.{with_notes, way_to, body, made_alternative, alternative_step, alternatives, kind_known}
use Rattle.unit_meaning.specs.Simultaneous.{single, pair, pairs, same_lengths, first_length, compared, case_arm_of, case_arms, case_lengths, chosen_case, case_statement}
use Rattle.design_meaning.specs.Typed as flat
use Rattle.design_meaning.specs.Typed.{HasType}
use Rattle.design_rules.specs.Types.{equation_scope, sizes_of, IsVisible}
use Rattle.design_rules.specs.Equations.{IsPair, IsBody, IsEquation, IsCase}
use Rattle.reading_laws.specs.Growing.{Grows}
use Rattle.reading_laws.proofs.Growing.{grows_same, grows_on, grows_noted}
use Rattle.typed_laws.specs.Fitting.{ScopeFits, HasRoom, HasKind, IsRead}
use Rattle.typed_laws.proofs.Typing.{room_before}
use Rattle.part_laws.specs.Parts.{OnKept, KeepsPart}
use Rattle.part_laws.proofs.Parts.{judged_kept, both_kept, where_kept, finished_keeps, AllOf, Every, listed_keeps, typed_keeps}
use Rattle.equation_laws.proofs.Equations.{statements_make_equations}
use Rattle.choice_laws.specs.Choices.{IsFine, AsksValues, CountsLiterals, CountsOf, WrittenAlternative, BodyGrows, EachGrows, HasChoices, ChoicesAreRight}
use Rattle.choice_laws.proofs.Seen.{NoFaults, no_faults_before, Further, further_same, further_on, SeenFits, SeenBehind, choices_keep, grows_choices, Listed, listed_none, listed_more, nothing_fits, choices_are}

-- ---- sequential cases

abbrev values_of : Alternative → List Val
values_of a = (out-Alternative a).choices

abbrev others_of : Alternative → Bool
others_of a = (out-Alternative a).others

-- an alternative has the choices that were seen in it
record HasSeen (s t : Seen) (a : Alternative) : Type 0 where
  values : values_of a ≡ values_since s t
  others : others_of a ≡ others_since s t

abbrev ListedIn : Seen → Seen → List Alternative → Type 0
ListedIn s t all = Listed s t (flat_map values_of all) (map others_of all)

module _ (objects : flat.Scope) (w : Setting) (scope : Scope) (asks : AsksValues objects w.texts scope) (k : ValueType) where
  abbrev Goes : Seen → Seen → Type 0
  Goes s t = Further objects.enumerations k s t

  -- one alternative
  record OneBehind (s : Seen) (d : Draft) (found : Draft × (Seen × Part Alternative)) : Type 0 where
    grows : Grows d.notes found.0.notes
    further : NoFaults found.0.notes → Goes s found.1.0
    listed : OnKept (HasSeen s found.1.0) found.1.1

  made_seen : (s t : Seen) (fine : Bool) (all : List Statement) → OnKept (HasSeen s t) (made_alternative s t fine all)
  made_seen s t fine all = record { values = refl; others = refl }

  anything_kept : (A : Type 0) (p : Part A) → OnKept (λ (a : A). Unit {0}) p
  anything_kept A (Kept a) = tt
  anything_kept A Wrong = tt
  anything_kept A Hidden = tt

  one_alternative : (a : WrittenAlternative) → BodyGrows a → (spot : Spot) (s : Seen) (d : Draft) → OneBehind s d (alternative_step w a scope spot (Some (Of k)) s d)
  one_alternative a goes spot s d =
      let c = choices w scope (static_in running) (Some (Of k)) s a.choices d.notes in
      let all = body a.body scope spot 0 (with_notes c.0 d) in
      let first : SeenBehind objects w scope asks (static_in running) k s d.notes c = choices_keep objects w scope asks (static_in running) k s a.choices d.notes in
      let rest : Grows c.0 all.0.notes = goes scope spot (with_notes c.0 d) in
      record {
        grows = grows_on d.notes c.0 all.0.notes first.grows rest;
        further = λ fine. first.further (no_faults_before c.0 all.0.notes rest fine);
        listed =
            both_kept Bool (List Statement) Alternative (λ (b : Bool). Unit {0}) (λ (l : List Statement). Unit {0}) (HasSeen s c.1.0) (made_alternative s c.1.0)
            (λ b l h g. made_seen s c.1.0 b l) c.1.1 all.1 (anything_kept Bool c.1.1) (anything_kept (List Statement) all.1);
      }

  -- several
  record SomeBehind (s : Seen) (d : Draft) (found : Draft × (Seen × Part (List Alternative))) : Type 0 where
    grows : Grows d.notes found.0.notes
    further : NoFaults found.0.notes → Goes s found.1.0
    listed : NoFaults found.0.notes → OnKept (ListedIn s found.1.0) found.1.1

  one_ahead : (s t u : Seen) → Goes s t → (a : Alternative) (all : List Alternative) → HasSeen s t a → ListedIn t u all → ListedIn s u (a ∷ all)
  one_ahead s t u h a all g l =
      subst (λ (vs : List Val). Listed s u (vs ++ flat_map values_of all) (others_of a ∷ map others_of all)) (sym g.values)
      (subst (λ (o : Bool). Listed s u (values_since s t ++ flat_map values_of all) (o ∷ map others_of all)) (sym g.others)
      (listed_more objects.enumerations k s t u (flat_map values_of all) (map others_of all) h l))

  some_alternatives : (all : List WrittenAlternative) → EachGrows all → (spot : Spot) (i b : ℕ) (s : Seen) (d : Draft)
      → SomeBehind s d (alternatives (map (alternative_step w) all) scope spot i b (Some (Of k)) s d)
  some_alternatives [] goes spot i b s d = record { grows = grows_same d.notes; further = λ fine. further_same objects.enumerations k s; listed = λ fine. listed_none s }
  some_alternatives (a ∷ more) goes spot i b s d =
      let first = alternative_step w a scope (way_to spot i b) (Some (Of k)) s d in
      let one : OneBehind s d first = one_alternative a goes.0 (way_to spot i b) s d in
      let rest = alternatives (map (alternative_step w) more) scope spot i (b + 1) (Some (Of k)) first.1.0 first.0 in
      let others : SomeBehind first.1.0 first.0 rest = some_alternatives more goes.1 spot i (b + 1) first.1.0 first.0 in
      record {
        grows = grows_on d.notes first.0.notes rest.0.notes one.grows others.grows;
        further = λ fine. further_on objects.enumerations k s first.1.0 rest.1.0 (one.further (no_faults_before first.0.notes rest.0.notes others.grows fine)) (others.further fine);
        listed = λ fine.
            both_kept Alternative (List Alternative) (List Alternative) (HasSeen s first.1.0) (ListedIn first.1.0 rest.1.0) (ListedIn s rest.1.0) ahead
            (one_ahead s first.1.0 rest.1.0 (one.further (no_faults_before first.0.notes rest.0.notes others.grows fine))) first.1.1 rest.1.1 one.listed (others.listed fine);
      }

  whole_case : (all : List WrittenAlternative) (spot : Spot) (i b : ℕ) (d : Draft) → CountsLiterals w.enumerations objects.enumerations (Of k) → EachGrows all
      → NoFaults (alternatives (map (alternative_step w) all) scope spot i b (Some (Of k)) nothing_seen d).0.notes
      → covers w.enumerations (Of k) (alternatives (map (alternative_step w) all) scope spot i b (Some (Of k)) nothing_seen d).1.0 ≡ true
      → OnKept (HasChoices objects.enumerations k) (alternatives (map (alternative_step w) all) scope spot i b (Some (Of k)) nothing_seen d).1.1
  whole_case all spot i b d counts goes fine covered =
      let found = alternatives (map (alternative_step w) all) scope spot i b (Some (Of k)) nothing_seen d in
      let behind : SomeBehind nothing_seen d found = some_alternatives all goes spot i b nothing_seen d in
      of_kept found.1.0 found.1.1 ((behind.further fine).fits (nothing_fits objects.enumerations k)) covered (behind.listed fine)
    where
      of_kept : (t : Seen) (p : Part (List Alternative)) → SeenFits objects.enumerations k t → covers w.enumerations (Of k) t ≡ true → OnKept (ListedIn nothing_seen t) p → OnKept (HasChoices objects.enumerations k) p
      of_kept t (Kept all) fits covered l = choices_are w.enumerations objects.enumerations k t (flat_map values_of all) (map others_of all) counts fits l covered
      of_kept t Wrong fits covered l = tt
      of_kept t Hidden fits covered l = tt

-- ---- simultaneous cases

all_first : (sizes : List ℕ) → same_lengths sizes ≡ true → list_all (nat_eq (first_length sizes)) sizes ≡ true
all_first [] h = refl
all_first (k ∷ more) h = both_true (nat_eq k k) (list_all (nat_eq k) more) (itself k) h
  where
    itself : (m : ℕ) → nat_eq m m ≡ true
    itself m = grind (arith, nat_tests)

    both_true : (a b : Bool) → a ≡ true → b ≡ true → (a && b) ≡ true
    both_true true b h g = g
    both_true false b h g = absurd (cc)

module _ (objects : Objects) (w : Setting) (scope : Scope) (fits : ScopeFits (equation_scope objects) (IsVisible [] []) scope) (asks : AsksValues (equation_scope objects) w.texts scope) where
  abbrev Room : Notes → Type 0
  Room = HasRoom (equation_scope objects)

  abbrev Fine : Notes → Type 0
  Fine = IsFine (equation_scope objects)

  room_down : (a b : Notes) → Grows a b → Room b → Room a
  room_down a b g k = room_before (equation_scope objects) a b g k

  fine_down : (a b : Notes) → Grows a b → Fine b → Fine a
  fine_down a b g k = record { faults = no_faults_before a b g k.faults; room = room_down a b g k.room }

  -- the equations of an alternative
  pair_keeps : (q : Equation) (n : Notes) → KeepsPart Pair Room (IsPair objects) n (pair w scope q n)
  pair_keeps q n =
      let read = statements_make_equations.simple_one objects w scope q n fits in
      record { grows = read.grows; right = λ k. pair_of (pair w scope q n).1 (read.right k) }
    where
      pair_of : (p : Part Pair) → OnKept (IsEquation objects) (judged single p) → OnKept (IsPair objects) p
      pair_of (Kept p) h = h
      pair_of Wrong h = tt
      pair_of Hidden h = tt

  nothing_asked : (all : List Equation) → Every Room room_down Equation (λ (q : Equation). Unit {0}) all
  nothing_asked [] = tt
  nothing_asked (q ∷ more) = (tt, nothing_asked more)

  pairs_keep : (all : List Equation) (n : Notes) → KeepsPart (List Pair) Room (AllOf Room room_down Pair (IsPair objects) (length all)) n (pairs w scope all n)
  pairs_keep all n =
      listed_keeps Room room_down Pair Equation (λ (q : Equation). Unit {0}) (IsPair objects) (pair w scope) (λ q m asked. pair_keeps q m) all n (nothing_asked all)

  -- ---- arms

  abbrev arm_values : CaseArm → List Val
  arm_values arm = arm.choices

  abbrev arm_others : CaseArm → Bool
  arm_others arm = arm.others

  module _ (k : ValueType) (size : ℕ) where
    abbrev Onward : Seen → Seen → Type 0
    Onward s t = Further (sizes_of objects) k s t

    record IsArm (s t : Seen) (arm : CaseArm) : Type 0 where
      values : arm.choices ≡ values_since s t
      others : arm.others ≡ others_since s t
      body : IsBody objects size arm.pairs

    record AreArms (s t : Seen) (count : ℕ) (arms : List CaseArm) : Type 0 where
      listed : Listed s t (flat_map arm_values arms) (map arm_others arms)
      bodies : All (λ (arm : CaseArm). IsBody objects size arm.pairs) arms
      number : length arms ≡ count

    record ArmsBehind (s : Seen) (n : Notes) (count : ℕ) (found : Notes × (Seen × Part (List CaseArm))) : Type 0 where
      grows : Grows n found.0
      further : NoFaults found.0 → Onward s found.1.0
      right : Fine found.0 → OnKept (AreArms s found.1.0 count) found.1.1

    abbrev HasSize : SimultaneousAlternative → Type 0
    HasSize a = length a.equations ≡ size

    abbrev EachHasSize : List SimultaneousAlternative → Type 0
    EachHasSize [] = Unit {0}
    EachHasSize (a ∷ more) = HasSize a × EachHasSize more

    any_bool : (p : Part Bool) → OnKept (λ (b : Bool). Unit {0}) p
    any_bool (Kept b) = tt
    any_bool Wrong = tt
    any_bool Hidden = tt

    arm_ahead : (s t u : Seen) (count : ℕ) → Onward s t → (arm : CaseArm) (arms : List CaseArm) → IsArm s t arm → AreArms t u count arms → AreArms s u (suc count) (arm ∷ arms)
    arm_ahead s t u count h arm arms g l =
        record {
          listed =
              subst (λ (vs : List Val). Listed s u (vs ++ flat_map arm_values arms) (arm.others ∷ map arm_others arms)) (sym g.values)
              (subst (λ (o : Bool). Listed s u (values_since s t ++ flat_map arm_values arms) (o ∷ map arm_others arms)) (sym g.others)
              (listed_more (sizes_of objects) k s t u (flat_map arm_values arms) (map arm_others arms) h l.listed));
          bodies = All-cons (λ (arm : CaseArm). IsBody objects size arm.pairs) arm arms g.body l.bodies;
          number = ap suc l.number;
        }

    arms_keep : (s : Seen) (all : List SimultaneousAlternative) (n : Notes) → EachHasSize all → ArmsBehind s n (length all) (case_arms w scope (Some (Of k)) s all n)
    arms_keep s [] n sized =
        record {
          grows = grows_same n;
          further = λ fine. further_same (sizes_of objects) k s;
          right = λ fine. record { listed = listed_none s; bodies = All-nil (λ (arm : CaseArm). IsBody objects size arm.pairs); number = refl };
        }
    arms_keep s (a ∷ more) n sized =
        let c = choices w scope (static_in equating) (Some (Of k)) s a.choices n in
        let all = pairs w scope a.equations c.0 in
        let rest = case_arms w scope (Some (Of k)) c.1.0 more all.0 in
        let first : SeenBehind (equation_scope objects) w scope asks (static_in equating) k s n c = choices_keep (equation_scope objects) w scope asks (static_in equating) k s a.choices n in
        let second : KeepsPart (List Pair) Room (AllOf Room room_down Pair (IsPair objects) (length a.equations)) c.0 all = pairs_keep a.equations c.0 in
        let third : ArmsBehind c.1.0 all.0 (length more) rest = arms_keep c.1.0 more all.0 sized.1 in
        let on : Grows c.0 rest.0 = grows_on c.0 all.0 rest.0 second.grows third.grows in
        record {
          grows = grows_on n c.0 rest.0 first.grows on;
          further = λ fine. further_on (sizes_of objects) k s c.1.0 rest.1.0 (first.further (no_faults_before c.0 rest.0 on fine)) (third.further fine);
          right = λ fine.
              let goes : Onward s c.1.0 = first.further (no_faults_before c.0 rest.0 on fine.faults) in
              both_kept CaseArm (List CaseArm) (List CaseArm) (IsArm s c.1.0) (AreArms c.1.0 rest.1.0 (length more)) (AreArms s rest.1.0 (suc (length more))) ahead
              (arm_ahead s c.1.0 rest.1.0 (length more) goes) (both (case_arm_of s c.1.0) c.1.1 all.1) rest.1.1
              (both_kept Bool (List Pair) CaseArm (λ (b : Bool). Unit {0}) (AllOf Room room_down Pair (IsPair objects) (length a.equations)) (IsArm s c.1.0) (case_arm_of s c.1.0)
              (λ b ps h g. record { values = refl; others = refl; body = record { count = g.count ∙ sized.0; typed = g.each } }) c.1.1 all.1 (any_bool c.1.1)
              (second.right (room_down all.0 rest.0 third.grows fine.room)))
              (third.right fine);
        }

    sized_of : (all : List SimultaneousAlternative) → list_all (nat_eq size) (case_lengths all) ≡ true → EachHasSize all
    sized_of [] h = tt
    sized_of (a ∷ more) h = (
      equal size (length a.equations) (left_of (nat_eq size (length a.equations)) (list_all (nat_eq size) (case_lengths more)) h),
      sized_of more (right_of (nat_eq size (length a.equations)) (list_all (nat_eq size) (case_lengths more)) h),
    )
      where
        equal : (m n : ℕ) → nat_eq m n ≡ true → n ≡ m
        equal m n h = grind (arith, nat_tests)

        left_of : (a b : Bool) → (a && b) ≡ true → a ≡ true
        left_of true b h = refl
        left_of false b h = absurd (cc)

        right_of : (a b : Bool) → (a && b) ≡ true → b ≡ true
        right_of true b h = h
        right_of false b h = absurd (cc)

    case_of : (t : Seen) (count : ℕ) (e : FlatExpr) (arms : List CaseArm) → HasType (equation_scope objects) e k → CountsLiterals w.enumerations (sizes_of objects) (Of k) → Onward nothing_seen t
        → 0 < count → AreArms nothing_seen t count arms → covers w.enumerations (Of k) t ≡ true → IsCase objects size e arms
    case_of t count e arms has counts goes some l covered =
        record {
          kind = k;
          typed = has;
          some = subst (λ (z : ℕ). 0 < z) (sym l.number) some;
          choices = choices_are w.enumerations (sizes_of objects) k t (flat_map arm_values arms) (map arm_others arms) counts (goes.fits (nothing_fits (sizes_of objects) k)) l.listed covered;
          bodies = l.bodies;
        }

  -- ---- the statement

  grows_compared : (place : Place) (lengths : List ℕ) (n : Notes) → Grows n (compared place lengths n)
  grows_compared place lengths n = go (same_lengths lengths)
    where
      go : (b : Bool) → Grows n (if b then n else noted place UnequalBranches n)
      go true = grows_same n
      go false = grows_noted place UnequalBranches n

  abbrev Read : Typed → Type 0
  Read = IsRead (equation_scope objects) (IsVisible [] [])

  abbrev Counts : Typed → Type 0
  Counts = CountsOf w.enumerations (sizes_of objects)

  module _ (size : ℕ) (all : List SimultaneousAlternative) (n : Notes) (sized : list_all (nat_eq size) (case_lengths all) ≡ true) (some : 0 < length all) where
    abbrev arms_for : Option Kind → Notes × (Seen × Part (List CaseArm))
    arms_for k = case_arms w scope k nothing_seen all n

    -- behind an expression of this kind
    kind_right : (z : Kind) (e : FlatExpr) → HasKind (equation_scope objects) e z → CountsLiterals w.enumerations (sizes_of objects) z → Fine (arms_for (Some z)).0
        → OnKept (IsEquation objects)
        (judged (λ (arms : List CaseArm). where_true (covers w.enumerations z (arms_for (Some z)).1.0) (equation.Choice (record { selection = selection.Case e arms; size = size }))) (arms_for (Some z)).1.1)
    kind_right (Of k) e has counts fine =
        let arms = arms_for (Some (Of k)) in
        let behind : ArmsBehind k size nothing_seen n (length all) arms = arms_keep k size nothing_seen all n (sized_of k size all sized) in
        judged_kept (List CaseArm) Made (AreArms k size nothing_seen arms.1.0 (length all)) (IsEquation objects)
        (λ (l : List CaseArm). where_true (covers w.enumerations (Of k) arms.1.0) (equation.Choice (record { selection = selection.Case e l; size = size })))
        (λ l h. where_kept Made (IsEquation objects) (covers w.enumerations (Of k) arms.1.0) (equation.Choice (record { selection = selection.Case e l; size = size }))
        (λ covered. case_of k size arms.1.0 (length all) e l has counts (behind.further fine.faults) some h covered)) arms.1.1 (behind.right fine)
    kind_right Vector e has counts fine = absurd has

    wrong_first : (A B C : Type 0) (R : C → Type 0) (rule : A → B → Part C) (q : Part B) → OnKept R (both rule Wrong q)
    wrong_first A B C R rule (Kept b) = tt
    wrong_first A B C R rule Wrong = tt
    wrong_first A B C R rule Hidden = tt

    part_right : (p : Part Typed) → OnKept Read p → OnKept Counts p → Fine (arms_for (kind_known p)).0
        → OnKept (IsEquation objects) (both (chosen_case w (arms_for (kind_known p)).1.0 size) p (arms_for (kind_known p)).1.1)
    part_right (Kept x) read counts fine = kind_right x.kind x.expr read.typed counts fine
    part_right Wrong read counts fine = wrong_first Typed (List CaseArm) Made (IsEquation objects) (chosen_case w (arms_for None).1.0 size) (arms_for None).1.1
    part_right Hidden read counts fine = tt

  grows_arms : (k : Option Kind) (s : Seen) (all : List SimultaneousAlternative) (n : Notes) → Grows n (case_arms w scope k s all n).0
  grows_arms k s [] n = grows_same n
  grows_arms k s (a ∷ more) n =
      let c = choices w scope (static_in equating) k s a.choices n in
      let all = pairs w scope a.equations c.0 in
      let rest = case_arms w scope k c.1.0 more all.0 in
      grows_on n c.0 rest.0 (grows_choices w scope (static_in equating) k s a.choices n) (grows_on c.0 all.0 rest.0 (pairs_keep a.equations c.0).grows (grows_arms k c.1.0 more all.0))

  case_keeps : (place : Place) (x : Expr) (all : List SimultaneousAlternative) (n : Notes) → OnKept Counts (typed w scope choosing x n).1 → 0 < length all → same_lengths (case_lengths all) ≡ true
      → KeepsPart Made Fine (IsEquation objects) n (case_statement w scope place x all n)
  case_keeps place x all n counts some same =
      let e = typed w scope choosing x n in
      let size = first_length (case_lengths all) in
      let arms = case_arms w scope (kind_known e.1) nothing_seen all e.0 in
      let behind = compared place (case_lengths all) arms.0 in
      let first : KeepsPart Typed Room Read n e = typed_keeps (equation_scope objects) (IsVisible [] []) w scope fits choosing x n in
      let second : Grows e.0 arms.0 = grows_arms (kind_known e.1) nothing_seen all e.0 in
      let third : Grows arms.0 behind = grows_compared place (case_lengths all) arms.0 in
      finished_keeps Fine fine_down Made (IsEquation objects) place n (behind, both (chosen_case w arms.1.0 size) e.1 arms.1.1)
      (record {
        grows = grows_on n e.0 behind first.grows (grows_on e.0 arms.0 behind second third);
        right = λ fine.
            let here : Fine arms.0 = fine_down arms.0 behind third fine in
            part_right size all e.0 (all_first (case_lengths all) same) some e.1 (first.right (room_down e.0 arms.0 second here.room)) counts here;
      })

pub choices_are_right : ChoicesAreRight
choices_are_right =
    record {
      sequential = λ objects w scope k all spot i b d asks counts goes fine covered. whole_case objects w scope asks k all spot i b d counts goes fine covered;
      simultaneous = λ objects w scope place x all n fits asks counts some same. case_keeps objects w scope fits asks place x all n counts some same;
    }
