-- Simultaneous statements, part by part.
use Rattle.std.proofs.Common.{◌≡◌, ℕ, Bool, true, false, if◌then◌else◌, List, [], ◌∷◌, ◌++◌, length, map, Option, Some, None, arith, refl, ◌∙◌}
use Rattle.std.specs.Prelude.{◌&&◌, nat_eq}
use Rattle.std.specs.List.{list_all}
use Rattle.std.proofs.lemmas.Bool.Decides.{nat_tests}
use Rattle.ams_token.specs.declared.token.Place.{Place}
use Rattle.ams_tree.specs.declared.concurrent.Equation.{Equation}
use Rattle.ams_tree.specs.declared.concurrent.SimultaneousBranch.{SimultaneousBranch}
use Rattle.ams_value.specs.declared.value_type.ValueType.TheVariants.{Boolean, Real}
use Rattle.flat_expr.specs.declared.expr.FlatExpr.{FlatExpr}
use Rattle.flat_design.specs.declared.objects.Pair.{Pair}
use Rattle.flat_design.specs.declared.objects.IfArm.{IfArm}
use Rattle.flat_design.specs.declared.objects.Equation.{Equation as Made}
use Rattle.flat_design.specs.declared.objects.Objects.{Objects}
use Rattle.name_scope.specs.declared.thing.Kind.TheVariants.{Of}
use Rattle.name_scope.specs.declared.scope.Scope.{Scope}
use Rattle.elab_meaning.specs.declared.fault.Cause.TheVariants.{UnequalBranches}
use Rattle.elab_meaning.specs.declared.fault.Notes.{Notes}
use Rattle.elab_meaning.specs.declared.part.Part.{Part}
use Rattle.elab_meaning.specs.declared.part.Part.TheVariants as part
use Rattle.elab_meaning.specs.declared.typed.Typed.{Typed}
use Rattle.elab_meaning.specs.Notes.{noted}
use Rattle.elab_meaning.specs.Kinds.{same_kind}
use Rattle.elab_meaning.specs.Parts.{both}
use Rattle.unit_meaning.specs.Settings.{Setting, equating, choosing, typed, must_be, listed}
use Rattle.unit_meaning.specs.Cases.{place_of}
use Rattle.unit_meaning.specs.Simultaneous.{pair_of, pair, pairs, single, simple, same_lengths, first_length, compared, arm_of, if_arm, last_arm, if_lengths, chosen_if, if_statement}
use Rattle.design_meaning.specs.Typed as flat
use Rattle.design_rules.specs.Types.{equation_scope, IsVisible}
use Rattle.design_rules.specs.Equations.{IsPair, IsBody, IsIfArm, IsEquation}
use Rattle.reading_laws.specs.Growing.{Grows}
use Rattle.reading_laws.proofs.Growing.{grows_same, grows_on, grows_noted}
use Rattle.typed_laws.specs.Fitting.{ScopeFits, HasRoom, IsRead}
use Rattle.typed_laws.proofs.Typing.{room_before}
use Rattle.part_laws.specs.Parts.{OnKept, KeepsPart}
use Rattle.part_laws.proofs.Parts.{judged_kept, both_kept, where_kept, finished_keeps, AllOf, Every, listed_keeps, IsOfKind, kind_is, typed_keeps, must_keeps}
use Rattle.equation_laws.specs.Equations.{StatementsMakeEquations}

and_left : (a b : Bool) → (a && b) ≡ true → a ≡ true
and_left true b h = refl
and_left false b h = absurd (cc)

and_right : (a b : Bool) → (a && b) ≡ true → b ≡ true
and_right true b h = h
and_right false b h = absurd (cc)

both_true : (a b : Bool) → a ≡ true → b ≡ true → (a && b) ≡ true
both_true true b h g = g
both_true false b h g = absurd (cc)

equal : (m n : ℕ) → nat_eq m n ≡ true → n ≡ m
equal m n h = grind (arith, nat_tests)

itself : (m : ℕ) → nat_eq m m ≡ true
itself m = grind (arith, nat_tests)

-- ---- sizes of branches

all_first : (sizes : List ℕ) → same_lengths sizes ≡ true → list_all (nat_eq (first_length sizes)) sizes ≡ true
all_first [] h = refl
all_first (k ∷ more) h = both_true (nat_eq k k) (list_all (nat_eq k) more) (itself k) h

module _ (objects : Objects) (w : Setting) (scope : Scope) (fits : ScopeFits (equation_scope objects) (IsVisible [] []) scope) where
  abbrev Names : flat.Scope
  Names = equation_scope objects

  abbrev Sees : ℕ → Type 0
  Sees = IsVisible [] []

  abbrev Room : Notes → Type 0
  Room = HasRoom (equation_scope objects)

  down : (a b : Notes) → Grows a b → Room b → Room a
  down a b g k = room_before Names a b g k

  -- ---- pairs

  pair_of_kept : (x y : Typed) → IsRead Names Sees x → IsRead Names Sees y → OnKept (IsPair objects) (pair_of x y)
  pair_of_kept x y h g =
      where_kept Pair (IsPair objects) (same_kind x.kind (Of Real) && same_kind y.kind (Of Real)) (record { left = x.expr; right = y.expr })
      (λ is.
      record {
        left = kind_is Names Sees w scope fits x.expr x.kind Real h.typed (and_left (same_kind x.kind (Of Real)) (same_kind y.kind (Of Real)) is);
        right = kind_is Names Sees w scope fits y.expr y.kind Real g.typed (and_right (same_kind x.kind (Of Real)) (same_kind y.kind (Of Real)) is);
      })

  pair_keeps : (q : Equation) (n : Notes) → KeepsPart Pair Room (IsPair objects) n (pair w scope q n)
  pair_keeps q n =
      let left = typed w scope equating q.left n in
      let right = typed w scope equating q.right left.0 in
      let first : KeepsPart Typed Room (IsRead Names Sees) n left = typed_keeps Names Sees w scope fits equating q.left n in
      let second : KeepsPart Typed Room (IsRead Names Sees) left.0 right = typed_keeps Names Sees w scope fits equating q.right left.0 in
      finished_keeps Room down Pair (IsPair objects) (place_of q.left) n (right.0, both pair_of left.1 right.1)
      (record {
        grows = grows_on n left.0 right.0 first.grows second.grows;
        right = λ k.
            both_kept Typed Typed Pair (IsRead Names Sees) (IsRead Names Sees) (IsPair objects) pair_of pair_of_kept left.1 right.1
            (first.right (down left.0 right.0 second.grows k)) (second.right k);
      })

  nothing_asked : (all : List Equation) → Every Room down Equation (λ (q : Equation). Unit {0}) all
  nothing_asked [] = tt
  nothing_asked (q ∷ more) = (tt, nothing_asked more)

  pairs_keeps : (all : List Equation) (n : Notes) → KeepsPart (List Pair) Room (AllOf Room down Pair (IsPair objects) (length all)) n (pairs w scope all n)
  pairs_keeps all n =
      listed_keeps Room down Pair Equation (λ (q : Equation). Unit {0}) (IsPair objects) (pair w scope) (λ q m asked. pair_keeps q m) all n (nothing_asked all)

  simple_keeps : (q : Equation) (n : Notes) → KeepsPart Made Room (IsEquation objects) n (simple w scope q n)
  simple_keeps q n =
      let read = pair_keeps q n in
      record { grows = read.grows; right = λ k. judged_kept Pair Made (IsPair objects) (IsEquation objects) single (λ p h. h) (pair w scope q n).1 (read.right k) }

  -- ---- simultaneous if

  body_of : (size written : ℕ) (all : List Pair) → written ≡ size → AllOf Room down Pair (IsPair objects) written all → IsBody objects size all
  body_of size written all is h = record { count = h.count ∙ is; typed = h.each }

  arm_keeps : (size : ℕ) (b : SimultaneousBranch) (n : Notes) → length b.equations ≡ size → KeepsPart IfArm Room (IsIfArm objects size) n (if_arm w scope b n)
  arm_keeps size b n is =
      let x = must_be w scope choosing (Of Boolean) b.condition n in
      let all = pairs w scope b.equations x.0 in
      let first : KeepsPart FlatExpr Room (IsOfKind Names Sees w scope fits Boolean) n x = must_keeps Names Sees w scope fits choosing Boolean b.condition n in
      let second : KeepsPart (List Pair) Room (AllOf Room down Pair (IsPair objects) (length b.equations)) x.0 all = pairs_keeps b.equations x.0 in
      record {
        grows = grows_on n x.0 all.0 first.grows second.grows;
        right = λ k.
            both_kept FlatExpr (List Pair) IfArm (IsOfKind Names Sees w scope fits Boolean) (AllOf Room down Pair (IsPair objects) (length b.equations)) (IsIfArm objects size) arm_of
            (λ e ps h g. record { condition = h.typed; body = body_of size (length b.equations) ps is g }) x.1 all.1 (first.right (down x.0 all.0 second.grows k)) (second.right k);
      }

  abbrev LastHas : ℕ → Option (List Equation) → Type 0
  LastHas size (Some all) = length all ≡ size
  LastHas size None = Unit {0}

  last_keeps : (size : ℕ) (last : Option (List Equation)) (n : Notes) → LastHas size last → KeepsPart (List Pair) Room (IsBody objects size) n (last_arm w scope last n)
  last_keeps size None n is = record { grows = grows_same n; right = λ k. tt }
  last_keeps size (Some all) n is =
      let read = pairs_keeps all n in
      record {
        grows = read.grows;
        right = λ k.
            judged_as (pairs w scope all n).1 (read.right k);
      }
    where
      judged_as : (p : Part (List Pair)) → OnKept (AllOf Room down Pair (IsPair objects) (length all)) p → OnKept (IsBody objects size) p
      judged_as (part.Kept ps) h = body_of size (length all) ps is h
      judged_as part.Wrong h = tt
      judged_as part.Hidden h = tt

  abbrev size_of : SimultaneousBranch → ℕ
  size_of b = length b.equations

  sizes_before : (size : ℕ) (all : List SimultaneousBranch) (rest : List ℕ) → list_all (nat_eq size) (map size_of all ++ rest) ≡ true
      → Every Room down SimultaneousBranch (λ (b : SimultaneousBranch). length b.equations ≡ size) all × (list_all (nat_eq size) rest ≡ true)
  sizes_before size [] rest h = (tt, h)
  sizes_before size (b ∷ more) rest h =
      let others = sizes_before size more rest (and_right (nat_eq size (length b.equations)) (list_all (nat_eq size) (map size_of more ++ rest)) h) in
      ((equal size (length b.equations) (and_left (nat_eq size (length b.equations)) (list_all (nat_eq size) (map size_of more ++ rest)) h), others.0), others.1)

  sizes_alone : (size : ℕ) (all : List SimultaneousBranch) → list_all (nat_eq size) (map size_of all) ≡ true → Every Room down SimultaneousBranch (λ (b : SimultaneousBranch). length b.equations ≡ size) all
  sizes_alone size [] h = tt
  sizes_alone size (b ∷ more) h =
      (equal size (length b.equations) (and_left (nat_eq size (length b.equations)) (list_all (nat_eq size) (map size_of more)) h), sizes_alone size more (and_right (nat_eq size (length b.equations)) (list_all (nat_eq size) (map size_of more)) h))

  sizes_of : (size : ℕ) (all : List SimultaneousBranch) (last : Option (List Equation)) → list_all (nat_eq size) (if_lengths all last) ≡ true
      → Every Room down SimultaneousBranch (λ (b : SimultaneousBranch). length b.equations ≡ size) all × LastHas size last
  sizes_of size all (Some last) h =
      let found = sizes_before size all (length last ∷ []) h in
      (found.0, equal size (length last) (and_left (nat_eq size (length last)) true found.1))
  sizes_of size all None h = (sizes_alone size all h, tt)

  grows_compared : (place : Place) (lengths : List ℕ) (n : Notes) → Grows n (compared place lengths n)
  grows_compared place lengths n = go (same_lengths lengths)
    where
      go : (b : Bool) → Grows n (if b then n else noted place UnequalBranches n)
      go true = grows_same n
      go false = grows_noted place UnequalBranches n

  if_keeps : (place : Place) (all : List SimultaneousBranch) (last : Option (List Equation)) (n : Notes) → same_lengths (if_lengths all last) ≡ true
      → KeepsPart Made Room (IsEquation objects) n (if_statement w scope place all last n)
  if_keeps place all last n same =
      let size = first_length (if_lengths all last) in
      let sizes = sizes_of size all last (all_first (if_lengths all last) same) in
      let arms = listed (if_arm w scope) all n in
      let rest = last_arm w scope last arms.0 in
      let behind = compared place (if_lengths all last) rest.0 in
      let first : KeepsPart (List IfArm) Room (AllOf Room down IfArm (IsIfArm objects size) (length all)) n arms =
      listed_keeps Room down IfArm SimultaneousBranch (λ (b : SimultaneousBranch). length b.equations ≡ size) (IsIfArm objects size) (if_arm w scope) (λ b m is. arm_keeps size b m is) all n sizes.0 in
      let second : KeepsPart (List Pair) Room (IsBody objects size) arms.0 rest = last_keeps size last arms.0 sizes.1 in
      let third : Grows rest.0 behind = grows_compared place (if_lengths all last) rest.0 in
      finished_keeps Room down Made (IsEquation objects) place n (behind, both (chosen_if size) arms.1 rest.1)
      (record {
        grows = grows_on n arms.0 behind first.grows (grows_on arms.0 rest.0 behind second.grows third);
        right = λ k.
            let here : Room rest.0 = down rest.0 behind third k in
            both_kept (List IfArm) (List Pair) Made (AllOf Room down IfArm (IsIfArm objects size) (length all)) (IsBody objects size) (IsEquation objects) (chosen_if size)
            (λ many one h g. (h.each, g)) arms.1 rest.1 (first.right (down arms.0 rest.0 second.grows here)) (second.right here);
      })

pub statements_make_equations : StatementsMakeEquations
statements_make_equations = record {
  simple_one = λ objects w scope q n fits. simple_keeps objects w scope fits q n;
  if_one = λ objects w scope place all last n same fits. if_keeps objects w scope fits place all last n same;
}
