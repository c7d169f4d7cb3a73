-- The coefficients of a step's set.
use Rattle.std.proofs.Common.{◌≡◌, ℕ, ◌+◌, Bool, true, false, List, [], ◌∷◌, ◌++◌, map}
use Rattle.std.specs.List.{All}
use Rattle.std.proofs.lemmas.List.Elements.{All-head, All-tail, All-cons, All-nil, All-append}
use Rattle.flat_expr.specs.declared.expr.Unknown.{Unknown}
use Rattle.flat_expr.specs.declared.expr.Unknown.TheVariants.{Quantity, Dot}
use Rattle.flat_design.specs.declared.objects.Equation.{Equation}
use Rattle.flat_design.specs.declared.objects.Equation.TheVariants as equation
use Rattle.flat_design.specs.declared.objects.Quantity.{Quantity as QuantityObject}
use Rattle.flat_design.specs.declared.objects.QuantityKind.{QuantityKind}
use Rattle.flat_design.specs.declared.objects.QuantityKind.TheVariants as kind
use Rattle.flat_design.specs.declared.objects.Objects.{Objects}
use Rattle.flat_design.specs.Order.{unknowns}
use Rattle.step_data.specs.declared.outcome.ChooseKind.TheVariants.{Timed}
use Rattle.design_meaning.specs.Readings.{Readings, unknown_of}
use Rattle.design_meaning.specs.Reading.{readings_of}
use Rattle.design_meaning.specs.Equations.{Row, BranchEnd, balance, euler, trapezoid, row_of, chosen_pairs, sums_of, difference_by, differences_from, augmentations_from, time_domain, rows_of}
use Rattle.step_matrices.specs.Linear.{AreLinear}
use Rattle.step_matrices.specs.Lines.{pair_lines, plain_lines, nothing, step_matrix}
use Rattle.step_matrices.specs.Laws.{StepsHaveTheirMatrix}
use Rattle.step_matrices.proofs.Lines.{IsPlain, HasLines, line_of_pair, line_of_plain, each_lines, lines_append}

pairs_have : (us : List Unknown) (es : List Equation) (branches : List ℕ) → AreLinear us es → HasLines us (map row_of (chosen_pairs es branches)) (pair_lines us es)
pairs_have us [] branches h = tt
pairs_have us (equation.Pair p ∷ more) branches h = (line_of_pair us p h.0, pairs_have us more branches h.1)
pairs_have us (equation.Choice c ∷ more) branches h = absurd h

plain_have : (us : List Unknown) (rows : List Row) → All IsPlain rows → HasLines us rows (plain_lines us rows)
plain_have us [] all = tt
plain_have us (row ∷ rows) all = (line_of_plain us row (All-head IsPlain row rows all), plain_have us rows (All-tail IsPlain row rows all))

-- ---- sums and differences

sums_plain : {X : Type 0} (ends : X → List BranchEnd) (xs : List X) → All IsPlain (map (λ x. balance (ends x)) xs)
sums_plain ends [] = All-nil IsPlain
sums_plain ends (x ∷ xs) = All-cons IsPlain (balance (ends x)) (map (λ y. balance (ends y)) xs) tt (sums_plain ends xs)

one_plain : (q : ℕ) (k : QuantityKind) → All IsPlain (difference_by q k)
one_plain q (kind.Across a b) = All-cons IsPlain _ [] tt (All-nil IsPlain)
one_plain q (kind.Through a b) = All-nil IsPlain
one_plain q kind.Free = All-nil IsPlain

differences_plain : (q : ℕ) (xs : List QuantityObject) → All IsPlain (differences_from q xs)
differences_plain q [] = All-nil IsPlain
differences_plain q (x ∷ xs) = All-append IsPlain (difference_by q x.kind) (differences_from (q + 1) xs) (one_plain q x.kind) (differences_plain (q + 1) xs)

-- ---- augmentations, whose coefficients don't depend on the values at the tip

steps_have : (us : List Unknown) (x y : Readings) (fresh : Bool) (s d : ℕ) (qs : List ℕ) → HasLines us (augmentations_from (time_domain x fresh s) [] d qs) (plain_lines us (augmentations_from (time_domain y fresh s) [] d qs))
steps_have us x y fresh s d [] = tt
steps_have us x y true s d (q ∷ qs) = (line_of_plain us (euler q d (unknown_of x (Quantity q)) s) tt, steps_have us x y true s (d + 1) qs)
steps_have us x y false s d (q ∷ qs) = (line_of_plain us (trapezoid q d (unknown_of x (Quantity q)) (unknown_of x (Dot d)) s) tt, steps_have us x y false s (d + 1) qs)

-- ---- all together

set_has : (objects : Objects) (x : Readings) (fresh : Bool) (s : ℕ) (branches : List ℕ) → AreLinear (unknowns objects) objects.equations
    → HasLines (unknowns objects) (rows_of objects branches (time_domain x fresh s) []) (step_matrix objects fresh s)
unfolding rows_of
set_has objects x fresh s branches linear =
    let us = unknowns objects in
    let pairs = map row_of (chosen_pairs objects.equations branches) in
    let sums = sums_of objects in
    let differences = differences_from 0 objects.quantities in
    let steps = augmentations_from (time_domain x fresh s) [] 0 objects.dots in
    let same = augmentations_from (time_domain nothing fresh s) [] 0 objects.dots in
    let first = lines_append us pairs sums (pair_lines us objects.equations) (plain_lines us sums) (pairs_have us objects.equations branches linear) (plain_have us sums (sums_plain _ _)) in
    let second = lines_append us (pairs ++ sums) differences (pair_lines us objects.equations ++ plain_lines us sums) (plain_lines us differences) first (plain_have us differences (differences_plain 0 objects.quantities)) in
    lines_append us ((pairs ++ sums) ++ differences) steps ((pair_lines us objects.equations ++ plain_lines us sums) ++ plain_lines us differences) (plain_lines us same) second (steps_have us x nothing fresh s 0 objects.dots)

pub steps_have_their_matrix : StepsHaveTheirMatrix
steps_have_their_matrix objects options frame tip s branches linear x =
    each_lines (unknowns objects) (readings_of objects frame Timed (tip.t + s) x) (rows_of objects branches (time_domain (readings_of objects frame Timed tip.t tip.x) tip.fresh s) []) (step_matrix objects tip.fresh s)
    (set_has objects (readings_of objects frame Timed tip.t tip.x) tip.fresh s branches linear)
