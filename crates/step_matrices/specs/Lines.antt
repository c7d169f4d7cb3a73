-- The coefficients of a step's set.
use Rattle.std.specs.Prelude.{ℕ, Bool, false, ℤ, pos, ◌+ℤ◌, neg_ℤ, List, [], ◌∷◌, ◌++◌, map, Option, Some, None}
use Rattle.fix_core.specs.Rounding.{rnd}
use Rattle.fix_core.specs.Units.{one}
use Rattle.ams_value.specs.declared.val.Val.TheVariants as val
use Rattle.flat_expr.specs.declared.expr.Unknown.{Unknown}
use Rattle.flat_expr.specs.declared.expr.Unknown.TheVariants.{Quantity, Dot}
use Rattle.flat_design.specs.declared.objects.Pair.{Pair}
use Rattle.flat_design.specs.declared.objects.Equation.{Equation}
use Rattle.flat_design.specs.declared.objects.Equation.TheVariants as equation
use Rattle.flat_design.specs.declared.objects.Objects.{Objects}
use Rattle.flat_design.specs.Order.{unknowns}
use Rattle.design_meaning.specs.Readings.{Readings, still}
use Rattle.design_meaning.specs.Equations.{Row, written, balance, difference, given, euler, trapezoid, at_unknown, ends_slope, reference_slope, sums_of, differences_from, augmentations_from, time_domain}
use Rattle.prepared_pairs.specs.Prepared.{constant_in_row}

-- ---- the explicit equations

abbrev pub known : Option ℤ → ℤ
known (Some z) = z
known None = pos 0

abbrev pub pair_line : List Unknown → Pair → List ℤ
pair_line all p = map (λ u. known (constant_in_row p u)) all

abbrev pub pair_lines : List Unknown → List Equation → List (List ℤ)
pair_lines all [] = []
pair_lines all (equation.Pair p ∷ more) = pair_line all p ∷ pair_lines all more
pair_lines all (equation.Choice c ∷ more) = pair_lines all more

-- ---- the others

-- the slope of a row that no statement wrote
abbrev pub plain_slope : Row → Unknown → ℤ
plain_slope (written a b) u = pos 0
plain_slope (balance ends) u = ends_slope u ends
plain_slope (difference q plus_end minus_end) u = at_unknown (Quantity q) u one +ℤ reference_slope u plus_end (neg_ℤ one) +ℤ reference_slope u minus_end one
plain_slope (given v x) u = at_unknown v u one
plain_slope (euler q d start s) u = at_unknown (Quantity q) u one +ℤ at_unknown (Dot d) u (neg_ℤ (pos s))
plain_slope (trapezoid q d start rate s) u = at_unknown (Quantity q) u one +ℤ at_unknown (Dot d) u (neg_ℤ (rnd (pos s) (pos 2)))

abbrev pub plain_line : List Unknown → Row → List ℤ
plain_line all row = map (λ u. plain_slope row u) all

abbrev pub plain_lines : List Unknown → List Row → List (List ℤ)
plain_lines all rows = map (λ row. plain_line all row) rows

-- ---- a step from a tip, whose values don't matter

abbrev pub nothing : Readings
nothing = record { signals = []; thresholds = []; domain = still (val.Bool false); quantities = []; references = []; dots = []; variables = []; now = 0 }

abbrev pub step_matrix : Objects → Bool → ℕ → List (List ℤ)
step_matrix objects fresh s =
    pair_lines (unknowns objects) objects.equations
    ++ plain_lines (unknowns objects) (sums_of objects)
    ++ plain_lines (unknowns objects) (differences_from 0 objects.quantities)
    ++ plain_lines (unknowns objects) (augmentations_from (time_domain nothing fresh s) [] 0 objects.dots)
