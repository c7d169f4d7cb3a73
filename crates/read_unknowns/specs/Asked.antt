-- The places of a row that are asked for a slope.
use Rattle.std.specs.Prelude.{ℕ, ◌+◌, Bool, false, ◌||◌, not, if◌then◌else◌, List, [], ◌∷◌, ◌++◌}
use Rattle.flat_expr.specs.declared.expr.Unknown.{Unknown}
use Rattle.flat_design.specs.declared.objects.Pair.{Pair}
use Rattle.design_rules.specs.Equations.{stands_in}

-- the unknown stands on a side of the equation
abbrev pub stands_on : Pair → Unknown → Bool
stands_on p u = stands_in u p.left || stands_in u p.right

-- from a place on: the places of the unknowns that stand there, and the first one of an unknown that doesn't, unless it was found
unfoldable pub asked_from : (Unknown → Bool) → Bool → ℕ → List Unknown → List ℕ
asked_from stands found place [] = []
asked_from stands found place (u ∷ more) =
    (if stands u || not found then place ∷ [] else []) ++ asked_from stands (found || not (stands u)) (place + 1) more

abbrev pub asked_places : Pair → List Unknown → List ℕ
asked_places p unknowns = asked_from (stands_on p) false 0 unknowns
