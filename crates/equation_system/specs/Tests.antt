-- What a set has to keep, as tests.
use Rattle.std.specs.Prelude.{ℕ, Bool, true, false, nat_le, nat_lt, ◌&&◌, List, [], ◌∷◌}
use Rattle.flat_design.specs.declared.objects.Equation.{Equation}
use Rattle.flat_design.specs.declared.objects.Equation.TheVariants as equation
use Rattle.design_rules.specs.Branches.{branch_count}
use Rattle.augmentation_rows.specs.declared.set.Augmentation.{Augmentation}
use Rattle.augmentation_rows.specs.declared.set.Augmentation.TheVariants as set

-- a branch for each choice, in walk order
abbrev pub are_branches : List Equation → List ℕ → Bool
are_branches [] [] = true
are_branches [] (b ∷ branches) = false
are_branches (equation.Pair p ∷ more) branches = are_branches more branches
are_branches (equation.Choice c ∷ more) [] = false
are_branches (equation.Choice c ∷ more) (b ∷ branches) = nat_lt b (branch_count c.selection) && are_branches more branches

-- a step of at most a second
abbrev pub has_step : Augmentation → Bool
has_step set.Quiescent = true
has_step (set.Discontinuity before) = true
has_step (set.TimeDomain tip fresh step) = nat_le step 1000000000000
