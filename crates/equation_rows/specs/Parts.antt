-- What an equation of a list gives with its branch.
use Rattle.std.specs.Prelude.{ℕ, List, [], ◌∷◌, slice_index_or}
use Rattle.flat_design.specs.declared.objects.Pair.{Pair}
use Rattle.flat_design.specs.declared.objects.Equation.{Equation}
use Rattle.flat_design.specs.declared.objects.Equation.TheVariants as equation
use Rattle.design_meaning.specs.Equations.{branch_of}

-- the equation itself, or those of the branch
abbrev pub pairs_of : Equation → ℕ → List Pair
pairs_of (equation.Pair p) b = p ∷ []
pairs_of (equation.Choice c) b = branch_of c.selection b

-- how many branches it takes from the list of branches
abbrev pub choices_in : Equation → ℕ
choices_in (equation.Pair p) = 0
choices_in (equation.Choice c) = 1

-- its branch, where those before it took `before` of them; an equation without a choice is a branch alone
abbrev pub branch_in : Equation → List ℕ → ℕ → ℕ
branch_in (equation.Pair p) branches before = 0
branch_in (equation.Choice c) branches before = slice_index_or branches before 0
