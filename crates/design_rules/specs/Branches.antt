-- How many branches a choice has (IEEE 1076.1, simultaneous if and case statements).
use Rattle.std.specs.Prelude.{◌<◌, ℕ, suc, length}
use Rattle.flat_design.specs.declared.objects.Selection.{Selection}
use Rattle.flat_design.specs.declared.objects.Selection.TheVariants as selection
use Rattle.flat_design.specs.declared.objects.Equation.{Equation}
use Rattle.flat_design.specs.declared.objects.Equation.TheVariants as equation

-- the number of branches of a choice; that after `else` is the last
abbrev pub branch_count : Selection → ℕ
branch_count (selection.If arms last) = suc (length arms)
branch_count (selection.Case e arms) = length arms

-- the most branches of a choice and one more: their numbers have 32 bits
abbrev pub branch_limit : ℕ
branch_limit = 4294967296

abbrev pub HasFewBranches : Equation → Type 0
HasFewBranches (equation.Pair p) = Unit {0}
HasFewBranches (equation.Choice c) = branch_count c.selection < branch_limit
