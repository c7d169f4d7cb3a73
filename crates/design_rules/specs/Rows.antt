-- How many rows the equation sets of a well-formed design have.
use Rattle.std.specs.Prelude.{◌≡◌, ◌<◌, ℕ, ℤ, List, [], ◌∷◌, length, Ok}
use Rattle.ams_value.specs.declared.val.Val.{Val}
use Rattle.flat_design.specs.declared.objects.Equation.{Equation}
use Rattle.flat_design.specs.declared.objects.Equation.TheVariants as equation
use Rattle.flat_design.specs.declared.objects.Objects.{Objects}
use Rattle.flat_design.specs.Order.{unknowns}
use Rattle.step_data.specs.declared.breaks.Element.{Element}
use Rattle.step_data.specs.declared.outcome.ChooseKind.{ChooseKind}
use Rattle.design_meaning.specs.Equations.{Augmentation, rows_of}
use Rattle.design_meaning.specs.Steps.{choose}
use Rattle.design_rules.specs.Branches.{branch_count}
use Rattle.design_rules.specs.Design.{IsDesign}

-- a branch for each choice, in walk order
abbrev pub AreBranches : List Equation → List ℕ → Type 0
AreBranches [] branches = branches ≡ []
AreBranches (equation.Pair p ∷ more) branches = AreBranches more branches
AreBranches (equation.Choice c ∷ more) [] = ⊥
AreBranches (equation.Choice c ∷ more) (b ∷ branches) = (b < branch_count c.selection) × AreBranches more branches

-- each set, with any break elements, has as many rows as there are unknowns
abbrev pub RowsAreCounted : Type 0
RowsAreCounted =
    (objects : Objects) → IsDesign objects → (branches : List ℕ) → AreBranches objects.equations branches → (set : Augmentation) (elements : List Element)
    → length (rows_of objects branches set elements) ≡ length (unknowns objects)

-- the branches that are chosen are branches
abbrev pub ChosenAreBranches : Type 0
ChosenAreBranches =
    (objects : Objects) → IsDesign objects → (frame : List Val) (t : ℕ) (kind : ChooseKind) (x : List ℤ) (branches : List ℕ)
    → choose objects frame t kind x ≡ Ok branches → AreBranches objects.equations branches
