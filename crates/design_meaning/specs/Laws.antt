-- Laws of the equation sets.
use Rattle.std.specs.Prelude.{◌≡◌, ℕ, ◌+◌, Bool, true, false, List, [], ◌∷◌, ◌++◌, length, Some}
use Rattle.std.specs.List.{slice_get}
use Rattle.flat_design.specs.declared.objects.Quantity.{Quantity}
use Rattle.flat_design.specs.declared.objects.QuantityKind.{QuantityKind}
use Rattle.flat_design.specs.declared.objects.QuantityKind.TheVariants as kind
use Rattle.flat_design.specs.declared.objects.Objects.{Objects}
use Rattle.step_data.specs.declared.breaks.Element.{Element}
use Rattle.design_meaning.specs.Equations.{Augmentation, is_node, ends_at, rows_of, common_rows, augmentation, augmentations_from, element_of, replaced_by_break}

abbrev pub one_if : Bool → ℕ
one_if true = 1
one_if false = 0

-- how many ends of the branches of through quantities stand at a node
abbrev pub ends_counted : ℕ → QuantityKind → ℕ
ends_counted node (kind.Through plus_end minus_end) = one_if (is_node node plus_end) + one_if (is_node node minus_end)
ends_counted node _ = 0

abbrev pub branch_ends : ℕ → List Quantity → ℕ
branch_ends node [] = 0
branch_ends node (q ∷ more) = ends_counted node q.kind + branch_ends node more

-- the sum of the currents at a node has as many terms as branch ends stand at it
abbrev pub SumsHaveTheBranchEnds : Type 0
SumsHaveTheBranchEnds = (objects : Objects) (node : ℕ) → length (ends_at objects node) ≡ branch_ends node objects.quantities

-- the sets differ in their augmentation equations alone, one for each dot: each is the set's own where no break element has
-- the dot's quantity as selector, and else the last such element's
pub record SetsDifferInAugmentation : Type 0 where
  pub parts : (objects : Objects) (branches : List ℕ) (set : Augmentation) (elements : List Element)
      → rows_of objects branches set elements ≡ common_rows objects branches ++ augmentations_from set elements 0 objects.dots
  pub one_each : (objects : Objects) (set : Augmentation) (elements : List Element) → length (augmentations_from set elements 0 objects.dots) ≡ length objects.dots
  pub own : (objects : Objects) (set : Augmentation) (elements : List Element) (d q : ℕ) → slice_get objects.dots d ≡ Some q
      → slice_get (augmentations_from set elements 0 objects.dots) d ≡ Some (replaced_by_break (element_of q elements) (augmentation set d q))
