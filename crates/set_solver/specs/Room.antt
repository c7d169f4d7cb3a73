-- The room that the solutions of a design's sets take.
use Rattle.std.specs.Prelude.{◌≡◌, ℕ, ℤ, List, length}
use Rattle.flat_design.specs.declared.objects.Objects.{Objects}
use Rattle.flat_design.specs.Order.{unknown_count}
use Rattle.design_meaning.specs.Steps.{selections_of}

-- Newton's method and a point for all unknowns, and a branch for each choice
pub record HasRoom (objects : Objects) (newton : ℕ) (branches : List ℕ) (before : List ℤ) : Type 0 where
  pub newton_size : newton ≡ unknown_count objects
  pub branch_places : length branches ≡ length (selections_of objects.equations)
  pub point_length : length before ≡ unknown_count objects
