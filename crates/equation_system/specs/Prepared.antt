-- What is prepared for the equation sets of a design.
use Rattle.std.specs.Prelude.{◌≡◌, List, map}
use Rattle.flat_design.specs.declared.objects.Objects.{Objects}
use Rattle.flat_design.specs.Order.{unknowns}
use Rattle.design_rules.specs.Design.{IsDesign}
use Rattle.prepared_pairs.specs.Prepared.{Content, prepared_by_branch}

-- a well-formed design, what is prepared of each branch's equations, and the rows of the same design
pub record IsPrepared (objects : Objects) (pairs : List (List (List Content))) (common : Objects) : Type 0 where
  pub design : IsDesign objects
  pub pairs_are : pairs ≡ map (prepared_by_branch (unknowns objects)) objects.equations
  pub common_is : common ≡ objects
