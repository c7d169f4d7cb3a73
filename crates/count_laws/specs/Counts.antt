-- As many equations as unknowns (IEEE 1076.1, 15.1).
use Rattle.std.specs.Prelude.{◌≡◌, ℕ, Bool, IsTrue, List, length, None, Ok}
use Rattle.std.specs.List.{All}
use Rattle.ams_tree.specs.declared.design.DesignUnit.{DesignUnit}
use Rattle.flat_design.specs.Order.{unknown_count, equation_names}
use Rattle.flat_design.specs.declared.objects.Objects.{Objects}
use Rattle.unit_meaning.specs.declared.request.Request.{Request}
use Rattle.unit_meaning.specs.Drivers.{flattened, unsolvable}
use Rattle.design_rules.specs.Design.{IsSolvable}
use Rattle.tally_laws.specs.Tally.{IsTallied}
use Rattle.made_count_laws.specs.Counts.{InstancesAreFine, StatementsBreakAlike}

pub record EquationsMatchUnknowns : Type 0 where
  -- if the instances count what the design has
  pub tallied : (objects : Objects) → IsTallied objects → All IsSolvable objects.instances → length (equation_names objects) ≡ unknown_count objects
  -- for a text whose instances break no rule
  pub flat : (texts : List (List ℕ)) (units : List DesignUnit) (top : List ℕ) (objects : Objects) (keeps : Request → Bool)
      → StatementsBreakAlike → InstancesAreFine texts units (λ r. IsTrue (keeps r)) → flattened texts units top ≡ Ok objects → unsolvable objects ≡ None
      → length (equation_names objects) ≡ unknown_count objects
