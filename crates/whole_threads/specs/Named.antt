-- A flat design as the named one.
use Rattle.std.specs.Prelude.{◌≡◌}
use Rattle.flat_design.specs.declared.objects.Objects.{Objects}
use Rattle.step_data.specs.declared.outcome.Options.{Options}
use Rattle.step_model.specs.System.{System}
use Rattle.design_rules.specs.Design.{IsDesign}
use Rattle.system_model.specs.System.{system_of}

-- the system is that of a well-formed design with these options
pub record IsNamed (sys : System) (objects : Objects) (options : Options) : Type 0 where
  pub well_formed : IsDesign objects
  pub named : sys ≡ system_of objects options
