-- What each stage answers.
use Rattle.std.specs.Prelude.{Bool}
use Rattle.elab_meaning.specs.declared.fault.Cause.{Cause}
use Rattle.elab_meaning.specs.Notes.{is_of_types, is_of_natures, is_of_instances}
use Rattle.fault_order.specs.declared.first.Stage.{Stage}
use Rattle.fault_order.specs.declared.first.Stage.TheVariants.{Types, Natures, Instances}

abbrev pub tells : Stage → Cause → Bool
tells Types = is_of_types
tells Natures = is_of_natures
tells Instances = is_of_instances
