-- An alternative of a simultaneous case, once its choices are read.
use Rattle.std.specs.Prelude.{Bool, List}
use Rattle.ams_value.specs.declared.val.Val.{Val}
use Rattle.flat_design.specs.declared.objects.Pair.{Pair}
use Rattle.flat_design.specs.declared.objects.CaseArm.{CaseArm}
use Rattle.elab_meaning.specs.declared.part.Part.{Part}
use Rattle.elab_meaning.specs.declared.part.Part.TheVariants.{Kept}

abbrev pub arm_with : List Val → Bool → Bool → List Pair → Part CaseArm
arm_with choices others fine all = Kept (record { choices = choices; others = others; pairs = all })
