-- What is sealed has the value that it had.
use Rattle.std.proofs.Common.{◌≡◌, refl}
use Rattle.elab_meaning.specs.declared.part.Part.{Part}
use Rattle.elab_meaning.specs.declared.part.Part.TheVariants.{Kept, Wrong, Hidden}
use Rattle.elab_meaning.specs.declared.typed.Asked.{Asked}
use Rattle.unit_meaning.specs.Settings.{sealed}
use Rattle.unit_meaning.specs.Associations.{value_of}

pub sealed_value : (part : Part Asked) → value_of (sealed part) ≡ value_of part
sealed_value (Kept a) = refl
sealed_value Wrong = refl
sealed_value Hidden = refl
