-- A declaration beside those before it.
use Rattle.std.proofs.Common.{◌≡◌, Bool, true, false, refl}
use Rattle.elab_meaning.specs.declared.part.Part.TheVariants.{Kept, Hidden}
use Rattle.unit_meaning.specs.Cases.{beside}
use Rattle.process_declarations.specs.Parts.{fine_part}

pub beside_kept : (b : Bool) → beside (fine_part b) (Kept true) ≡ fine_part b
beside_kept true = refl
beside_kept false = refl

pub beside_hidden : (b : Bool) → beside {B = Bool} (fine_part b) Hidden ≡ Hidden
beside_hidden true = refl
beside_hidden false = refl
