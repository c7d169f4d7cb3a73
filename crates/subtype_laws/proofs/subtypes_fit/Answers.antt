use Rattle.subtype_laws.proofs.Values.{subtypes_fit}
use Rattle.subtype_laws.proofs.subtypes_fit.Goals as goal

pub returns : goal.returns
returns c = subtypes_fit
