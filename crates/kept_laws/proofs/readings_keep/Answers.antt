use Rattle.kept_laws.proofs.Reading.{readings_keep}
use Rattle.kept_laws.proofs.readings_keep.Goals as goal

pub returns : goal.returns
returns c = readings_keep
