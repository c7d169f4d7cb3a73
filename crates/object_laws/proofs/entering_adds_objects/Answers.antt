use Rattle.object_laws.proofs.Interface.{entering_adds_objects}
use Rattle.object_laws.proofs.entering_adds_objects.Goals as goal

pub returns : goal.returns
returns c = entering_adds_objects
