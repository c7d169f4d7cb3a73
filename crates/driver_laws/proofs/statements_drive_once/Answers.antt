use Rattle.driver_laws.proofs.Processes.{statements_drive_once}
use Rattle.driver_laws.proofs.statements_drive_once.Goals as goal

pub returns : goal.returns
returns c = statements_drive_once
