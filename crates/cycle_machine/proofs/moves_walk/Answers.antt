use Rattle.cycle_machine.specs.MoveLaws.{moving_is, moving_ahead, looks_ahead}
use Rattle.cycle_machine.proofs.moves_walk.Goals as goal

pub returns-clause-walk : goal.returns-clause-walk
returns-clause-walk c = moving_is

pub returns-clause-ahead : goal.returns-clause-ahead
returns-clause-ahead c = λ sys m reply. moving_ahead sys m reply

pub returns-clause-looks : goal.returns-clause-looks
returns-clause-looks c = looks_ahead
