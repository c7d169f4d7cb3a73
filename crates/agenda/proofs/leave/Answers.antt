-- The pair is gone.
use Rattle.agenda.proofs.Keys.{left}
use Rattle.agenda.proofs.leave.Goals as goal

pub returns-in-Some : goal.returns-in-Some
returns-in-Some c = λ t s. left _ _ _ _ t s _ _ c.in-Some.is c.get.ensures.value (c.remove.ensures.updates.0 (t, s))
