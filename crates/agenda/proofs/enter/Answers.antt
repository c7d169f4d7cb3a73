-- The pair has come in.
use Rattle.agenda.proofs.Keys.{entered}
use Rattle.agenda.proofs.enter.Goals as goal

pub returns-in_ok-insert-clause-ok : goal.returns-in_ok-insert-clause-ok
returns-in_ok-insert-clause-ok c = λ t s. entered _ _ _ _ t s _ _ c.in-Some.is c.get.ensures.value (c.in_ok-insert.ensures.updates.0 (t, s))
