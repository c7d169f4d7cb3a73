use Rattle.replay_laws.proofs.Spending.{designs_use_each}
use Rattle.replay_laws.proofs.laws.attempts_are_own_or_reused.Goals as goal

pub returns-clause-designs : goal.returns-clause-designs
returns-clause-designs c = λ objects options schedule. designs_use_each objects options schedule
