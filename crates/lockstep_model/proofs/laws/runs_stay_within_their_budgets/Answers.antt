use Rattle.lockstep_model.specs.Budgets.{lockstep_within}
use Rattle.lockstep_model.proofs.laws.runs_stay_within_their_budgets.Goals as goal

pub returns-clause-tries : goal.returns-clause-tries
returns-clause-tries c = λ sys. (lockstep_within sys).tries
