use Rattle.mini_models.specs.Mini.{system_of}
use Rattle.mini_models.proofs.calls.first_events.Given as goal

abbrev pub ghosts-start_and_cycle : goal.ghosts-start_and_cycle
ghosts-start_and_cycle a = record { system = λ part. system_of a.plan.now 1000 200000 200000 }
