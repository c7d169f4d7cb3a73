use Rattle.listed_models.specs.Listing.{system_of}
use Rattle.core_rows.proofs.whole.replay.Given as goal

abbrev pub ghosts-replay_design : goal.ghosts-replay_design
ghosts-replay_design a =
    record { system = λ part. system_of a.steps.now a.solutions.now a.cycles.items a.reads a.options }
