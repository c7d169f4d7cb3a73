use Rattle.system_model.specs.System.{system_of}
use Rattle.design_modes.proofs.replay.replay_design.Given as goal

-- the named design is this one
abbrev pub ghosts-replay_named : goal.ghosts-replay_named
ghosts-replay_named g a = record { system = λ part. system_of a.flat.now a.options.now }
