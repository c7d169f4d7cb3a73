use Rattle.system_model.specs.System.{system_of}
use Rattle.design_modes.proofs.lockstep.run_design.Given as goal

-- the named design is this one
abbrev pub ghosts-run_named : goal.ghosts-run_named
ghosts-run_named g a = record { system = λ part. system_of a.flat.now a.options.now }
