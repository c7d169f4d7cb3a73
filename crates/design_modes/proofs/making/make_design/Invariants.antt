use Rattle.system_model.specs.System.{system_of}
use Rattle.design_modes.proofs.making.make_design.Given as goal

-- the named design is this one
abbrev pub ghosts-count_design : goal.ghosts-count_design
ghosts-count_design g a = record { system = λ part. system_of a.flat.now a.options.now }
