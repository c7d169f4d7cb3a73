use Rattle.system_model.specs.System.{system_of}
use Rattle.text_threads.proofs.design.run_on_threads.Given as goal

-- the named design is this one
abbrev pub ghosts-run_named-D-Design : goal.ghosts-run_named-D-Design
ghosts-run_named-D-Design g a = record { system = λ part. system_of a.flat.now a.options.now }

-- the lent sink is this one
abbrev pub ghosts-run_named-N-Lender : goal.ghosts-run_named-N-Lender
ghosts-run_named-N-Lender g a = record { name = a.trace.ghost_name }
