use Rattle.listed_models.specs.Listing.{system_of}
use Rattle.engine_rows.proofs.whole.run.Given as goal

abbrev pub ghosts-run_design : goal.ghosts-run_design
ghosts-run_design a =
    record { system = λ part. system_of a.steps.now a.solutions.now a.cycles.items a.reads a.options }
