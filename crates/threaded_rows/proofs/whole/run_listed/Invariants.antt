use Rattle.listed_models.specs.Listing.{system_of}
use Rattle.threaded_rows.proofs.whole.run_listed.Given as goal

abbrev pub ghosts-run_design : goal.ghosts-run_design
ghosts-run_design g a =
    record { system = λ part. system_of a.listing.steps.items a.listing.solutions.items a.listing.cycles.items a.listing.reads a.listing.options }
