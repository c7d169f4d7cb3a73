use Rattle.std.specs.Prelude.{[], false}
use Rattle.listed_models.specs.Listing.{system_of}
use Rattle.core_rows.proofs.calls.ask_all.Given as goal

abbrev pub ghosts-ask_design : goal.ghosts-ask_design
ghosts-ask_design a =
    record { system = λ part. system_of a.steps.now [] [] false a.options }
