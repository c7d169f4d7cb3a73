-- What mode make gives: the numbers of the run of a generated ladder.
use Rattle.std.specs.Prelude.{ℕ, List, Result, Ok, Err, ◌⊎◌, codes}
use Rattle.flat_design.specs.declared.objects.Objects.{Objects}
use Rattle.step_data.specs.declared.outcome.Options.{Options}
use Rattle.system_model.specs.Trace.{run_of}
use Rattle.design_reading.specs.Reading.{Gives}
use Rattle.run_counts.specs.Counts.{counted, made_lines}
use Rattle.program_output.specs.Port.{Port}
use Rattle.program_output.specs.Output.{Output, HandsOn, HandsOnNothing, noted}
use Rattle.program_output.specs.declared.status.Status.{Status}
use Rattle.program_output.specs.declared.status.Status.TheVariants as status
use Rattle.run_status.specs.Ran.{ran}

-- the run of a ladder of so many sections, as its numbers and its last line; or the note of a text that is refused
abbrev pub made_output : ℕ → Options → Result Objects (List ℕ) → Output
made_output size options (Ok objects) =
    ran (run_of objects options).end (made_lines size (counted (run_of objects options)))
made_output size options (Err note) = noted status.DesignRefused note

-- a call on the text of a ladder hands on its output, or, where memory ran out, nothing
abbrev pub MakesText : Status → List ℕ → ℕ → Options → Port → Port → Type 0
MakesText s text size options trace notes =
    ((design : Result Objects (List ℕ)) × Gives text (codes "ladder") design × HandsOn (made_output size options design) s trace notes)
    ⊎ HandsOnNothing s trace notes
