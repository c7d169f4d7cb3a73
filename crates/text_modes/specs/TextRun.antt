-- The run of a text in lockstep.
use Rattle.std.specs.Prelude.{◌≡◌, ℕ, List, Result, Ok, Err, ◌⊎◌}
use Rattle.flat_design.specs.declared.objects.Objects.{Objects}
use Rattle.step_data.specs.declared.outcome.Options.{Options}
use Rattle.system_model.specs.Trace.{run_of}
use Rattle.design_reading.specs.Reading.{Gives}
use Rattle.design_run.specs.Lines.{run_lines}
use Rattle.program_output.specs.Port.{Port}
use Rattle.program_output.specs.Output.{Output, HandsOn, HandsOnNothing, noted}
use Rattle.program_output.specs.declared.status.Status.{Status}
use Rattle.program_output.specs.declared.status.Status.TheVariants as status
use Rattle.run_status.specs.Ran.{ran}

-- what a text gives with these options: the run of its flat design, or the note of its first refusal
abbrev pub text_output : List ℕ → Options → Result Objects (List ℕ) → Output
text_output top options (Ok objects) = ran (run_of objects options).end (run_lines objects top options)
text_output top options (Err note) = noted status.DesignRefused note

-- a call on a text hands on its output, or, where memory ran out, nothing
abbrev pub RunsText : Status → List ℕ → List ℕ → Options → Port → Port → Type 0
RunsText s text top options trace notes =
    ((design : Result Objects (List ℕ)) × Gives text top design × HandsOn (text_output top options design) s trace notes)
    ⊎ HandsOnNothing s trace notes
