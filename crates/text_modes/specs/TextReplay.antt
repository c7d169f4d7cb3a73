-- The replay of a text by a schedule of steps.
use Rattle.std.specs.Prelude.{◌≡◌, ℕ, List, Result, Ok, Err, ◌⊎◌}
use Rattle.flat_design.specs.declared.objects.Objects.{Objects}
use Rattle.step_data.specs.declared.outcome.Options.{Options}
use Rattle.step_schedule.specs.declared.Step.{Step}
use Rattle.system_model.specs.Trace.{run_of}
use Rattle.trace_sink.specs.declared.TraceFault.{TraceFault}
use Rattle.trace_sink.specs.declared.TraceFault.TheVariants as faults
use Rattle.design_reading.specs.Reading.{Gives}
use Rattle.design_reading.specs.declared.unread.Unread.{Unread}
use Rattle.design_reading.specs.declared.unread.Unread.TheVariants as unread
use Rattle.design_run.specs.Lines.{run_lines}
use Rattle.ahead_report.specs.Note.{report_note}
use Rattle.replay_run.specs.declared.whole.Replayed.{Replayed}
use Rattle.design_modes.specs.Report.{design_report}
use Rattle.program_output.specs.Port.{Port, Stays}
use Rattle.program_output.specs.Output.{Output, HandsOn, HandsOnNothing, Tells, noted}
use Rattle.program_output.specs.declared.status.Status.{Status}
use Rattle.program_output.specs.declared.status.Status.TheVariants as status
use Rattle.run_status.specs.Ran.{end_status}

-- the status of the run's end, its trace, and the note of the report
abbrev pub replay_output : List ℕ → Options → List Step → Objects → Output
replay_output top options schedule objects =
    record {
      status = end_status (run_of objects options).end;
      lines = run_lines objects top options;
      note = report_note (design_report objects options schedule);
    }

-- what a text gives: a replay, or a note
abbrev pub text_output : List ℕ → Options → List Step → Result Objects (List ℕ) → Output
text_output top options schedule (Ok objects) = replay_output top options schedule objects
text_output top options schedule (Err note) = noted status.DesignRefused note

-- a call on a text hands on its output, or, where memory ran out, nothing
abbrev pub ReplaysText : Status → List ℕ → List ℕ → Options → List Step → Port → Port → Type 0
ReplaysText s text top options schedule trace notes =
    ((design : Result Objects (List ℕ)) × Gives text top design × HandsOn (text_output top options schedule design) s trace notes)
    ⊎ HandsOnNothing s trace notes

-- behind a replay its note is told with the status of its end, or memory ran out; behind a fault nothing is told
abbrev pub TellsReplay : Result Replayed TraceFault → Status → Port → Type 0
TellsReplay (Ok told) s notes = Tells (report_note told.report) (end_status told.end) s notes ⊎ (s ≡ status.Memory) × Stays notes
TellsReplay (Err faults.WriteFault) s notes = (s ≡ status.WriteFault) × Stays notes
TellsReplay (Err faults.Memory) s notes = (s ≡ status.Memory) × Stays notes

-- the note of a refused text is told, or memory ran out
abbrev pub TellsUnread : Unread → Status → Port → Type 0
TellsUnread (unread.Refused note) s notes = Tells note.items status.DesignRefused s notes
TellsUnread unread.Memory s notes = (s ≡ status.Memory) × Stays notes
