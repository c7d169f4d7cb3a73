-- The run of a text on threads.
use Rattle.std.specs.Prelude.{◌≡◌, ℕ, List, Result, Ok, Err, ◌⊎◌}
use Rattle.flat_design.specs.declared.objects.Objects.{Objects}
use Rattle.step_data.specs.declared.outcome.Options.{Options}
use Rattle.system_model.specs.Trace.{run_of}
use Rattle.trace_sink.specs.declared.TraceFault.{TraceFault}
use Rattle.trace_sink.specs.declared.TraceFault.TheVariants as faults
use Rattle.design_reading.specs.Reading.{Gives}
use Rattle.design_reading.specs.declared.unread.Unread.{Unread}
use Rattle.design_reading.specs.declared.unread.Unread.TheVariants as unread
use Rattle.design_run.specs.Lines.{run_lines}
use Rattle.ahead_report.specs.declared.Report.{Report}
use Rattle.ahead_report.specs.Note.{report_note}
use Rattle.threaded_trace.specs.Fitting.{Fits}
use Rattle.program_output.specs.Port.{Port, Stays}
use Rattle.program_output.specs.Output.{Output, HandsOn, HandsOnNothing, Tells, noted}
use Rattle.program_output.specs.declared.status.Status.{Status}
use Rattle.program_output.specs.declared.status.Status.TheVariants as status
use Rattle.run_status.specs.Ran.{end_status, ran}
use Rattle.text_threads.specs.declared.design.Threaded.{Threaded}

-- the status and the lines of the lockstep run, with the note of these numbers
abbrev pub noted_run : List ℕ → Options → Objects → Report → Output
noted_run top options objects report =
    let r = run_of objects options in
    let lockstep = ran r.end (run_lines objects top options) in
    record { status = lockstep.status; lines = lockstep.lines; note = report_note report }

-- what a text gives: its lockstep run with a note of numbers that fit the run's works, or the note of its first refusal
abbrev pub HandsOnRun : List ℕ → Options → Result Objects (List ℕ) → Status → Port → Port → Type 0
HandsOnRun top options (Ok objects) s trace notes =
    (report : Report) × Fits (run_of objects options).works report.own report.counts × HandsOn (noted_run top options objects report) s trace notes
HandsOnRun top options (Err note) s trace notes = HandsOn (noted status.DesignRefused note) s trace notes

-- a call on a text hands on its output, or, where memory ran out, nothing
abbrev pub RunsTextOnThreads : Status → List ℕ → List ℕ → Options → Port → Port → Type 0
RunsTextOnThreads s text top options trace notes =
    ((design : Result Objects (List ℕ)) × Gives text top design × HandsOnRun top options design s trace notes) ⊎ HandsOnNothing s trace notes

-- behind a run its note is told with the status of its end, or memory ran out; behind a fault nothing is told
abbrev pub TellsRun : Result Threaded TraceFault → Status → Port → Type 0
TellsRun (Ok told) s notes = Tells (report_note told.report) (end_status told.end) s notes ⊎ (s ≡ status.Memory) × Stays notes
TellsRun (Err faults.WriteFault) s notes = (s ≡ status.WriteFault) × Stays notes
TellsRun (Err faults.Memory) s notes = (s ≡ status.Memory) × Stays notes

-- the note of a refused text is told, or memory ran out
abbrev pub TellsUnread : Unread → Status → Port → Type 0
TellsUnread (unread.Refused note) s notes = Tells note.items status.DesignRefused s notes
TellsUnread unread.Memory s notes = (s ≡ status.Memory) × Stays notes
