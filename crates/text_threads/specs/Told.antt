-- How a run on threads ended, with its numbers.
use Rattle.std.specs.Prelude.{ℕ, Result, Ok, Err}
use Rattle.step_data.specs.declared.outcome.End.{End}
use Rattle.timeline.specs.declared.journal.Counts.{Counts}
use Rattle.trace_sink.specs.declared.TraceFault.{TraceFault}
use Rattle.text_threads.specs.declared.design.Threaded.{Threaded}

abbrev pub told_of : Result End TraceFault → ℕ → Counts → Result Threaded TraceFault
told_of (Ok end) own counts = Ok (record { end = end; report = record { counts = counts; own = own } })
told_of (Err fault) own counts = Err fault
