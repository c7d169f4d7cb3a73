-- How a run ends, as whoever reads its trace sees it.
use Rattle.std.specs.Prelude.{Result, Ok, Err}
use Rattle.step_data.specs.declared.outcome.End.{End}
use Rattle.event_sink.specs.declared.SinkFault.{SinkFault}
use Rattle.trace_sink.specs.declared.TraceFault.{TraceFault}
use Rattle.line_sink.specs.Shown.{cause_of}

abbrev pub ended_as : Result End SinkFault → Result End TraceFault
ended_as (Ok end) = Ok end
ended_as (Err fault) = Err (cause_of fault)
