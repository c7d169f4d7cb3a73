-- The trace of a design's run in lockstep.
use Rattle.std.specs.Prelude.{ℕ, List}
use Rattle.flat_design.specs.declared.objects.Objects.{Objects}
use Rattle.step_data.specs.declared.outcome.Options.{Options}
use Rattle.lockstep_model.specs.Works.{Run, events_of}
use Rattle.lockstep_model.specs.Lockstep.{lockstep}
use Rattle.trace_text.specs.Trace.{trace_text}
use Rattle.system_model.specs.System.{system_of}

abbrev pub run_of : Objects → Options → Run
run_of objects options = lockstep (system_of objects options)

-- the text of the trace of a design in an entity, with its options
abbrev pub trace : Objects → List ℕ → Options → List ℕ
trace objects top options = trace_text objects top options (events_of (run_of objects options).works) (run_of objects options).end
