-- The lines of the trace of a design's run.
use Rattle.std.specs.Prelude.{◌≡◌, ℕ, List}
use Rattle.flat_design.specs.declared.objects.Objects.{Objects}
use Rattle.step_data.specs.declared.outcome.Options.{Options}
use Rattle.lockstep_model.specs.Works.{events_of}
use Rattle.system_model.specs.Trace.{run_of, trace}
use Rattle.port_base.specs.Lines.{text_of_lines}
use Rattle.trace_lines.specs.Lines.{trace_lines}

-- a design in an entity, with its options
abbrev pub run_lines : Objects → List ℕ → Options → List (List ℕ)
run_lines objects top options =
    trace_lines objects top options (events_of (run_of objects options).works) (run_of objects options).end

-- one behind the other they are its trace
abbrev pub LinesOfRun : Type 0
LinesOfRun =
    (objects : Objects) (top : List ℕ) (options : Options) → text_of_lines (run_lines objects top options) ≡ trace objects top options
