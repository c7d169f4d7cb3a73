-- The output of a run.
use Rattle.std.specs.Prelude.{◌≡◌, ℕ, List, [], Result, Ok, Err, IfOk}
use Rattle.step_data.specs.declared.outcome.End.{End}
use Rattle.step_data.specs.declared.outcome.End.TheVariants as ends
use Rattle.trace_sink.specs.Puts.{Puts}
use Rattle.trace_sink.specs.declared.TraceFault.{TraceFault}
use Rattle.trace_sink.specs.declared.TraceFault.TheVariants as faults
use Rattle.program_output.specs.Port.{Port, Stays}
use Rattle.program_output.specs.Output.{Output, HandsOn}
use Rattle.program_output.specs.declared.status.Status.{Status}
use Rattle.program_output.specs.declared.status.Status.TheVariants as status

abbrev pub end_status : End → Status
end_status (ends.Reached t) = status.Reached
end_status (ends.Refused t refusal) = status.RunRefused

abbrev pub run_status : Result End TraceFault → Status
run_status (Ok end) = end_status end
run_status (Err faults.WriteFault) = status.WriteFault
run_status (Err faults.Memory) = status.Memory

-- a run that ends so, with these lines and no note
abbrev pub ran : End → List (List ℕ) → Output
ran end lines = record { status = end_status end; lines = lines; note = [] }

-- a call that ends a run so and writes these lines
abbrev pub RunsHandOn : Type 0
RunsHandOn =
    (r : Result End TraceFault) (end : End) (lines : List (List ℕ)) (trace notes : Port) → Puts r lines trace.before trace.now trace.faults trace.faults_now
    → IfOk r (λ told. told ≡ end) → Stays notes → HandsOn (ran end lines) (run_status r) trace notes
