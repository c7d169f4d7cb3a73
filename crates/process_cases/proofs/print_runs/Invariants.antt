use Rattle.proc_exec.specs.Running.{StandsReady}
use Rattle.process_cases.specs.Cases.{case_context, case_local}
use Rattle.process_cases.proofs.print_runs.Given as goal

abbrev pub invariant-loop-run : goal.invariant-loop-run
invariant-loop-run l = StandsReady (case_context l.bench.process l.bench.time) (case_local l.bench.variables.items l.bench.elements l.bench.broke l.bench.events) l.text l.stack
