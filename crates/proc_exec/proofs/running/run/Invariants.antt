use Rattle.std.proofs.Common.{◌-◌}
use Rattle.cycle_meaning.specs.Processes.{statement_budget}
use Rattle.process_place.specs.Moves.{run_at}
use Rattle.process_stack.specs.Stacks.{place_of}
use Rattle.proc_exec.specs.declared.running.TheConstants.{STATEMENT_BUDGET}
use Rattle.proc_exec.proofs.Runs.{RunsOn}
use Rattle.proc_exec.proofs.running.run.Given as goal

abbrev pub invariant-loop-used : goal.invariant-loop-used
invariant-loop-used g l =
    RunsOn (run_at statement_budget (g.E.Activation.context l.fn.world) l.text (g.E.Activation.local l.fn.world) (place_of l.text l.fn.stack)) (g.E.Activation.context l.fn.world) (STATEMENT_BUDGET - l._used)
    (g.E.Activation.context l.world) (g.E.Activation.local l.world) l.text l.stack
