use Rattle.std.proofs.Common.{length}
use Rattle.cycle_meaning.specs.Cycles.{run_all}
use Rattle.kernel_world.specs.Acting.{context_of, world_of}
use Rattle.process_runs.specs.Kept.{numbered, states_kept}
use Rattle.process_runs.proofs.Called.{next_called}
use Rattle.process_runs.proofs.Nexts.{Going}
use Rattle.process_runs.proofs.resumed.run_called.Given as goal

-- all before the next one that is called had their turn
abbrev pub invariant-loop-number : goal.invariant-loop-number
invariant-loop-number l =
    Going (run_all (numbered (context_of l.fn.world)) 0 l.processes (states_kept l.processes l.fn.kept) l.resumed (world_of l.fn.world)) (context_of l.fn.world) l.processes l.resumed
    (next_called l.called (length l.processes) l.number-index) (context_of l.world) (world_of l.world) l.kept
