use Rattle.cycle_meaning.specs.Cycles.{start_all}
use Rattle.kernel_world.specs.Acting.{context_of, world_of}
use Rattle.process_runs.specs.Kept.{numbered}
use Rattle.process_runs.proofs.Starts.{Starting}
use Rattle.process_runs.proofs.started.start_processes.Given as goal

abbrev pub invariant-loop-number : goal.invariant-loop-number
invariant-loop-number l =
    Starting (start_all (numbered (context_of l.fn.world)) 0 l.processes (world_of l.fn.world)) (context_of l.fn.world) l.processes l.number (context_of l.world) (world_of l.world) l.kept
