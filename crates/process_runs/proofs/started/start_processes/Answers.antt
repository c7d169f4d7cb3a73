use Rattle.std.proofs.Common.{arith}
use Rattle.cycle_meaning.specs.Cycles.{start_all}
use Rattle.kernel_world.specs.Acting.{context_of, world_of}
use Rattle.process_runs.specs.Kept.{numbered}
use Rattle.process_runs.proofs.Starts.{starting_first, starting_ends, all_wait}
use Rattle.process_runs.proofs.started.start_processes.Goals as goal

pub loop-number-init : goal.loop-number-init
loop-number-init c = starting_first (context_of c.args.world.now) (world_of c.args.world.now) c.args.processes.now c.args.kept.now c.requires

pub returns-clause-ran : goal.returns-clause-ran
returns-clause-ran c =
    starting_ends (start_all (numbered (context_of c.args.world.now)) 0 c.args.processes.now (world_of c.args.world.now)) (context_of c.args.world.now) c.args.processes.now c.loop-number.number
    (context_of c.loop-number.world) (world_of c.loop-number.world) c.loop-number.kept (omega arith) c.loop-number.invariant

pub returns-clause-can : goal.returns-clause-can
returns-clause-can c =
    all_wait (context_of c.args.world.now) (start_all (numbered (context_of c.args.world.now)) 0 c.args.processes.now (world_of c.args.world.now)) c.args.processes.now c.loop-number.number
    (context_of c.loop-number.world) (world_of c.loop-number.world) c.loop-number.kept (omega arith) c.loop-number.invariant
