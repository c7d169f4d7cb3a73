use Rattle.std.proofs.Common.{sym, refl, arith}
use Rattle.std.specs.Prelude.{slice_index_or}
use Rattle.kernel_world.specs.Acting.{context_of, world_of}
use Rattle.process_runs.proofs.Nexts.{got}
use Rattle.process_runs.proofs.Starts.{stands_first, first_ends, first_can}
use Rattle.process_runs.proofs.started.start_next.Goals as goal

pub run_process-requires-clause-ready : goal.run_process-requires-clause-ready
run_process-requires-clause-ready c =
    stands_first c.args.number (context_of c.args.world.now) (world_of c.args.world.now) c.args.processes.now c.args.kept.now
    c.index-processes-number.result (slice_index_or c.args.kept.now c.args.number c.index-kept-number.result) c.requires.can
    (got c.args.processes.now c.args.number c.index-processes-number.result c.index-processes-number.result c.requires.there (sym c.index-processes-number.is))
    (got c.args.kept.now c.args.number c.index-kept-number.result _ (omega (arith, c.requires.can.count)) refl)

pub returns-clause-next : goal.returns-clause-next
returns-clause-next c =
    first_ends c.args.number (context_of c.args.world.now) (world_of c.args.world.now) (world_of c.run_process.new.world) c.args.processes.now c.args.kept.now
    c.index-processes-number.result (slice_index_or c.args.kept.now c.args.number c.index-kept-number.result) c.run_process.new.kept c.run_process.result
    c.requires.can
    (got c.args.processes.now c.args.number c.index-processes-number.result c.index-processes-number.result c.requires.there (sym c.index-processes-number.is))
    (got c.args.kept.now c.args.number c.index-kept-number.result _ (omega (arith, c.requires.can.count)) refl)
    c.run_process.ensures.ends

pub returns-clause-can : goal.returns-clause-can
returns-clause-can c =
    first_can c.args.number (context_of c.args.world.now) (context_of c.run_process.new.world) (world_of c.args.world.now) (world_of c.run_process.new.world) c.args.processes.now c.args.kept.now
    c.index-processes-number.result (slice_index_or c.args.kept.now c.args.number c.index-kept-number.result) c.run_process.new.kept c.run_process.result
    c.requires.can
    (got c.args.processes.now c.args.number c.index-processes-number.result c.index-processes-number.result c.requires.there (sym c.index-processes-number.is))
    (got c.args.kept.now c.args.number c.index-kept-number.result _ (omega (arith, c.requires.can.count)) refl)
    c.run_process.ensures.context c.run_process.ensures.ends
