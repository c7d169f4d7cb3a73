use Rattle.std.proofs.Common.{sym, ◌∙◌, ap, add-one, true, false, refl, arith}
use Rattle.std.specs.Prelude.{slice_index_or}
use Rattle.kernel_world.specs.Acting.{context_of, world_of}
use Rattle.process_runs.specs.Kept.{numbered, states_kept}
use Rattle.process_runs.specs.Ran.{ran_from}
use Rattle.process_runs.proofs.Nexts.{got, stands, next_ends, next_can}
use Rattle.process_runs.proofs.Ran.{ran_past, states_length}
use Rattle.process_runs.proofs.resumed.run_next.Goals as goal

pub run_process-requires-clause-ready : goal.run_process-requires-clause-ready
run_process-requires-clause-ready c =
    stands (context_of c.args.world.now) (world_of c.args.world.now) c.args.processes.now c.args.kept.now c.args.number
    c.index-processes-number.result (slice_index_or c.args.kept.now c.args.number c.index-kept-number.result) c.requires.can
    (got c.args.processes.now c.args.number c.index-processes-number.result c.index-processes-number.result c.requires.there (sym c.index-processes-number.is))
    (got c.args.kept.now c.args.number c.index-kept-number.result _ (omega (arith, c.requires.can.count)) refl)

pub returns-then-resumed-number-clause-next : goal.returns-then-resumed-number-clause-next
returns-then-resumed-number-clause-next c =
    next_ends (context_of c.args.world.now) (world_of c.args.world.now) (world_of c.run_process.new.world) c.args.processes.now c.args.kept.now c.args.resumed.now c.args.number
    c.index-processes-number.result (slice_index_or c.args.kept.now c.args.number c.index-kept-number.result) c.run_process.new.kept c.run_process.result
    c.requires.can
    (got c.args.processes.now c.args.number c.index-processes-number.result c.index-processes-number.result c.requires.there (sym c.index-processes-number.is))
    (got c.args.kept.now c.args.number c.index-kept-number.result _ (omega (arith, c.requires.can.count)) refl)
    (got c.args.resumed.now c.args.number false true (omega arith) c.if-resumed-number.true)
    c.run_process.ensures.ends

pub returns-then-resumed-number-clause-can : goal.returns-then-resumed-number-clause-can
returns-then-resumed-number-clause-can c =
    next_can (context_of c.args.world.now) (context_of c.run_process.new.world) (world_of c.args.world.now) (world_of c.run_process.new.world) c.args.processes.now c.args.kept.now c.args.number
    c.index-processes-number.result (slice_index_or c.args.kept.now c.args.number c.index-kept-number.result) c.run_process.new.kept c.run_process.result
    c.requires.can
    (got c.args.processes.now c.args.number c.index-processes-number.result c.index-processes-number.result c.requires.there (sym c.index-processes-number.is))
    (got c.args.kept.now c.args.number c.index-kept-number.result _ (omega (arith, c.requires.can.count)) refl)
    c.run_process.ensures.context c.run_process.ensures.ends

pub returns-else-resumed-number-clause-next : goal.returns-else-resumed-number-clause-next
returns-else-resumed-number-clause-next c =
    ran_past c.args.number (numbered (context_of c.args.world.now)) 0 c.args.processes.now (states_kept c.args.processes.now c.args.kept.now) c.args.resumed.now (world_of c.args.world.now)
    c.requires.there (omega (arith, states_length c.args.processes.now c.args.kept.now c.requires.can.count)) (got c.args.resumed.now c.args.number false false (omega arith) c.if-resumed-number.false)
    ∙ ap (λ m. ran_from m (numbered (context_of c.args.world.now)) 0 c.args.processes.now (states_kept c.args.processes.now c.args.kept.now) c.args.resumed.now (world_of c.args.world.now)) (sym (add-one c.args.number))
