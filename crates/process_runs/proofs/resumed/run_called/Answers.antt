use Rattle.std.proofs.Common.{◌≡◌, subst, ℕ, length, get_or}
use Rattle.std.proofs.lemmas.List.{get_or_default, get_or_past}
use Rattle.cycle_meaning.specs.Cycles.{run_all}
use Rattle.kernel_world.specs.Acting.{context_of, world_of}
use Rattle.process_runs.specs.Kept.{numbered, states_kept}
use Rattle.process_runs.proofs.Called.{next_called}
use Rattle.process_runs.proofs.Nexts.{Going, going_first, going_on, going_ends}
use Rattle.process_runs.proofs.Passing.{going_to_first, going_to_next}
use Rattle.process_runs.proofs.resumed.run_called.Goals as goal

pub loop-number-init : goal.loop-number-init
loop-number-init c =
    going_to_first (run_all (numbered (context_of c.args.world.now)) 0 c.args.processes.now (states_kept c.args.processes.now c.args.kept.now) c.args.resumed.now (world_of c.args.world.now))
    (context_of c.args.world.now) c.args.processes.now c.args.resumed.now c.args.called.now (context_of c.args.world.now) (world_of c.args.world.now) c.args.kept.now
    c.requires.resumed c.requires.called
    (going_first (context_of c.args.world.now) (world_of c.args.world.now) c.args.processes.now c.args.kept.now c.args.resumed.now c.requires.can)

pub loop-number-preserved : goal.loop-number-preserved
loop-number-preserved c =
    let first = context_of c.args.world.now in
    let ps = c.args.processes.now in
    let marks = c.args.resumed.now in
    let whole = run_all (numbered first) 0 ps (states_kept ps c.args.kept.now) marks (world_of c.args.world.now) in
    let number : ℕ = get_or c.args.called.now c.loop-number.number-index 0 in
    let is : next_called c.args.called.now (length ps) c.loop-number.number-index ≡ number =
    get_or_default c.args.called.now c.loop-number.number-index (length ps) 0 c.loop-number-test.true in
    going_to_next whole first ps marks c.args.called.now c.loop-number.number-index number (context_of c.run_next.new.world) (world_of c.run_next.new.world) c.run_next.new.kept
    c.requires.resumed c.requires.called c.loop-number-test.true is
    (going_on whole first ps marks number (context_of c.loop-number.world) (context_of c.run_next.new.world) (world_of c.loop-number.world) (world_of c.run_next.new.world) c.loop-number.kept c.run_next.new.kept
    c.run_next.result c.in-Ok.field-0
    (subst (λ (n : ℕ). Going whole first ps marks n (context_of c.loop-number.world) (world_of c.loop-number.world) c.loop-number.kept) is c.loop-number.invariant)
    c.in-Ok.is c.run_next.ensures.context c.run_next.ensures.can c.run_next.ensures.next)

pub returns-clause-ran : goal.returns-clause-ran
returns-clause-ran c =
    going_ends (run_all (numbered (context_of c.args.world.now)) 0 c.args.processes.now (states_kept c.args.processes.now c.args.kept.now) c.args.resumed.now (world_of c.args.world.now))
    (context_of c.args.world.now) c.args.processes.now c.args.resumed.now (next_called c.args.called.now (length c.args.processes.now) c.loop-number.number-index)
    (context_of c.loop-number.world) (world_of c.loop-number.world) c.loop-number.kept
    c.requires.resumed (get_or_past c.args.called.now c.loop-number.number-index (length c.args.processes.now) c.loop-number-test.false) c.loop-number.invariant
