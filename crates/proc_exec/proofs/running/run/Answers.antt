use Rattle.std.proofs.Common.{◌≡◌, zero, suc, ap, ◌∙◌, ◌+◌, ◌-◌, Ok, arith}
use Rattle.cycle_meaning.specs.Processes.{statement_budget}
use Rattle.process_place.specs.Moves.{Ended, run_at}
use Rattle.process_stack.specs.Stacks.{place_of}
use Rattle.proc_exec.specs.declared.running.TheConstants.{STATEMENT_BUDGET}
use Rattle.proc_exec.proofs.Runs.{starts, runs_on, run_waits, run_faults, run_spent}
use Rattle.proc_exec.proofs.running.run.Goals as goal

pub loop-used-init : goal.loop-used-init
loop-used-init g c = starts (g.E.Activation.context c.args.world.now) (g.E.Activation.local c.args.world.now) c.args.text.now c.args.stack.now c.requires

pub loop-used-preserved : goal.loop-used-preserved
loop-used-preserved g c =
    let first = g.E.Activation.context c.args.world.now in
    let whole : Ended = run_at statement_budget first c.args.text.now (g.E.Activation.local c.args.world.now) (place_of c.args.text.now c.args.stack.now) in
    let more : suc (STATEMENT_BUDGET - (c.loop-used._used + 1)) ≡ STATEMENT_BUDGET - c.loop-used._used = omega arith in
    runs_on whole first (STATEMENT_BUDGET - c.loop-used._used) (STATEMENT_BUDGET - (c.loop-used._used + 1)) (g.E.Activation.context c.loop-used.world) (g.E.Activation.context c.step.new.world)
    (g.E.Activation.local c.loop-used.world) (g.E.Activation.local c.step.new.world) c.args.text.now c.loop-used.stack c.step.new.stack c.step.result
    more c.loop-used.invariant c.step.ensures.context (c.in-Ok-None.is ∙ ap Ok c.in-Ok-None.field-0-is) c.step.ensures.performs c.step.ensures.ready

pub returns-in-Ok-Some-clause-ends : goal.returns-in-Ok-Some-clause-ends
returns-in-Ok-Some-clause-ends g c =
    let first = g.E.Activation.context c.args.world.now in
    let whole : Ended = run_at statement_budget first c.args.text.now (g.E.Activation.local c.args.world.now) (place_of c.args.text.now c.args.stack.now) in
    let more : suc (STATEMENT_BUDGET - (c.loop-used._used + 1)) ≡ STATEMENT_BUDGET - c.loop-used._used = omega arith in
    run_waits whole first (STATEMENT_BUDGET - c.loop-used._used) (STATEMENT_BUDGET - (c.loop-used._used + 1)) (g.E.Activation.context c.loop-used.world)
    (g.E.Activation.local c.loop-used.world) (g.E.Activation.local c.step.new.world) c.args.text.now c.loop-used.stack c.step.new.stack c.step.result c.in-Ok-Some.wait
    more c.loop-used.invariant (c.in-Ok-Some.is ∙ ap Ok c.in-Ok-Some.field-0-is) c.step.ensures.performs

pub returns-in-Err-clause-ends : goal.returns-in-Err-clause-ends
returns-in-Err-clause-ends g c =
    let first = g.E.Activation.context c.args.world.now in
    let whole : Ended = run_at statement_budget first c.args.text.now (g.E.Activation.local c.args.world.now) (place_of c.args.text.now c.args.stack.now) in
    let more : suc (STATEMENT_BUDGET - (c.loop-used._used + 1)) ≡ STATEMENT_BUDGET - c.loop-used._used = omega arith in
    run_faults whole first (STATEMENT_BUDGET - c.loop-used._used) (STATEMENT_BUDGET - (c.loop-used._used + 1)) (g.E.Activation.context c.loop-used.world)
    (g.E.Activation.local c.loop-used.world) (g.E.Activation.local c.step.new.world) c.args.text.now c.loop-used.stack c.step.new.stack c.step.result c.in-Err.fault
    more c.loop-used.invariant c.in-Err.is c.step.ensures.performs

pub returns-clause-ends : goal.returns-clause-ends
returns-clause-ends g c =
    let first = g.E.Activation.context c.args.world.now in
    let whole : Ended = run_at statement_budget first c.args.text.now (g.E.Activation.local c.args.world.now) (place_of c.args.text.now c.args.stack.now) in
    let none : STATEMENT_BUDGET - c.loop-used._used ≡ zero = omega arith in
    run_spent whole first (STATEMENT_BUDGET - c.loop-used._used) (g.E.Activation.context c.loop-used.world) (g.E.Activation.local c.loop-used.world) c.args.text.now c.loop-used.stack c.spent.result
    none c.loop-used.invariant c.spent.ensures
