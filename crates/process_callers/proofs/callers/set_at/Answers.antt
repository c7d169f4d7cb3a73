use Rattle.std.proofs.Common.{◌∙◌, sym, ap, arith}
use Rattle.cycle_meaning.specs.Cycles.{Waiting, waiting_at}
use Rattle.resumption.proofs.Walks.{goes_in, ends_at, ends_nowhere, ends_short}
use Rattle.process_callers.proofs.callers.set_at.Goals as goal

pub returns-then-is_wait : goal.returns-then-is_wait
returns-then-is_wait c =
    c.set_of.ensures
    ∙ ap (λ (w : Waiting). w.0) (ends_at c.args.path.now c.loop-step.step-index _ c.loop-step.body.now c.in-Some.statement.now c.loop-step-test.true (sym c.in-Some.ensures.value) (sym c.if-is_wait.ensures)
    ∙ c.loop-step.invariant)

pub returns-in-None : goal.returns-in-None
returns-in-None c =
    ap (λ (w : Waiting). w.0) (ends_nowhere c.args.path.now c.loop-step.step-index _ c.loop-step.body.now c.loop-step-test.true (sym c.in-None.ensures.value)
    ∙ c.loop-step.invariant)

pub loop-step-preserved : goal.loop-step-preserved
loop-step-preserved c =
    ap (waiting_at _) c.inner_body-body.ensures
    ∙ (goes_in c.args.path.now c.loop-step.step-index _ c.loop-step.body.now c.in-Some.statement.now c.loop-step-test.true (sym c.in-Some.ensures.value) (sym c.if-is_wait.ensures)
    ∙ c.loop-step.invariant)

pub returns : goal.returns
returns c = ap (λ (w : Waiting). w.0) (ends_short c.args.path.now c.loop-step.step-index c.loop-step.body.now (omega arith) ∙ c.loop-step.invariant)
