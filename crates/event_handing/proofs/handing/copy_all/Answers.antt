use Rattle.std.proofs.Common.{◌∙◌}
use Rattle.event_handing.proofs.Fronts.{front_taken, on_err}
use Rattle.event_handing.proofs.handing.copy_all.Goals as goal

pub returns-in_err-copy-clause-front : goal.returns-in_err-copy-clause-front
returns-in_err-copy-clause-front c = on_err c.from_residual.result _ (front_taken c.args.out.now c.loop-event.out c.args.events.now c.loop-event.event-index c.loop-event.invariant)

pub returns-in_err-push-clause-front : goal.returns-in_err-push-clause-front
returns-in_err-push-clause-front c = on_err c.from_residual-in_err-push.result _ (front_taken c.args.out.now c.push.new.self c.args.events.now c.loop-event.event-index (c.in_err-push.ensures.err ∙ c.loop-event.invariant))
