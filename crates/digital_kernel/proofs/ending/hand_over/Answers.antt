use Rattle.std.proofs.Common.{◌∙◌, ap, subst, Bool, List, ◌++◌}
use Rattle.step_data.specs.declared.event.Event.{Event}
use Rattle.step_model.specs.Kernel.{AddsFront}
use Rattle.digital_kernel.specs.Handing.{IsAnswer}
use Rattle.digital_kernel.proofs.Exchanged.{moved, going_moved, state_moved, silenced}
use Rattle.digital_kernel.proofs.Handed.{Moved, hands_all, hands_front}
use Rattle.digital_kernel.proofs.ending.hand_over.Goals as goal

pub returns-clause-hands : goal.returns-clause-hands
returns-clause-hands c = λ e ends.
    let k = c.args.parts.now in
    let w = c.exchange_events.new.self in
    let ew = silenced k w k.events c.requires.own c.exchange_events.ensures.local in
    let m : Moved k (moved k w c.hand_on.new.events) = record { world = ew; state = state_moved k w c.hand_on.new.events c.exchange_events.ensures.context ew; going = going_moved k w c.hand_on.new.events c.exchange_events.ensures.context ew } in
    hands_all e k (moved k w c.hand_on.new.events) c.args.out.now c.hand_on.new.out c.args.ended c.answer_of.result ends
    (subst (λ (b : Bool). IsAnswer c.args.ended b c.answer_of.result) c.has_broken.ensures c.answer_of.ensures)
    (c.in_ok-hand_on.ensures.ok ∙ ap (λ (l : List Event). c.args.out.now ++ l) c.exchange_events.ensures.before) m

pub returns-in_err-hand_on-clause-hands : goal.returns-in_err-hand_on-clause-hands
returns-in_err-hand_on-clause-hands c = λ e ends.
    let k = c.args.parts.now in
    hands_front e k (moved k c.exchange_events.new.self c.hand_on.new.events) c.args.out.now c.hand_on.new.out c.args.ended c.from_residual.result ends c.from_residual.ensures.0
    (subst (λ (l : List Event). AddsFront c.args.out.now c.hand_on.new.out l) c.exchange_events.ensures.before c.in_err-hand_on.ensures.front)
