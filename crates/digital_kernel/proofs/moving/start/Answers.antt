use Rattle.std.proofs.Common.{◌∙◌}
use Rattle.cycle_meaning.specs.Cycles.{start}
use Rattle.kernel_state.specs.State.{objects_of, state_of}
use Rattle.digital_kernel.proofs.Safe.{safe_there}
use Rattle.digital_kernel.proofs.moving.start.Goals as goal

pub start-ended-requires-clause-typed : goal.start-ended-requires-clause-typed
start-ended-requires-clause-typed c = λ k.
    (c.worlds_have_values_of_their_types.ensures.first (objects_of c.args.parts.now) c.args.x.now k c.requires.design c.requires.point).world

pub returns-clause-hands : goal.returns-clause-hands
returns-clause-hands c = c.hand_over.ensures.hands (start (objects_of c.args.parts.now) c.args.x.now) c.start-ended.ensures.ends

pub returns-clause-safe : goal.returns-clause-safe
returns-clause-safe c = λ w.
    let o = objects_of c.args.parts.now in
    let e = start o c.args.x.now in
    let h = (c.hand_over.ensures.hands e c.start-ended.ensures.ends).left w in
    safe_there o (objects_of c.hand_over.new.parts) e.digital (state_of c.hand_over.new.parts) (c.hand_over.ensures.objects ∙ c.start-ended.ensures.objects) h.digital
    (c.states_stay_safe.ensures.start o c.args.x.now _ c.requires.design c.requires.point h.ran)
