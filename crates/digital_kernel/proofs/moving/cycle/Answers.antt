use Rattle.std.proofs.Common.{◌≤◌, ◌∙◌, arith}
use Rattle.fix_core.specs.Units.{most_ticks}
use Rattle.cycle_meaning.specs.Cycles.{cycle}
use Rattle.kernel_state.specs.State.{objects_of, state_of}
use Rattle.digital_kernel.proofs.Safe.{safe_there}
use Rattle.digital_kernel.proofs.moving.cycle.Goals as goal

pub cycle-ended-requires-clause-world : goal.cycle-ended-requires-clause-world
cycle-ended-requires-clause-world c = λ k.
    let early : c.args.t ≤ most_ticks = omega (arith, c.get.ensures.value, c.get.ensures.bound) in
    (c.worlds_have_values_of_their_types.ensures.begun (objects_of c.args.parts.now) (state_of c.args.parts.now) c.args.t c.args.n c.args.x.now c.args.to_time k c.requires.design c.requires.cycling.safe.values c.requires.point early).world

pub returns-clause-hands : goal.returns-clause-hands
returns-clause-hands c =
    c.hand_over.ensures.hands (cycle (objects_of c.args.parts.now) (state_of c.args.parts.now) c.args.t c.args.n c.args.x.now c.args.to_time) c.cycle-ended.ensures.ends

pub returns-clause-safe : goal.returns-clause-safe
returns-clause-safe c = λ w.
    let o = objects_of c.args.parts.now in
    let d = state_of c.args.parts.now in
    let e = cycle o d c.args.t c.args.n c.args.x.now c.args.to_time in
    let early : c.args.t ≤ most_ticks = omega (arith, c.get.ensures.value, c.get.ensures.bound) in
    let h = (c.hand_over.ensures.hands e c.cycle-ended.ensures.ends).left w in
    safe_there o (objects_of c.hand_over.new.parts) e.digital (state_of c.hand_over.new.parts) (c.hand_over.ensures.objects ∙ c.cycle-ended.ensures.objects) h.digital
    (c.states_stay_safe.ensures.cycle o d c.args.t c.args.n c.args.x.now c.args.to_time _ c.requires.design c.requires.cycling.safe c.requires.point early c.requires.next h.ran)
