use Rattle.std.proofs.Common.{◌≡◌, ◌∙◌, ◌++◌, List, length, sym, ap}
use Rattle.step_data.specs.declared.event.Event.{Event}
use Rattle.step_model.specs.System.{Digital}
use Rattle.step_model.specs.Kernel.{AddsFront}
use Rattle.cycle_meaning.specs.World.{World as CycleWorld}
use Rattle.cycle_meaning.specs.Cycles.{with_driving, world_of as begun_world}
use Rattle.threshold_set.specs.Crossed.{crossed_of}
use Rattle.cycle_changes.specs.Changes.{events_of}
use Rattle.cycle_changes.proofs.Fronts.{on_err}
use Rattle.kernel_world.specs.Acting.{world_of}
use Rattle.kernel_world.specs.Beginning.{IsLeft, IsEntered}
use Rattle.kernel_world.proofs.Beginning.{late_of, sights_begin, world_begins, events_begin, entered_thresholds, entered_signals, entered_order, same_front}
use Rattle.kernel_world.proofs.world.World.begin.Goals as goal

pub change_all-requires-clause-late : goal.change_all-requires-clause-late
change_all-requires-clause-late c =
    let queues : c.enter.new.self.drivers ≡ c.args.self.now.drivers = ap (λ (w : CycleWorld). w.queues) c.enter.ensures.world in
    late_of c.args.t c.enter.new.self.drivers c.len-2.ensures.rising (rw queues c.requires.late)

pub change_all-requires-clause-order : goal.change_all-requires-clause-order
change_all-requires-clause-order c = entered_order c.enter.new.self

pub returns-clause-world : goal.returns-clause-world
returns-clause-world c = λ d left.
    let old = c.args.self.now in
    let now = c.enter.new.self in
    let g : IsEntered old now c.args.t c.args.n c.args.x.now c.args.to_time = record { context = c.enter.ensures.context; world = c.enter.ensures.world } in
    let as_many : length now.signals.events ≡ length now.signals.values = sym c.len.ensures.events ∙ c.len.ensures.values in
    let crossed = entered_thresholds old now c.args.t c.args.n c.args.x.now c.args.to_time d g left in
    let seen = entered_signals old now c.args.t c.args.n c.args.x.now c.args.to_time d g left as_many in
    world_begins old.flat.now d c.args.t c.args.n c.args.x.now c.args.to_time old.timed now.broke old.events c.change_all.new.out
    _ _ _ now.drivers c.change_all.new.drivers now.elements
    left.timed (ap (λ (w : CycleWorld). w.domain) g.world) (left.queues ∙ sym (ap (λ (w : CycleWorld). w.queues) g.world)) c.in_ok-change_all.ensures.queues
    (sights_begin now.point now.thresholds.states c.change_all.new.thresholds.states c.change_all.new.thresholds.events c.in_ok-change_all.ensures.states c.in_ok-change_all.ensures.crossed ∙ crossed)
    (c.in_ok-change_all.ensures.seen ∙ seen)
    (ap (λ (w : CycleWorld). w.elements) g.world) (ap (λ (w : CycleWorld). w.broke) g.world)
    (c.in_ok-change_all.ensures.given
    ∙ ap (λ (l : List Event). l ++ events_of c.args.to_time c.args.t c.args.n (crossed_of now.point now.thresholds.states) (with_driving c.args.t now.numbers now.drivers 0 now.signals.values))
    (ap (λ (w : CycleWorld). w.events) g.world)
    ∙ ap (λ (l : List Event). old.events ++ l)
    (events_begin old.flat.now d c.args.t c.args.n c.args.x.now c.args.to_time (with_driving c.args.t now.numbers now.drivers 0 now.signals.values) (crossed_of now.point now.thresholds.states) crossed seen))

pub returns-in_err-change_all-clause-front : goal.returns-in_err-change_all-clause-front
returns-in_err-change_all-clause-front c =
    let old = c.args.self.now in
    let now = c.enter.new.self in
    let g : IsEntered old now c.args.t c.args.n c.args.x.now c.args.to_time = record { context = c.enter.ensures.context; world = c.enter.ensures.world } in
    let as_many : length now.signals.events ≡ length now.signals.values = sym c.len.ensures.events ∙ c.len.ensures.values in
    on_err c.from_residual.result
    ((d : Digital) → IsLeft d (world_of old) → AddsFront old.events c.change_all.new.out (begun_world old.flat.now d c.args.t c.args.n c.args.x.now c.args.to_time).events)
    (λ d left.
    let e = events_begin old.flat.now d c.args.t c.args.n c.args.x.now c.args.to_time (with_driving c.args.t now.numbers now.drivers 0 now.signals.values) (crossed_of now.point now.thresholds.states)
    (entered_thresholds old now c.args.t c.args.n c.args.x.now c.args.to_time d g left) (entered_signals old now c.args.t c.args.n c.args.x.now c.args.to_time d g left as_many) in
    same_front now.events old.events c.change_all.new.out _ _ (ap (λ (w : CycleWorld). w.events) g.world) e c.in_err-change_all.ensures.front)
