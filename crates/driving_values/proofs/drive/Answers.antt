use Rattle.std.proofs.Common.{◌≡◌, ◌∙◌, ℕ, Some, length, get_or, sym, ap, false}
use Rattle.std.specs.Prelude.{position}
use Rattle.ams_value.specs.declared.val.Val.TheVariants as val
use Rattle.signal_store.specs.Signals.{Signals}
use Rattle.step_model.specs.Kernel.{AddsFront}
use Rattle.cycle_meaning.specs.Cycles.{with_driving, signal_events}
use Rattle.driver_set.specs.Queues.{stands_first}
use Rattle.driving_values.proofs.Changing.{on_err}
use Rattle.driving_values.proofs.Loop.{started, ended, stopped, named_at, smaller, asked, value_read, moved}
use Rattle.driving_values.proofs.drive.Goals as goal

pub loop-number-init : goal.loop-number-init
loop-number-init c =
    started c.args.t c.args.n c.args.numbers.now c.args.drivers.now c.args.signals.now.values c.clear.new.self.values c.clear.new.self.events c.args.out.now
    c.requires.late c.len.ensures.rising c.requires.as_many (ap (λ (s : Signals). s.values) c.clear.ensures) (ap (λ (s : Signals). s.events) c.clear.ensures)

pub drive_one-requires-clause-stands : goal.drive_one-requires-clause-stands
drive_one-requires-clause-stands c =
    let found : position (stands_first c.args.t) c.loop-number.drivers ≡ Some c.in-Some.number = sym c.first_due.ensures ∙ c.in-Some.is in
    let d : ℕ = get_or c.args.numbers.now c.in-Some.number 0 in
    let named = named_at c.args.t c.in-Some.number c.args.numbers.now c.loop-number.drivers found c.loop-number.invariant.as_many in
    (asked c.args.t c.args.n (length c.args.signals.now.values) c.args.numbers.now c.args.drivers.now c.args.signals.now.values c.args.out.now c.loop-number.drivers c.loop-number.signals.values c.loop-number.signals.events c.loop-number.out c.loop-number.invariant c.requires.order c.in-Some.number d found named).stands

pub drive_one-requires-clause-signal : goal.drive_one-requires-clause-signal
drive_one-requires-clause-signal c =
    let found : position (stands_first c.args.t) c.loop-number.drivers ≡ Some c.in-Some.number = sym c.first_due.ensures ∙ c.in-Some.is in
    λ d named. (asked c.args.t c.args.n (length c.args.signals.now.values) c.args.numbers.now c.args.drivers.now c.args.signals.now.values c.args.out.now c.loop-number.drivers c.loop-number.signals.values c.loop-number.signals.events c.loop-number.out c.loop-number.invariant c.requires.order c.in-Some.number d found named).signal

pub drive_one-requires-clause-still : goal.drive_one-requires-clause-still
drive_one-requires-clause-still c =
    let found : position (stands_first c.args.t) c.loop-number.drivers ≡ Some c.in-Some.number = sym c.first_due.ensures ∙ c.in-Some.is in
    λ d named. (asked c.args.t c.args.n (length c.args.signals.now.values) c.args.numbers.now c.args.drivers.now c.args.signals.now.values c.args.out.now c.loop-number.drivers c.loop-number.signals.values c.loop-number.signals.events c.loop-number.out c.loop-number.invariant c.requires.order c.in-Some.number d found named).still_is

pub loop-number-smaller : goal.loop-number-smaller
loop-number-smaller c =
    let found : position (stands_first c.args.t) c.loop-number.drivers ≡ Some c.in-Some.number = sym c.first_due.ensures ∙ c.in-Some.is in
    smaller c.args.t c.in-Some.number c.loop-number.drivers c.drive_one.new.drivers found c.in_ok-drive_one.ensures.queues

pub loop-number-preserved : goal.loop-number-preserved
loop-number-preserved c =
    let found : position (stands_first c.args.t) c.loop-number.drivers ≡ Some c.in-Some.number = sym c.first_due.ensures ∙ c.in-Some.is in
    let d : ℕ = get_or c.args.numbers.now c.in-Some.number 0 in
    let named = named_at c.args.t c.in-Some.number c.args.numbers.now c.loop-number.drivers found c.loop-number.invariant.as_many in
    let read = value_read c.args.t c.args.n (length c.args.signals.now.values) c.args.numbers.now c.args.drivers.now c.args.signals.now.values c.args.out.now c.loop-number.drivers c.loop-number.signals.values c.loop-number.signals.events c.loop-number.out c.loop-number.invariant c.requires.order c.in-Some.number d found named in
    moved c.args.t c.args.n (length c.args.signals.now.values) c.args.numbers.now c.args.drivers.now c.args.signals.now.values c.args.out.now c.loop-number.drivers c.loop-number.signals.values c.loop-number.signals.events c.loop-number.out c.loop-number.invariant c.requires.order c.in-Some.number d found named
    c.drive_one.new.drivers c.drive_one.new.signals.values c.drive_one.new.signals.events c.drive_one.new.out (get_or c.loop-number.signals.values d (val.Bool false)) read
    c.in_ok-drive_one.ensures.queues (c.in_ok-drive_one.ensures.seen d (get_or c.loop-number.signals.values d (val.Bool false)) named read)
    (c.in_ok-drive_one.ensures.given d (get_or c.loop-number.signals.values d (val.Bool false)) named read) c.in_ok-drive_one.ensures.values c.in_ok-drive_one.ensures.events

pub returns-in_err-drive_one-clause-front : goal.returns-in_err-drive_one-clause-front
returns-in_err-drive_one-clause-front c =
    on_err c.from_residual.result (AddsFront c.args.out.now c.drive_one.new.out (signal_events c.args.t c.args.n 0 (with_driving c.args.t c.args.numbers.now c.args.drivers.now 0 c.args.signals.now.values)))
    (rw c.in_err-drive_one.ensures.err (stopped c.args.t c.args.n (length c.args.signals.now.values) c.args.numbers.now c.args.drivers.now c.args.signals.now.values c.args.out.now c.loop-number.drivers c.loop-number.signals.values c.loop-number.signals.events c.loop-number.out c.loop-number.invariant))

pub returns-clause-queues : goal.returns-clause-queues
returns-clause-queues c = (ended c.args.t c.args.n (length c.args.signals.now.values) c.args.numbers.now c.args.drivers.now c.args.signals.now.values c.args.out.now c.loop-number.drivers c.loop-number.signals.values c.loop-number.signals.events c.loop-number.out c.loop-number.invariant (sym c.first_due.ensures ∙ c.in_default.is)).0

pub returns-clause-seen : goal.returns-clause-seen
returns-clause-seen c = (ended c.args.t c.args.n (length c.args.signals.now.values) c.args.numbers.now c.args.drivers.now c.args.signals.now.values c.args.out.now c.loop-number.drivers c.loop-number.signals.values c.loop-number.signals.events c.loop-number.out c.loop-number.invariant (sym c.first_due.ensures ∙ c.in_default.is)).1

pub returns-clause-given : goal.returns-clause-given
returns-clause-given c = (ended c.args.t c.args.n (length c.args.signals.now.values) c.args.numbers.now c.args.drivers.now c.args.signals.now.values c.args.out.now c.loop-number.drivers c.loop-number.signals.values c.loop-number.signals.events c.loop-number.out c.loop-number.invariant (sym c.first_due.ensures ∙ c.in_default.is)).2
