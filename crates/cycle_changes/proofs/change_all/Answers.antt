use Rattle.std.proofs.Common.{◌++◌}
use Rattle.step_data.specs.declared.event.Event.TheVariants.{Domain}
use Rattle.step_model.specs.Kernel.{AddsFront}
use Rattle.cycle_meaning.specs.Cycles.{event_if, crossings, signal_events, with_driving}
use Rattle.threshold_set.specs.Crossed.{crossed_of}
use Rattle.cycle_changes.specs.Changes.{events_of}
use Rattle.cycle_changes.proofs.Fronts.{on_err, adds_less, adds_more}
use Rattle.cycle_changes.proofs.change_all.Goals as goal

pub returns-in_err-update-clause-front : goal.returns-in_err-update-clause-front
returns-in_err-update-clause-front c =
    let changed = crossed_of c.args.point.now c.args.thresholds.now.states in
    let seen = with_driving c.args.t c.args.numbers.now c.args.drivers.now 0 c.args.signals.now.values in
    let domain = event_if c.args.to_time (Domain c.args.t c.args.n) in
    let crossed = crossings c.args.t c.args.n 0 changed in
    on_err c.from_residual-in_err-update.result (AddsFront c.args.out.now c.update.new.out (events_of c.args.to_time c.args.t c.args.n changed seen))
    (adds_less c.args.out.now c.update.new.out (domain ++ crossed) (signal_events c.args.t c.args.n 0 seen)
    (adds_more c.args.out.now c.give_domain.new.out c.update.new.out domain crossed c.in_ok-give_domain.ensures.ok c.in_err-update.ensures.front))
