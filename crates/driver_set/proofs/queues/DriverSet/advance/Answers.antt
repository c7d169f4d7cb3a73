use Rattle.std.proofs.Common.{get_or, []}
use Rattle.step_data.specs.Pending.{advanced}
use Rattle.driver_set.specs.Queues.{queues_of}
use Rattle.driver_set.proofs.QueueSteps.{entered, advanced_rising, count_kept}
use Rattle.driver_set.proofs.queues.DriverSet.advance.Goals as goal

pub enter-requires-clause-rising : goal.enter-requires-clause-rising
enter-requires-clause-rising c =
    advanced_rising (queues_of c.self.inside.drivers.items) (queues_of c.advance_at-value.new.drivers.items) c.args.number c.args.t
    c.self.invariant.rising c.advance_at-value.ensures.queues

pub enter-requires-clause-step : goal.enter-requires-clause-step
enter-requires-clause-step c =
    entered c.self.inside.agenda (queues_of c.self.inside.drivers.items) (queues_of c.advance_at-value.new.drivers.items) c.args.number
    (advanced c.args.t (get_or (queues_of c.self.inside.drivers.items) c.args.number [])) c.advance_at-value.result.1
    c.self.invariant.times c.advance_at-value.ensures.queues c.advance_at-value.ensures.time

pub returns-in_err-enter-clause-count : goal.returns-in_err-enter-clause-count
returns-in_err-enter-clause-count c =
    rw (← c.self.view_is)
    (count_kept (queues_of c.self.inside.drivers.items) (queues_of c.advance_at-value.new.drivers.items) (queues_of c.enter.new.drivers.items) c.args.number
    (advanced c.args.t (get_or (queues_of c.self.inside.drivers.items) c.args.number []))
    c.advance_at-value.ensures.queues c.enter.ensures.count)
