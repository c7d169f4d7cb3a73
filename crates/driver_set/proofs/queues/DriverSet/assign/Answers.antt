use Rattle.std.proofs.Common.{get_or, []}
use Rattle.waveform.specs.Projected.{projected}
use Rattle.driver_set.specs.Queues.{queues_of}
use Rattle.driver_set.proofs.QueueSteps.{entered, assigned_rising, count_kept}
use Rattle.driver_set.proofs.queues.DriverSet.assign.Goals as goal

pub enter-requires-clause-rising : goal.enter-requires-clause-rising
enter-requires-clause-rising c =
    assigned_rising (queues_of c.self.inside.drivers.items) (queues_of c.assign_at.new.drivers.items) c.args.number c.args.kind c.args.reject c.args.new.now
    c.self.invariant.rising c.requires.rising c.in_ok-next.ensures.ok

pub enter-requires-clause-step : goal.enter-requires-clause-step
enter-requires-clause-step c =
    entered c.self.inside.agenda (queues_of c.self.inside.drivers.items) (queues_of c.assign_at.new.drivers.items) c.args.number
    (projected c.args.kind c.args.reject (get_or (queues_of c.self.inside.drivers.items) c.args.number []) c.args.new.now) c.in_ok-next.next
    c.self.invariant.times c.in_ok-next.ensures.ok c.in_ok-next.ensures.time

pub returns-clause-count : goal.returns-clause-count
returns-clause-count c =
    rw (← c.self.view_is)
    (count_kept (queues_of c.self.inside.drivers.items) (queues_of c.assign_at.new.drivers.items) (queues_of c.enter.new.drivers.items) c.args.number
    (projected c.args.kind c.args.reject (get_or (queues_of c.self.inside.drivers.items) c.args.number []) c.args.new.now)
    c.in_ok-next.ensures.ok c.enter.ensures.count)
