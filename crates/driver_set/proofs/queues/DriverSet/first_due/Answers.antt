use Rattle.std.proofs.Common.{ap, ◌∙◌}
use Rattle.std.specs.Prelude.{position}
use Rattle.agenda.specs.Times.{is_time}
use Rattle.driver_set.specs.Queues.{queues_of, AreLate}
use Rattle.driver_set.proofs.QueueSteps.{late_times, position_in_times}
use Rattle.driver_set.proofs.queues.DriverSet.first_due.Goals as goal

pub first_at-requires : goal.first_at-requires
first_at-requires c =
    let late : AreLate c.args.t (queues_of c.self.inside.drivers.items) = rw c.self.view_is c.requires in
    rw c.self.invariant.times (late_times c.args.t (queues_of c.self.inside.drivers.items) late)

pub returns : goal.returns
returns c =
    rw (← c.self.view_is)
    (c.first_at.ensures ∙ ap (λ times. position (λ time. is_time time c.args.t) times) c.self.invariant.times ∙ position_in_times c.args.t (queues_of c.self.inside.drivers.items))
