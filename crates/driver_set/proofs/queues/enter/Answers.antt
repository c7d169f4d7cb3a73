use Rattle.std.proofs.Common.{set, ap, ◌∙◌}
use Rattle.std.specs.Prelude.{None}
use Rattle.driver_set.specs.Queues.{queues_of}
use Rattle.driver_set.proofs.QueueSteps.{forgotten}
use Rattle.driver_set.proofs.queues.enter.Goals as goal

pub returns-in_default-clause-step : goal.returns-in_default-clause-step
returns-in_default-clause-step c =
    c.forget.ensures ∙ ap (λ agenda. set agenda c.args.number None) c.in_default.ensures.err
    ∙ forgotten (queues_of c.args.drivers.now.items) (queues_of c.clear_at.new.drivers.items) c.args.agenda.now c.args.number c.args.time c.requires.step c.clear_at.ensures
