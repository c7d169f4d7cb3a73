use Rattle.std.proofs.Common.{ap}
use Rattle.step_data.specs.Pending.{advanced}
use Rattle.waveform.specs.Waveform.{Waveform}
use Rattle.driver_set.proofs.QueueSteps.{queue_changed}
use Rattle.driver_set.proofs.queues.advance_at.Goals as goal

pub returns-clause-queues : goal.returns-clause-queues
returns-clause-queues c =
    queue_changed (advanced c.args.t) c.args.drivers.now.items c.args.number c.index_mut-driver.result.now c.advance.new.self
    c.requires.within c.index_mut-driver.ensures.value (ap (λ (w : Waveform). w.pending) c.advance.ensures.after)
