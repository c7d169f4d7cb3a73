use Rattle.std.proofs.Common.{ap}
use Rattle.waveform.specs.Projected.{projected}
use Rattle.waveform.specs.Waveform.{Waveform}
use Rattle.driver_set.proofs.QueueSteps.{queue_changed}
use Rattle.driver_set.proofs.queues.assign_at.Goals as goal

pub returns-clause-ok : goal.returns-clause-ok
returns-clause-ok c =
    queue_changed (λ old. projected c.args.kind c.args.reject old c.args.new.now) c.args.drivers.now.items c.args.number c.index_mut-driver.result.now c.assign.new.self
    c.requires.within c.index_mut-driver.ensures.value (ap (λ (w : Waveform). w.pending) c.in_ok-assign.ensures.ok)
