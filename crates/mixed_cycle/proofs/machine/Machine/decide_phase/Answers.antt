use Rattle.mixed_cycle.specs.Deciding.{phase_decides_by}
use Rattle.mixed_cycle.proofs.machine.Machine.decide_phase.Goals as goal

pub returns : goal.returns
returns g c =
    phase_decides_by (g.D.Design.system 0) g.S.Stepper.part g.S.Stepper.count g.K.Kernel.state c.args.self.now c.next_time-next.result c.decide_phase.new.self c.requires.sound c.requires.stage c.next_time-next.ensures.value c.decide_phase.ensures
