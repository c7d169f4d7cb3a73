use Rattle.mixed_cycle.specs.Deciding.{delta_decides_by}
use Rattle.mixed_cycle.proofs.machine.Machine.decide_delta.Goals as goal

pub returns : goal.returns
returns g c =
    delta_decides_by (g.D.Design.system 0) g.S.Stepper.part g.S.Stepper.count g.K.Kernel.state c.args.self.now c.args.to_time c.decide_delta.new.self c.requires.sound c.requires.stage c.decide_delta.ensures
