use Rattle.mixed_cycle.specs.Making.{three_decide}
use Rattle.mixed_cycle.proofs.machine.Machine.make_ready.Goals as goal

pub returns : goal.returns
returns g c =
    three_decide (g.D.Design.system 0) g.S.Stepper.part g.S.Stepper.count g.K.Kernel.state c.args.self.now c.decide.new.self c.decide-2.new.self c.decide-3.new.self c.decide.ensures c.decide-2.ensures c.decide-3.ensures
