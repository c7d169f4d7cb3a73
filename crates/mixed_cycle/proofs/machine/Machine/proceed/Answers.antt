use Rattle.mixed_cycle.specs.Proceeding.{proceeds, is_ready}
use Rattle.mixed_cycle.proofs.machine.Machine.proceed.Goals as goal

pub work-requires-clause-ready : goal.work-requires-clause-ready
work-requires-clause-ready g c =
    is_ready (g.D.Design.system 0) g.S.Stepper.part g.S.Stepper.count g.K.Kernel.state c.args.self.now c.make_ready.new.self c.make_ready.ensures

pub returns : goal.returns
returns g c =
    proceeds (g.D.Design.system 0) g.S.Stepper.part g.S.Stepper.count g.K.Kernel.state c.args.self.now c.make_ready.new.self c.work.new.self c.args.out.now c.work.new.out c.work.result c.make_ready.ensures c.work.ensures
