use Rattle.mixed_cycle.specs.Proceeding.{is_ready}
use Rattle.mixed_cycle.proofs.machine.Machine.settle.Goals as goal

pub work-requires-clause-ready : goal.work-requires-clause-ready
work-requires-clause-ready g c =
    is_ready (g.D.Design.system 0) g.S.Stepper.part g.S.Stepper.count g.K.Kernel.state c.args.self.now c.make_ready.new.self c.make_ready.ensures
