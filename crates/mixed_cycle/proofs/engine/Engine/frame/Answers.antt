use Rattle.std.proofs.Common.{subst}
use Rattle.mixed_cycle.specs.Asking.{AsksFrom, asks_from}
use Rattle.mixed_cycle.specs.Running.{Running}
use Rattle.mixed_cycle.proofs.engine.Engine.frame.Goals as goal

pub returns-clause-from : goal.returns-clause-from
returns-clause-from g c =
    subst (λ (v : Running). AsksFrom v.walk.awaited (g.D.Design.system 0) v.walk.frame v.walk.tip) c.self.view_is
    (asks_from (g.D.Design.system 0) g.S.Stepper.part g.K.Kernel.state c.self.inside.machine c.self.invariant.sound)
