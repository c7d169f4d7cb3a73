use Rattle.resumption.proofs.Asking.{asks}
use Rattle.resumption.proofs.met.is_met.Goals as goal

pub met-requires : goal.met-requires
met-requires g c =
    asks c.args.world.now c.args.process (g.S.Asleep.asleep c.args.sleeper.now) _ c.variables.result.now c.wait.result _ c.requires.waits c.requires.there
    c.variables.ensures c.wait.ensures c.wait-wait.ensures
