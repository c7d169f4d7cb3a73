use Rattle.sim_top.proofs.Modes.{never_run}
use Rattle.sim_top.proofs.top.perform.Goals as goal

pub unreachable-requires : goal.unreachable-requires
unreachable-requires g c = never_run c.args.settings.now.mode c.in-Run.is c.requires.plain
