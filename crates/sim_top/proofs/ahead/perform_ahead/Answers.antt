use Rattle.std.proofs.Common.{refl}
use Rattle.word_rules.specs.Words.{texts}
use Rattle.sim_top.proofs.Modes.{accepted, ends_ahead, ends_without_memory}
use Rattle.sim_top.proofs.ahead.perform_ahead.Goals as goal

pub read_settings-requires : goal.read_settings-requires
read_settings-requires g c = accepted (texts c.args.words.now) c.requires

pub returns-in-Ok : goal.returns-in-Ok
returns-in-Ok g c = ends_ahead c.run_ahead.result (texts c.args.words.now) c.in-Ok.settings _ _ _ c.requires c.in-Ok.ensures.asked c.run_ahead.ensures

pub returns-in-Err : goal.returns-in-Err
returns-in-Err g c = ends_without_memory (texts c.args.words.now) _ _ _ c.requires refl refl refl
