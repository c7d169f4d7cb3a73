use Rattle.word_rules.specs.Words.{texts}
use Rattle.sim_top.proofs.Modes.{plain_mode}
use Rattle.sim_top.proofs.top.judge_and_perform.Goals as goal

pub perform-requires-clause-plain : goal.perform-requires-clause-plain
perform-requires-clause-plain g c = plain_mode (texts c.args.words.now) c.in-Ok-read_settings.settings c.requires c.in-Ok.ensures.first c.in-Ok-read_settings.ensures.asked
