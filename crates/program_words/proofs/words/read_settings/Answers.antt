use Rattle.clap.specs.Matches.{found_of, first_value}
use Rattle.word_rules.specs.Words.{texts}
use Rattle.program_words.proofs.AskedLemmas.{in_range_from}
use Rattle.program_words.proofs.words.read_settings.Goals as goal

pub settings_of-requires : goal.settings_of-requires
settings_of-requires c = in_range_from (first_value (found_of c.in-Ok.matches)) (texts c.args.words.now) c.in-Ok.ensures.values c.requires
