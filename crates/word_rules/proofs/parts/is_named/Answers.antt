use Rattle.std.proofs.Common.{◌∙◌}
use Rattle.std.specs.Prelude.{string_bytes}
use Rattle.clap.proofs.WalkLemmas.{list_any-map}
use Rattle.word_rules.specs.Words.{names}
use Rattle.word_rules.proofs.parts.is_named.Goals as goal

pub returns : goal.returns
returns c = c.some_name.ensures ∙ list_any-map (names c.args.name.now) string_bytes c.args.words.now
