use Rattle.std.proofs.Common.{◌∙◌}
use Rattle.ams_lexer.proofs.KindLaws.{puts_word, puts_name}
use Rattle.ams_lexer.proofs.kinds.identifier_kind.Goals as goal

pub returns-in-Some : goal.returns-in-Some
returns-in-Some c = puts_word c.args.names.now c.in-Some.word _ _ (c.as_str-text.ensures.value ∙ c.in_ok-set_lower.ensures) c.in-Some.ensures

pub returns-in_ok-number-in-None : goal.returns-in_ok-number-in-None
returns-in_ok-number-in-None c = puts_name c.args.names.now c.number.new.self c.in_ok-number-in-None.number _ _ (c.as_str-text.ensures.value ∙ c.in_ok-set_lower.ensures) c.in-None.ensures c.in_ok-number-in-None.ensures.ok
