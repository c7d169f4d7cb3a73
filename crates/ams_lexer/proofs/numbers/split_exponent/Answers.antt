use Rattle.ams_lexer.proofs.ValueLaws.{exponent_spelled}
use Rattle.ams_lexer.proofs.numbers.split_exponent.Goals as goal

pub returns-clause-spelled : goal.returns-clause-spelled
returns-clause-spelled c = rw (c.split_at.ensures.front, c.exponent_length.ensures.length) (exponent_spelled c.args.signed c.args.bytes.now)
