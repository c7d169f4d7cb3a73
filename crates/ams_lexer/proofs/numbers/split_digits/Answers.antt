use Rattle.ams_lexer.specs.Numbers.{digit}
use Rattle.ams_lexer.proofs.RunLaws.{takes_run}
use Rattle.ams_lexer.proofs.NumberLaws.{takes_digits}
use Rattle.ams_lexer.proofs.numbers.split_digits.Goals as goal

pub returns-clause-run : goal.returns-clause-run
returns-clause-run c = rw (c.split_at.ensures.front, c.run_length.ensures.length) ((takes_run (digit c.args.base) c.args.bytes.now).run)

pub returns-clause-spelled : goal.returns-clause-spelled
returns-clause-spelled c = λ h. rw (c.split_at.ensures.front, c.run_length.ensures.length) (takes_digits c.args.base c.args.bytes.now h)
