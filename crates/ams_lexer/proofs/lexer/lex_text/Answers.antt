use Rattle.std.proofs.Common.{arith, refl}
use Rattle.ams_lexer.proofs.TextLaws.{progress_ends}
use Rattle.ams_lexer.proofs.lexer.lex_text.Goals as goal

pub loop-lexer-init : goal.loop-lexer-init
loop-lexer-init c = (c.in_ok-lexer.ensures.1 c.args.text.now, let e = c.in_ok-lexer.ensures.0 in omega arith)

pub returns-clause-tokens : goal.returns-clause-tokens
returns-clause-tokens c = progress_ends c.args.text.now c.loop-lexer.lexer _ c.loop-lexer.invariant.0 c.loop-lexer.invariant.1 c.loop-lexer-test.false refl refl c.place-end.ensures
