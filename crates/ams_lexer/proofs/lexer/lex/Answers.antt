use Rattle.ams_lexer.proofs.OneCut.{accepted_only, refused_only}
use Rattle.ams_lexer.proofs.lexer.lex.Goals as goal

pub returns-clause-accepted : goal.returns-clause-accepted
returns-clause-accepted c = λ cuts is. accepted_only c.args.text.now c.lex_text.result cuts c.lex_text.ensures.fault is

pub returns-clause-refused : goal.returns-clause-refused
returns-clause-refused c = λ cuts x offset is. refused_only c.args.text.now c.lex_text.result cuts x offset c.lex_text.ensures.tokens c.lex_text.ensures.fault is
