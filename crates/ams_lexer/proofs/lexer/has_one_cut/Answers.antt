use Rattle.ams_lexer.proofs.OneCut.{one_cut}
use Rattle.ams_lexer.proofs.lexer.has_one_cut.Goals as goal

pub returns : goal.returns
returns c = λ cuts others attribute text end other is also. let same = one_cut cuts others attribute text end other is also in (same.pieces, same.ending)
