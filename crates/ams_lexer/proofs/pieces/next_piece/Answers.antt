use Rattle.std.proofs.Common.{ℕ, List, sym, subst}
use Rattle.ams_lexer.specs.Pieces.{Right, piece_at}
use Rattle.ams_lexer.proofs.PieceLaws.{right_piece}
use Rattle.ams_lexer.proofs.pieces.next_piece.Goals as goal

pub returns : goal.returns
returns c =
    let a = c.args.attribute in
    let first = c.args.first in
    rw c.read_piece.ensures (subst (λ (bs : List ℕ). Right a bs (piece_at a first bs)) (sym c.requires.1) (right_piece a first c.requires.0))
