-- The unknowns of the kept matrix, joined to the right sides.
use Rattle.std.proofs.Common.{sym, ◌∙◌}
use Rattle.kept_rows.proofs.Rooms.{by_kept}
use Rattle.kept_rows.specs.Joined.{rows_with}
use Rattle.kept_rows.proofs.Joining.{matrix_joined, sides_joined, square_joined}
use Rattle.kept_rows.proofs.elimination.Elimination.unknowns.Goals as goal

pub returns : goal.returns
returns c =
    let e = c.args.self.now in
    let m = e.matrix.items in
    let bs = c.args.numbers.now in
    by_kept m e.turns.items e.columns.items (rows_with m bs) bs (c.requires.sound.gives c.requires.kept) (square_joined m bs c.requires.count c.requires.sound.square)
    (sym (matrix_joined m bs c.requires.count)) (sym (sides_joined m bs c.requires.count)) ∙ c.solve.ensures
