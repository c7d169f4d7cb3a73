-- What was made of the rows' coefficients.
use Rattle.std.proofs.Common.{◌≡◌, ◌<◌, ◌^◌, ℤ, List, length, subst, refl, sym, ap, ◌∙◌, arith}
use Rattle.std.specs.List.{All}
use Rattle.kept_rows.proofs.Rooms.{square, kept_made}
use Rattle.kept_rows.proofs.elimination.keep.Goals as goal

pub eliminate_all-requires-clause-rows : goal.eliminate_all-requires-clause-rows
eliminate_all-requires-clause-rows c =
    subst (λ (m : List (List ℤ)). All (λ row. length row ≡ length m) m) (sym c.copy_matrix-2.ensures.matrix) (square c.args.from.now (length c.args.from.now) c.requires.from refl)

pub returns-clause-kept : goal.returns-clause-kept
returns-clause-kept c =
    let small : length c.copy_matrix.new.matrix < 2 ^ 32 = omega (arith, c.requires.room.small, c.copy_matrix.auto.matrix) in
    let turns : length c.eliminate_all.new.turns ≡ length c.copy_matrix-2.new.matrix = omega (arith, c.eliminate_all.auto.turns, c.requires.room.turn_count, c.requires.room.row_count, c.copy_matrix-2.auto.matrix) in
    let columns : length c.eliminate_all.new.columns ≡ length c.copy_matrix-2.new.matrix = omega (arith, c.eliminate_all.auto.columns, c.requires.room.column_count, c.requires.room.row_count, c.copy_matrix-2.auto.matrix) in
    kept_made c.args.from.now c.copy_matrix.new.matrix c.copy_matrix-2.new.matrix c.eliminate_all.new.rows c.eliminate_all.new.turns c.eliminate_all.new.columns c.eliminate_all.new.spare c.eliminate_all.result c.is_ok.result
    c.requires.from c.copy_matrix.ensures.matrix c.copy_matrix-2.ensures.matrix small c.is_ok.ensures.value c.eliminate_all.ensures.answer c.eliminate_all.ensures.quotients c.eliminate_all.auto.rows c.eliminate_all.ensures.rows turns columns c.eliminate_all.ensures.room c.eliminate_all.ensures.spare
