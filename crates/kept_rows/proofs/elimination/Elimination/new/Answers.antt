-- Room that grows by a row and a column.
use Rattle.std.proofs.Common.{◌≡◌, ◌<◌, ◌+◌, ◌^◌, List, length, pos, subst, sym, ap, ◌∙◌, arith}
use Rattle.std.proofs.lemmas.List.{length-replicate}
use Rattle.kept_rows.specs.declared.column.Column.{Column as Held}
use Rattle.kept_rows.proofs.Rooms.{IsRoom, room_more, grown, counted, new_sound}
use Rattle.kept_rows.proofs.elimination.Elimination.new.Goals as goal

pub loop-row-preserved : goal.loop-row-preserved
loop-row-preserved c =
    let i = c.loop-row.invariant in
    let n = c.args.n in
    let column = c.in_ok-new-3.field-0 in
    let below : c.loop-row.row < n = omega arith in
    let first = ap length c.in_ok-new.ensures ∙ length-replicate n (pos 0) in
    let second = ap length c.in_ok-new-2.ensures ∙ length-replicate n (pos 0) in
    let factors : length column.factors + 0 + length c.loop-row.columns.items + 1 ≡ n = omega (arith, c.in_ok-new-3.ensures.1, i.column_count, below) in
    record {
      matrix = grown n c.loop-row.matrix.items c.in_ok-new.field-0 c.push.new.self.items i.matrix first c.in_ok-push.ensures.items;
      matrix_count = counted c.loop-row.matrix.items c.in_ok-new.field-0 c.push.new.self.items c.loop-row.row i.matrix_count c.in_ok-push.ensures.items;
      rows = grown n c.loop-row.rows.items c.in_ok-new-2.field-0 c.push-in-loop-row.new.self.items i.rows second c.in_ok-push-2.ensures.items;
      row_count = counted c.loop-row.rows.items c.in_ok-new-2.field-0 c.push-in-loop-row.new.self.items c.loop-row.row i.row_count c.in_ok-push-2.ensures.items;
      columns = subst (IsRoom n 0) (sym c.in_ok-push-3.ensures.items) (room_more n 0 c.loop-row.columns.items column i.columns c.in_ok-new-3.ensures.0 factors);
      column_count = counted c.loop-row.columns.items column c.push-in-loop-row-2.new.self.items c.loop-row.row i.column_count c.in_ok-push-3.ensures.items;
    }

pub returns : goal.returns
returns c =
    let i = c.loop-row.invariant in
    let n = c.args.n in
    let all : c.loop-row.row ≡ n = omega arith in
    let small : n < 2 ^ 32 = omega arith in
    let turns : length c.in_ok-turns.turns.items ≡ n = omega (arith, c.in_ok-turns.ensures.len) in
    let spare = ap length c.in_ok-spare.ensures ∙ length-replicate n (pos 0) in (
      new_sound n c.loop-row.matrix.items c.loop-row.rows.items c.in_ok-turns.turns.items c.loop-row.columns.items c.in_ok-spare.spare small i.matrix (i.matrix_count ∙ all) i.rows (i.row_count ∙ all) turns i.columns (i.column_count ∙ all) spare,
      i.matrix_count ∙ all,
    )
