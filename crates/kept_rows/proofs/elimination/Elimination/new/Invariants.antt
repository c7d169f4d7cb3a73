use Rattle.std.proofs.Common.{◌≡◌, length}
use Rattle.std.specs.List.{All}
use Rattle.kept_rows.proofs.Rooms.{IsRoom}
use Rattle.kept_rows.proofs.elimination.Elimination.new.Given as goal

abbrev pub invariant-loop-row : goal.invariant-loop-row
invariant-loop-row l = record {
  matrix : All (λ row. length row ≡ l.n) l.matrix.items;
  matrix_count : length l.matrix.items ≡ l.row;
  rows : All (λ row. length row ≡ l.n) l.rows.items;
  row_count : length l.rows.items ≡ l.row;
  columns : IsRoom l.n 0 l.columns.items;
  column_count : length l.columns.items ≡ l.row;
}
