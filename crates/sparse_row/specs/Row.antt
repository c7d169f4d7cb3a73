-- The row that `SparseRow` holds.
use Rattle.std.specs.Prelude.{◌≡◌, ◌≤◌, true, ℤ, List, vec_capacity}
use Rattle.sparse_row.specs.Entries.{filled, is_sparse}
use Rattle.sparse_row.specs.declared.row.SparseRow.TheInside.{Inside}

abbrev pub row_of : Inside → List ℤ
row_of a = filled 0 a.width a.entries.items

-- there is room for all entries
pub record IsRow (a : Inside) : Type 0 where
  pub sparse : is_sparse 0 a.width a.entries.items ≡ true
  pub room : a.width ≤ vec_capacity a.entries
