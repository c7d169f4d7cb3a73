-- The system that `SparseRows` holds.
use Rattle.std.specs.Prelude.{◌≡◌, ◌+◌, ◌<◌, ℤ, List, length}
use Rattle.std.specs.List.{All}
use Rattle.sparse_rows.specs.declared.rows.SparseRows.TheInside.{Inside}

abbrev pub rows_of : Inside → List (List ℤ)
rows_of a = a.rows.items

-- each row has a coefficient for each row and a right side, and there is room for the unknowns and for one more row
pub record IsSystem (a : Inside) : Type 0 where
  pub rows : All (λ row. length row ≡ length (rows_of a) + 1) (rows_of a)
  pub small : length (rows_of a) + 1 < 4294967296
  pub unknowns : length a.unknowns.items ≡ length (rows_of a)
  pub spare : length a.spare ≡ length (rows_of a) + 1
