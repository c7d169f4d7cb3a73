-- The system that `Rows` holds.
use Rattle.std.specs.Prelude.{◌≡◌, ◌+◌, ◌<◌, ℤ, List, length}
use Rattle.std.specs.List.{All}
use Rattle.lin_solve.specs.Entries.{items_of, IsRow}
use Rattle.lin_solve.specs.declared.Rows.TheInside.{Inside}

abbrev pub rows_of : Inside → List (List ℤ)
rows_of a = items_of a.rows.items

-- each row has a coefficient for each row and a right side, and there is room for the unknowns
pub record IsSystem (a : Inside) : Type 0 where
  pub rows : All (IsRow (length (rows_of a) + 1)) (rows_of a)
  pub small : length (rows_of a) + 1 < 4294967296
  pub room : length a.unknowns.items ≡ length (rows_of a)
