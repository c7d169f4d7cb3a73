-- What is read of entries that rise.
use Rattle.std.specs.Prelude.{ℕ, nat_eq, ℤ, pos, if◌then◌else◌, List, [], ◌∷◌}
use Rattle.sparse_row.specs.declared.entry.Entry.{Entry}

-- the column of the first entry, or the width where there is none
unfoldable pub first_column : ℕ → List Entry → ℕ
first_column width [] = width
first_column width (e ∷ more) = e.column

-- the value in a column that is the first one or lies before it
unfoldable pub head_value : ℕ → List Entry → ℤ
head_value column [] = pos 0
head_value column (e ∷ more) = if nat_eq e.column column then e.value else pos 0

-- the entries behind that column
unfoldable pub behind : ℕ → List Entry → List Entry
behind column [] = []
behind column (e ∷ more) = if nat_eq e.column column then more else e ∷ more
