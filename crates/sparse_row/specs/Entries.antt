-- Rows that are kept by their entries other than 0.
use Rattle.std.specs.Prelude.{ℕ, zero, suc, nat_eq, nat_lt, nat_le, Bool, true, false, ◌&&◌, ℤ, pos, unsigned_abs, if◌then◌else◌, List, [], ◌∷◌}
use Rattle.fix_core.specs.Units.{most_units}
use Rattle.sparse_row.specs.declared.entry.Entry.{Entry}

-- so many entries of a row from a column on, with the zeros filled in
unfoldable pub filled : ℕ → ℕ → List Entry → List ℤ
filled column zero entries = []
filled column (suc n) [] = pos 0 ∷ filled (suc column) n []
filled column (suc n) (e ∷ more) = if nat_eq e.column column then e.value ∷ filled (suc column) n more else pos 0 ∷ filled (suc column) n (e ∷ more)

-- a number other than 0
unfoldable pub is_number : ℤ → Bool
is_number v = nat_lt 0 (unsigned_abs v) && nat_le (unsigned_abs v) most_units

-- the columns rise, from this one on and below the width, and each value is a number other than 0
unfoldable pub is_sparse : ℕ → ℕ → List Entry → Bool
is_sparse column width [] = true
is_sparse column width (e ∷ more) = (nat_le column e.column && nat_lt e.column width) && (is_number e.value && is_sparse (suc e.column) width more)

-- the value in a column
unfoldable pub value_in : ℕ → List Entry → ℤ
value_in column [] = pos 0
value_in column (e ∷ more) = if nat_eq e.column column then e.value else value_in column more

-- how many entries stand before a column
unfoldable pub place_in : ℕ → List Entry → ℕ
place_in column [] = 0
place_in column (e ∷ more) = if nat_lt e.column column then suc (place_in column more) else 0

-- there is an entry in a column
unfoldable pub has_in : ℕ → List Entry → Bool
has_in column [] = false
has_in column (e ∷ more) = if nat_lt e.column column then has_in column more else nat_eq e.column column

-- an entry before others, where it isn't 0
unfoldable pub before : ℕ → ℤ → List Entry → List Entry
before column v more = if nat_eq (unsigned_abs v) 0 then more else record { column = column; value = v } ∷ more

-- the entries with this one in its place
unfoldable pub with_entry : ℕ → ℤ → List Entry → List Entry
with_entry column v [] = before column v []
with_entry column v (e ∷ more) = if nat_lt e.column column then e ∷ with_entry column v more else before column v (if nat_eq e.column column then more else e ∷ more)
