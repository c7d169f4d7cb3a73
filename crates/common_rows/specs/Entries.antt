-- The entries of a row that aren't 0.
use Rattle.std.specs.Prelude.{ℕ, ◌+◌, nat_eq, ℤ, unsigned_abs, if◌then◌else◌, List, [], ◌∷◌, ◌++◌, slice_set}
use Rattle.flat_expr.specs.declared.expr.Unknown.{Unknown}
use Rattle.common_rows.specs.declared.entries.Entry.{Entry}

abbrev pub kept : ℕ → ℤ → List Entry
kept place z = if nat_eq (unsigned_abs z) 0 then [] else record { place = place; slope = z } ∷ []

-- the slopes by unknowns, of which the first has this place
unfoldable pub entries_from : (Unknown → ℤ) → ℕ → List Unknown → List Entry
entries_from slope place [] = []
entries_from slope place (u ∷ more) = kept place (slope u) ++ entries_from slope (place + 1) more

-- a row in which they are written
unfoldable pub with_entries : List Entry → List ℤ → List ℤ
with_entries [] row = row
with_entries (e ∷ more) row = with_entries more (slice_set row e.place e.slope)
