-- The columns as the code has them.
use Rattle.std.specs.Prelude.{◌≡◌, ◌+◌, ℕ, List, [], ◌∷◌, length, map}
use Rattle.lin_solve.specs.Elimination.{coefficient}
use Rattle.number_ratio.specs.Kept.{Divisor}
use Rattle.kept_elimination.specs.Kept.{Column}
use Rattle.kept_rows.specs.declared.column.Column.{Column as Held}

abbrev pub column_of : Held → Column
column_of h = record { place = h.place; pivot = h.pivot; factors = h.factors }

abbrev pub kept_columns : List Held → List Column
kept_columns hs = map column_of hs

-- each has a pivot row so wide, and a factor for each row below
abbrev pub HasRoom : ℕ → List Held → Type 0
HasRoom width [] = Unit {0}
HasRoom width (h ∷ hs) = (length h.pivot ≡ width) × (length h.factors ≡ length hs) × HasRoom width hs

-- each divides by its pivot, the first one's being in this column
abbrev pub Divides : ℕ → List Held → Type 0
Divides at [] = Unit {0}
Divides at (h ∷ hs) = (h.quotient ≡ Divisor (coefficient at h.pivot)) × Divides (at + 1) hs
