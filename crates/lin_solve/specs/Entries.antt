-- Rows as the code has them.
use Rattle.std.specs.Prelude.{◌≡◌, ℕ, ℤ, List, length, map}
use Rattle.std.specs.List.{All}
use Rattle.std.specs.Global.{Vec}
use Rattle.fix_core.specs.Fixed.{IsInRange}

-- rows as lists
abbrev pub items_of : List (Vec ℤ) → List (List ℤ)
items_of rows = map (λ row. row.items) rows

-- a row of so many entries, each of them a number
pub record IsRow (width : ℕ) (row : List ℤ) : Type 0 where
  pub long : length row ≡ width
  pub within : All IsInRange row
