-- What a point's slice is lent for.
use Rattle.std.specs.Prelude.{◌++◌, ℤ, List, length, take, drop}
use Rattle.std.specs.Borrow.{Lends, MutBor, Fml, Array}
use Rattle.fix_core.specs.contracts.Fix.{the_row as fix_row}
use Rattle.ams_point.specs.contracts.Point.{the_row}

-- a list after another is written over it, place by place
abbrev pub overwritten : List ℤ → List ℤ → List ℤ
overwritten old new = take (length old) (new ++ drop (length new) old)

-- the point ends with the last values of the slice
abbrev pub LendsValues : MutBor (List ℤ) → MutBor (List ℤ) → Fml
LendsValues point slice = Lends the_row (Array fix_row 0) point slice (overwritten point.now)
