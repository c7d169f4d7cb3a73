-- Laws of scaling and elimination.
use Rattle.std.specs.Prelude.{◌≡◌, ◌≤◌, ◌⊎◌, ℤ, pos, List, length, Ok}
use Rattle.std.specs.List.{All}
use Rattle.fix_core.specs.Units.{units_per_one}
use Rattle.fix_core.specs.Fixed.{IsInRange}
use Rattle.lin_solve.specs.Elimination.{largest, coefficients, scaled, minus_row}

-- the largest coefficient is at least 1, or all coefficients are 0
abbrev pub IsScaled : List ℤ → Type 0
IsScaled row = (largest (coefficients row) ≡ 0) ⊎ (units_per_one ≤ largest (coefficients row))

-- a row that was scaled twelve times at most needs no further time
abbrev pub TwelveTurnsAreEnough : Type 0
TwelveTurnsAreEnough = (row done : List ℤ) → scaled 12 row ≡ Ok done → IsScaled done

-- a row that loses the pivot row 0 times stays as it is
abbrev pub ZeroFactorKeepsTheRow : Type 0
ZeroFactorKeepsTheRow = (pivot row : List ℤ) → length pivot ≡ length row → All IsInRange row → minus_row (pos 0) pivot row ≡ Ok row
