-- What an elimination of the code keeps.
use Rattle.std.specs.Prelude.{◌≡◌, ◌<◌, ℕ, ℤ, true, List, length, get_or}
use Rattle.std.specs.List.{All}
use Rattle.kept_elimination.specs.Kept.{matrix_of}
use Rattle.kept_rows.specs.declared.elimination.Elimination.{Elimination}
use Rattle.kept_rows.specs.Whole.{IsKept}

abbrev pub IsSound : Elimination → Type 0
IsSound e = IsKept e.matrix.items e.rows.items e.turns.items e.columns.items e.spare e.is_kept

abbrev pub IsSoundFor : ℕ → Elimination → Type 0
IsSoundFor n e = IsSound e × (length e.matrix.items ≡ n)

-- there are some, and each is for so many rows
pub record AreSound (n : ℕ) (es : List Elimination) : Type 0 where
  pub some : 0 < length es
  pub each : All (IsSoundFor n) es

-- the elimination of the rows' coefficients is kept
abbrev pub IsKeptFor : List (List ℤ) → Elimination → Type 0
IsKeptFor rows e = (e.is_kept ≡ true) × (e.matrix.items ≡ matrix_of rows)

-- by the first one
abbrev pub IsReady : List (List ℤ) → List Elimination → Type 0
IsReady rows es = (e : Elimination) → IsKeptFor rows (get_or es 0 e)
