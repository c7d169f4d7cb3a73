-- What is kept.
use Rattle.std.specs.Prelude.{◌≡◌, ◌<◌, ◌^◌, ℕ, ℤ, Bool, true, List, length}
use Rattle.std.specs.List.{All}
use Rattle.kept_elimination.specs.Kept.{Kept}
use Rattle.kept_elimination.specs.Shape.{IsElimination}
use Rattle.kept_rows.specs.declared.column.Column.{Column as Held}
use Rattle.kept_rows.specs.Held.{kept_columns, HasRoom, Divides}

abbrev pub kept_of : List ℕ → List Held → Kept
kept_of turns columns = record { turns = turns; columns = kept_columns columns }

-- there is room for a square matrix, and what is kept is its elimination
pub record IsKept (matrix rows : List (List ℤ)) (turns : List ℕ) (columns : List Held) (spare : List ℤ) (is_kept : Bool) : Type 0 where
  pub small : length matrix < 2 ^ 32
  pub square : All (λ row. length row ≡ length matrix) matrix
  pub row_count : length rows ≡ length matrix
  pub widths : All (λ row. length row ≡ length matrix) rows
  pub turn_count : length turns ≡ length matrix
  pub column_count : length columns ≡ length matrix
  pub room : HasRoom (length matrix) columns
  pub spare_width : length spare ≡ length matrix
  pub gives : is_kept ≡ true → IsElimination matrix turns (kept_columns columns)
  pub divides : is_kept ≡ true → Divides 0 columns
