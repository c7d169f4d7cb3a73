-- What the code tells beside the rows that it writes.
use Rattle.std.specs.Prelude.{ℕ, ℤ, unsigned_abs, nat_eq, if◌then◌else◌, List, [], ◌∷◌, Result, Ok, Err}
use Rattle.std.specs.List.{swap}
use Rattle.fix_core.specs.declared.NumFault.{NumFault}
use Rattle.fix_core.specs.Passes.{and_then, each}
use Rattle.lin_solve.specs.declared.LinFault.{LinFault}
use Rattle.lin_solve.specs.declared.LinFault.TheVariants.{Singular}
use Rattle.lin_solve.specs.Elimination.{coefficient, pivot_place, or_overflow}
use Rattle.kept_elimination.specs.Kept.{Scaling, Reduction, reduction, factors_of, rows_of, Column}

-- two lists, place by place
unfoldable pub zipped : {T B : Type 0} → (T → List ℤ → B) → List T → List (List ℤ) → List B
zipped make [] rows = []
zipped make (t ∷ ts) [] = []
zipped make (t ∷ ts) (row ∷ rows) = make t row ∷ zipped make ts rows

-- how often a row was taken times ten, and the row
abbrev pub scaling_by : ℕ → List ℤ → Scaling
scaling_by turns row = record { turns = turns; row = row }

abbrev pub scaling_told : Result ℕ NumFault → List ℤ → Result Scaling NumFault
scaling_told told row = and_then (λ turns. Ok (scaling_by turns row)) told

abbrev pub scalings : List ℕ → List (List ℤ) → List Scaling
scalings turns rows = zipped scaling_by turns rows

-- how often a row lost the pivot row, and the row
abbrev pub reduction_by : ℤ → List ℤ → Reduction
reduction_by factor row = record { factor = factor; row = row }

abbrev pub reduction_told : Result ℤ NumFault → List ℤ → Result Reduction NumFault
reduction_told told row = and_then (λ factor. Ok (reduction_by factor row)) told

abbrev pub reductions : List ℤ → List (List ℤ) → List Reduction
reductions factors rows = zipped reduction_by factors rows

-- one column, and the rows below its pivot row without it
pub record Step : Type 0 where
  pub column : Column
  pub rows : List (List ℤ)

abbrev pub step_of : ℕ → ℕ → List (List ℤ) → Result Step LinFault
step_of column place [] = Ok (record { column = record { place = place; pivot = []; factors = [] }; rows = [] })
step_of column place (pivot ∷ rows) =
    if nat_eq (unsigned_abs (coefficient column pivot)) 0 then Err (Singular column) else
    and_then {B = Step} (λ done. Ok (record { column = record { place = place; pivot = pivot; factors = factors_of done }; rows = rows_of done })) (or_overflow (each (reduction column pivot) rows))

abbrev pub first_step : ℕ → List (List ℤ) → Result Step LinFault
first_step column rows = step_of column (pivot_place column rows) (swap rows 0 (pivot_place column rows))
