-- Sets whose coefficients are the same at every point.
use Rattle.std.specs.Prelude.{◌≡◌, true, ℤ, List, length, Ok}
use Rattle.fix_core.specs.Passes.{and_then, each}
use Rattle.kept_rows.specs.declared.elimination.Elimination.{Elimination}
use Rattle.kept_rows.specs.Joined.{rows_with}
use Rattle.kept_rows.specs.Sound.{IsSound}
use Rattle.design_meaning.specs.Newton.{Problem, linear_row, residuals_of}

-- the linear system of each point has these coefficients, and the residuals beside them
abbrev pub HasMatrix : Problem → List (List ℤ) → Type 0
HasMatrix p m = (x : List ℤ) → each (linear_row p.unknowns (p.reads x)) p.rows ≡ and_then (λ zs. Ok (rows_with m zs)) (residuals_of p.rows (p.reads x))

-- the elimination of a set's coefficients is kept
pub record IsKeptFor (p : Problem) (e : Elimination) : Type 0 where
  pub sound : IsSound e
  pub kept : e.is_kept ≡ true
  pub size : length e.matrix.items ≡ length p.unknowns
  pub matrix : HasMatrix p e.matrix.items
