-- Newton's method on an equation set (own).
use Rattle.std.specs.Prelude.{ℕ, zero, suc, Bool, true, false, nat_le, ℤ, unsigned_abs, List, [], ◌∷◌, ◌++◌, Result, Ok, Err}
use Rattle.std.specs.List.{list_all}
use Rattle.message_codes.specs.Codes.{singular, solver_overflow, no_convergence}
use Rattle.fix_core.specs.declared.NumFault.{NumFault}
use Rattle.fix_core.specs.Passes.{and_then, each, ◌>>=◌}
use Rattle.fix_core.specs.Fixed.{difference_of}
use Rattle.flat_expr.specs.declared.expr.Unknown.{Unknown}
use Rattle.lin_solve.specs.declared.LinFault.{LinFault}
use Rattle.lin_solve.specs.declared.LinFault.TheVariants.{Singular, Overflow}
use Rattle.lin_solve.specs.Elimination.{solution_of}
use Rattle.step_data.specs.declared.outcome.Cause.{Cause}
use Rattle.design_meaning.specs.declared.fault.EvalFault.{EvalFault}
use Rattle.design_meaning.specs.Faults.{code_of}
use Rattle.design_meaning.specs.Readings.{Readings}
use Rattle.design_meaning.specs.Equations.{Row, residual_of, row_slope}

-- ---- causes

abbrev pub cause : ℕ → Cause
cause code = record { code = code; column = 0 }

abbrev pub of_evaluation : {A : Type 0} → Result A EvalFault → Result A Cause
of_evaluation (Ok a) = Ok a
of_evaluation (Err e) = Err (cause (code_of e))

abbrev pub of_solution : {A : Type 0} → Result A LinFault → Result A Cause
of_solution (Ok a) = Ok a
of_solution (Err (Singular column)) = Err (record { code = singular; column = column })
of_solution (Err Overflow) = Err (cause solver_overflow)

-- the correction is subtracted within the same cause as an overflow of elimination
abbrev pub of_correction : {A : Type 0} → Result A NumFault → Result A Cause
of_correction (Ok a) = Ok a
of_correction (Err e) = Err (cause solver_overflow)

-- ---- a round

-- the row of the linear system: the slopes by the unknowns in order, and the residual, which is evaluated first
abbrev pub linear_row : List Unknown → Readings → Row → Result (List ℤ) EvalFault
linear_row unknowns r row = do
  residual ← residual_of row r
  slopes ← each (row_slope row r) unknowns
  Ok (slopes ++ residual ∷ [])

-- the residuals of all rows in order
abbrev pub residuals_of : List Row → Readings → Result (List ℤ) EvalFault
residuals_of rows r = each (λ row. residual_of row r) rows

-- a point less its corrections
unfoldable pub corrected : List ℤ → List ℤ → Result (List ℤ) NumFault
corrected [] ds = Ok []
corrected (x ∷ xs) [] = Ok []
corrected (x ∷ xs) (d ∷ ds) = and_then (λ y. and_then (λ ys. Ok (y ∷ ys)) (corrected xs ds)) (difference_of x d)

abbrev pub within : ℕ → List ℤ → Bool
within tol residuals = list_all (λ z. nat_le (unsigned_abs z) tol) residuals

-- a set at a time: its rows, the unknowns, what is read at a point, and the greatest residual in units
pub record Problem : Type 0 where
  pub rows : List Row
  pub unknowns : List Unknown
  pub reads : List ℤ → Readings
  pub tol : ℕ

-- the point after a round: residuals and slopes row by row, elimination, and the correction
unfoldable pub round : Problem → List ℤ → Result (List ℤ) Cause
round p x =
    and_then (λ rows. and_then (λ ds. of_correction (corrected x ds)) (of_solution (solution_of rows)))
    (of_evaluation (each (linear_row p.unknowns (p.reads x)) p.rows))

-- the point where its residuals are within the tolerance, or what comes next
abbrev pub judged : Bool → (List ℤ → Result (List ℤ) Cause) → List ℤ → Result (List ℤ) Cause
judged true next x = Ok x
judged false next x = next x

-- so many rounds at most, at least one, from a point. After a round all residuals are evaluated before they are judged
unfoldable pub newton : ℕ → Problem → List ℤ → Result (List ℤ) Cause
newton zero p x = Err (cause no_convergence)
newton (suc n) p x =
    and_then (λ y. and_then (λ residuals. judged (within p.tol residuals) (newton n p) y) (of_evaluation (residuals_of p.rows (p.reads y))))
    (round p x)
