-- What is asked after a round (own).
use Rattle.std.specs.Prelude.{Bool, ℤ, List, Result, Ok}
use Rattle.fix_core.specs.Passes.{and_then}
use Rattle.step_data.specs.declared.outcome.Cause.{Cause}
use Rattle.design_meaning.specs.Newton.{Problem, residuals_of, of_evaluation, within}

-- all residuals at a point are within the tolerance
abbrev pub is_solution : Problem → List ℤ → Result Bool Cause
is_solution p x = and_then (λ residuals. Ok (within p.tol residuals)) (of_evaluation (residuals_of p.rows (p.reads x)))
