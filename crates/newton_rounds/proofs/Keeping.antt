-- A round by kept coefficients.
use Rattle.std.proofs.Common.{◌≡◌, ℤ, List, Result, Ok, Err, ap, ◌∙◌}
use Rattle.fix_core.specs.Passes.{and_then, answer}
use Rattle.design_meaning.specs.declared.fault.EvalFault.{EvalFault}
use Rattle.design_meaning.specs.Newton.{Problem, residuals_of}
use Rattle.kept_rows.specs.Joined.{rows_with}
use Rattle.newton_rounds.specs.Kept.{HasMatrix}
use Rattle.newton_rounds.proofs.Rounding.{system_at}

-- the linear system, by the residuals that were told
pub system_told : (p : Problem) (m : List (List ℤ)) (x zs : List ℤ) (r : Result (Unit {0}) EvalFault) → HasMatrix p m → residuals_of p.rows (p.reads x) ≡ answer r zs → system_at p x ≡ answer r (rows_with m zs)
system_told p m x zs (Ok u) has e = has x ∙ ap (λ (q : Result (List ℤ) EvalFault). and_then (λ ys. Ok (rows_with m ys)) q) e
system_told p m x zs (Err f) has e = has x ∙ ap (λ (q : Result (List ℤ) EvalFault). and_then (λ ys. Ok (rows_with m ys)) q) e
