-- The room of Newton's method.
use Rattle.std.specs.Prelude.{◌≡◌, ℕ, ℤ, List, length}

-- the elimination, the corrections and the residuals are those of so many unknowns
pub record HasRoom (n elimination : ℕ) (corrections residuals : List ℤ) : Type 0 where
  pub elimination_size : elimination ≡ n
  pub correction_count : length corrections ≡ n
  pub residual_count : length residuals ≡ n
