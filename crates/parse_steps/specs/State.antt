use Rattle.std.specs.Prelude.{ℕ, List}
use Rattle.ams_token.specs.declared.token.Token.{Token}

-- the tokens that are left, and how many operators may still come
pub record State : Type 0 where
  pub rest : List Token
  pub operators : ℕ
