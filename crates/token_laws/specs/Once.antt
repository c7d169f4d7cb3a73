-- A text has one list of tokens or one first fault.
use Rattle.std.specs.Prelude.{◌≡◌, ◌≢◌, ℕ, List}
use Rattle.ams_token.specs.declared.tokens.Tokens.{Tokens}
use Rattle.ams_lexer.specs.declared.fault.LexFault.{LexFault}
use Rattle.ams_lexer.specs.declared.fault.LexFault.TheVariants.{Memory}
use Rattle.ams_lexer.specs.Texts.{HasTokens, IsFaultOf}

-- the same tokens with the same table of names and the same end of the text
pub record SameTokens (a b : Tokens) : Type 0 where
  pub list : a.list.items ≡ b.list.items
  pub names : a.names ≡ b.names
  pub end : a.end ≡ b.end

pub record LexesOnce : Type 0 where
  pub tokens : (text : List ℕ) (a b : Tokens) → HasTokens text a → HasTokens text b → SameTokens a b
  pub fault : (text : List ℕ) (f g : LexFault) → f ≢ Memory → g ≢ Memory → IsFaultOf text f → IsFaultOf text g → f ≡ g
  pub either : (text : List ℕ) (a : Tokens) (f : LexFault) → f ≢ Memory → HasTokens text a → IsFaultOf text f → ⊥
