-- What reading all tokens as one text of a rule answers.
use Rattle.std.specs.Prelude.{◌≡◌, ℕ, List, take, Result, Ok, Err}
use Rattle.ams_token.specs.declared.token.Token.{Token}
use Rattle.ams_tree.specs.Rule.{Rule}
use Rattle.ams_tree.specs.Answer.{Spells, SpellsWithin, BeginsWithin, Longest, IsTooDeep}
use Rattle.parse_steps.specs.declared.fault.ParseFault.{ParseFault}
use Rattle.parse_steps.specs.declared.fault.ParseFault.TheVariants.{Memory, Syntax, TooDeep}

module _ {A : Type 0} (rule : ℕ → ℕ → Rule A) (levels operators : ℕ) where
  -- no tree spells the tokens, so many of them begin a text within the limits, and no longer front of them begins one
  pub record IsRefused (tokens : List Token) (len : ℕ) : Type 0 where
    pub longest : Longest rule tokens len
    pub within : BeginsWithin rule levels operators (take len tokens)
    pub unspelled : (tree : A) → Spells rule tree tokens → ⊥

  -- a tree that spells all of them within the limits, the first place where no text goes on, or that of the first token
  -- past a limit
  abbrev pub AnswersWhole : List Token → Result A ParseFault → Type 0
  AnswersWhole tokens (Ok tree) = SpellsWithin rule levels operators tree tokens
  AnswersWhole tokens (Err Memory) = Unit {0}
  AnswersWhole tokens (Err (Syntax place)) = IsRefused tokens place
  AnswersWhole tokens (Err (TooDeep place)) = IsTooDeep rule levels operators tokens place

-- this tree, unless memory ran out
abbrev pub IsWhole : {A : Type 0} → A → Result A ParseFault → Type 0
IsWhole tree (Ok found) = found ≡ tree
IsWhole tree (Err Memory) = Unit {0}
IsWhole tree (Err (Syntax place)) = ⊥
IsWhole tree (Err (TooDeep place)) = ⊥
