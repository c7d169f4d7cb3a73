-- What reading a text of a rule from tokens answers.
use Rattle.std.specs.Prelude.{◌≤◌, ◌<◌, ℕ, suc, List, length, take}
use Rattle.ams_token.specs.declared.token.Token.{Token}
use Rattle.ams_tree.specs.Rule.{Rule}

-- The rule for each limit of the operators, calls and attributes of an outermost expression, and for each number of levels
-- that may be open. The count is that of the operators outside of expressions, where there are any.
module _ {A : Type 0} (rule : ℕ → ℕ → Rule A) where
  -- the tokens are this tree, under some limits
  abbrev pub Spells : A → List Token → Type 0
  Spells x ts = (operators levels count : ℕ) × (rule operators levels).spells x ts count

  -- the tokens begin a text of the rule
  abbrev pub Begins : List Token → Type 0
  Begins ts = (operators levels count : ℕ) × (rule operators levels).begins ts count

  -- the same under these limits
  abbrev pub SpellsWithin : ℕ → ℕ → A → List Token → Type 0
  SpellsWithin levels operators x ts = (count : ℕ) × (count ≤ operators) × (rule operators levels).spells x ts count

  abbrev pub BeginsWithin : ℕ → ℕ → List Token → Type 0
  BeginsWithin levels operators ts = (count : ℕ) × (count ≤ operators) × (rule operators levels).begins ts count

  -- so many of the tokens begin a text, and no longer front of them does
  pub record Longest (tokens : List Token) (len : ℕ) : Type 0 where
    pub fits : len ≤ length tokens
    pub begins : Begins (take len tokens)
    pub ends : (more : ℕ) → len < more → more ≤ length tokens → Begins (take more tokens) → ⊥

  -- they are this tree, within the limits
  pub record IsRead (levels operators : ℕ) (tokens : List Token) (tree : A) (len : ℕ) : Type 0 where
    pub longest : Longest tokens len
    pub spells : SpellsWithin levels operators tree (take len tokens)

  -- the next token, or the end, goes on with no text, what stands before it is none, and no limit is passed before it
  pub record IsSyntax (levels operators : ℕ) (tokens : List Token) (len : ℕ) : Type 0 where
    pub longest : Longest tokens len
    pub within : BeginsWithin levels operators (take len tokens)
    pub unfinished : (tree : A) → Spells tree (take len tokens) → ⊥

  -- the next token goes on with a text, but it is the first one past the limits
  pub record IsTooDeep (levels operators : ℕ) (tokens : List Token) (len : ℕ) : Type 0 where
    pub fits : len < length tokens
    pub within : BeginsWithin levels operators (take len tokens)
    pub begins : Begins (take (suc len) tokens)
    pub beyond : BeginsWithin levels operators (take (suc len) tokens) → ⊥
