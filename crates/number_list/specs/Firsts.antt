-- The first places of numbers in a list, kept for each number that stands in it.
use Rattle.std.specs.Prelude.{◌≡◌, ℕ, nat_eq, List, length, slice_get, position, Option, Some, None}

-- what is kept for the number that is the so-and-so-manyth of those that differ
abbrev pub kept_at : List ℕ → Option ℕ → Option ℕ
kept_at firsts (Some i) = slice_get firsts i
kept_at firsts None = None

pub record AreFirsts (all keys firsts : List ℕ) : Type 0 where
  pub lengths : length firsts ≡ length keys
  pub places : (x : ℕ) → position (nat_eq x) all ≡ kept_at firsts (position (nat_eq x) keys)
