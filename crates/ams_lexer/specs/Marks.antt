-- Delimiters (IEEE 1076, "Delimiters"): the longest one that stands at the front.
use Rattle.std.specs.Prelude.{◌≡◌, ℕ, ◌≤◌, ◌&&◌, ◌==◌, List, [], ◌∷◌, ◌++◌, length, Option, Some, None, if◌then◌else◌}
use Rattle.ams_token.specs.declared.mark.Mark.{Mark}
use Rattle.ams_token.specs.declared.mark.Mark.TheVariants as m
use Rattle.ams_token.specs.Spelling.{mark_text}

-- The bytes w, before these other bytes, are this mark, and no longer mark begins there.
pub record IsMark (mark : Mark) (w rest : List ℕ) : Type 0 where
  pub text : w ≡ mark_text mark
  pub longest : (other : Mark) (after : List ℕ) → w ++ rest ≡ mark_text other ++ after → length (mark_text other) ≤ length w

-- ---- reading from the left

-- the mark of two characters
abbrev pub pair_mark : ℕ → ℕ → Option Mark
pair_mark b c =
    if b == 61 && c == 62 then Some m.Arrow
    else if b == 42 && c == 42 then Some m.DoubleStar
    else if b == 58 && c == 61 then Some m.Assign
    else if b == 47 && c == 61 then Some m.NotEqual
    else if b == 62 && c == 61 then Some m.GreaterEqual
    else if b == 60 && c == 61 then Some m.LessEqual
    else if b == 60 && c == 62 then Some m.Box
    else if b == 61 && c == 61 then Some m.DoubleEqual
    else None

abbrev pub single_mark : ℕ → Option Mark
single_mark b =
    if b == 38 then Some m.Ampersand
    else if b == 39 then Some m.Tick
    else if b == 40 then Some m.LeftParen
    else if b == 41 then Some m.RightParen
    else if b == 42 then Some m.Star
    else if b == 43 then Some m.Plus
    else if b == 44 then Some m.Comma
    else if b == 45 then Some m.Minus
    else if b == 46 then Some m.Point
    else if b == 47 then Some m.Slash
    else if b == 58 then Some m.Colon
    else if b == 59 then Some m.Semicolon
    else if b == 60 then Some m.Less
    else if b == 61 then Some m.Equal
    else if b == 62 then Some m.Greater
    else if b == 124 then Some m.Bar
    else None

abbrev pub of_length : ℕ → Option Mark → Option (Mark × ℕ)
of_length n None = None
of_length n (Some mark) = Some (mark, n)

abbrev pub or_else : {A : Type 0} → Option A → Option A → Option A
or_else None other = other
or_else (Some x) other = Some x

-- the mark at the front, and how many bytes it takes
unfoldable pub mark_at : List ℕ → Option (Mark × ℕ)
mark_at [] = None
mark_at (b ∷ []) = of_length 1 (single_mark b)
mark_at (b ∷ c ∷ bs) = or_else (of_length 2 (pair_mark b c)) (of_length 1 (single_mark b))
