-- Lines that are written one behind the other.
use Rattle.std.specs.Prelude.{ℕ, ◌≡◌, List, ◌++◌, Option, take, flat_map}
use Rattle.std.proofs.lemmas.Grind.{flat_map-append}
use Rattle.port_base.specs.Told.{with_more}

-- lines, one behind the other
abbrev pub text_of_lines : List (List ℕ) → List ℕ
text_of_lines lines = flat_map (λ line. line) lines

-- what was held has gained whole lines, the first ones of these
abbrev pub GainsLines : Option (List ℕ) → Option (List ℕ) → List (List ℕ) → Type 0
GainsLines before now lines = (n : ℕ) × (now ≡ with_more before (text_of_lines (take n lines)))

-- what was held has gained a front of this text
abbrev pub GainsFront : Option (List ℕ) → Option (List ℕ) → List ℕ → Type 0
GainsFront before now text = (n : ℕ) × (now ≡ with_more before (take n text))

-- the text of lines behind lines
abbrev pub LinesJoin : Type 0
LinesJoin = (a b : List (List ℕ)) → text_of_lines (a ++ b) ≡ text_of_lines a ++ text_of_lines b

pub text_append : (a b : List (List ℕ)) → text_of_lines (a ++ b) ≡ text_of_lines a ++ text_of_lines b
text_append a b = flat_map-append (λ line. line) a b

pub ruleset line_rules = (text_append)
