-- What is added to an output.
use Rattle.std.specs.Prelude.{◌≡◌, ℕ, List, ◌++◌, length, drop, flat_map, codes}

-- the fields, each behind a space
abbrev pub fields_text : List (List ℕ) → List ℕ
fields_text fields = flat_map (λ f. codes " " ++ f) fields

-- what stood there before still stands at the front
abbrev pub IsFront : List ℕ → List ℕ → Type 0
IsFront before now = now ≡ before ++ drop (length before) now
