-- The fields of a note.
use Rattle.std.specs.Prelude.{ℕ, List, ◌++◌, flat_map, codes}

-- the fields, each behind a space
abbrev pub fields_text : List (List ℕ) → List ℕ
fields_text fields = flat_map (λ f. codes " " ++ f) fields
