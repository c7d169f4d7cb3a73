-- The table of names, as the list of its texts.
use Rattle.std.specs.Prelude.{ℕ, List, [], ◌∷◌, ◌++◌, codes, if◌then◌else◌}
use Rattle.std.specs.List.{list_any}
use Rattle.std.specs.Str.{bytes_eq}

-- the names that the grammar knows stand first
abbrev pub known_names : List (List ℕ)
known_names = codes "event" ∷ codes "dot" ∷ codes "above" ∷ codes "ramp" ∷ []

-- a text that is not in the table yet goes to its end
abbrev pub with_name : List (List ℕ) → List ℕ → List (List ℕ)
with_name names text = if list_any (bytes_eq text) names then names else names ++ text ∷ []
