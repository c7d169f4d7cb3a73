-- The least of optional times.
use Rattle.std.specs.Prelude.{ℕ, min, List, [], ◌∷◌, Option, Some, None}

-- of two; none where there is neither
abbrev pub earliest : Option ℕ → Option ℕ → Option ℕ
earliest None b = b
earliest (Some a) None = Some a
earliest (Some a) (Some b) = Some (min a b)

abbrev pub earliest_of : List (Option ℕ) → Option ℕ
earliest_of [] = None
earliest_of (a ∷ more) = earliest a (earliest_of more)
