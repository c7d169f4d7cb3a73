-- When a threshold is true (IEEE 1076.1, attribute 'ABOVE).
use Rattle.std.specs.Prelude.{ℕ, Bool, ℤ, pos, int_lt, List, slice_index_or}

-- the unknown of a point is above a level
abbrev pub is_above : List ℤ → ℕ → ℤ → Bool
is_above x unknown level = int_lt level (slice_index_or x unknown (pos 0))
