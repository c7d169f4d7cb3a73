-- The ranges of the types of values.
use Rattle.std.specs.Prelude.{ℕ}

-- INTEGER runs from the negative of this number to it
abbrev pub most_integer : ℕ
most_integer = 2147483647

-- the greatest length of a BIT_VECTOR
abbrev pub most_elements : ℕ
most_elements = 64

-- the greatest exponent
abbrev pub most_exponent : ℕ
most_exponent = 64
