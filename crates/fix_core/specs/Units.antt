-- The numbers that fixed-point numbers and times are made of.
use Rattle.std.specs.Prelude.{ℕ, ℤ, pos, ◌+◌, ◌*◌, ◌/◌}

-- decimals of a number
abbrev pub decimals : ℕ
decimals = 12

-- the units of 1.0, a power of ten with as many zeros as a number has decimals
abbrev pub units_per_one : ℕ
units_per_one = 1000000000000

-- 1.0
abbrev pub one : ℤ
one = pos units_per_one

-- the greatest magnitude of a number, in units
abbrev pub most_units : ℕ
most_units = 1000000000000000000000000

-- the least product of two magnitudes whose rounded quotient by `units_per_one` is above the greatest
abbrev pub product_end : ℕ
product_end = most_units * units_per_one + units_per_one / 2

-- the greatest time, in ticks
abbrev pub most_ticks : ℕ
most_ticks = 1000000000000000000
