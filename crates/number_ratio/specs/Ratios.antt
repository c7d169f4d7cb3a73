-- The ratio by which a way multiplies, as two whole numbers. One that is not prepared has 0 for both.
use Rattle.std.specs.Prelude.{ℕ}
use Rattle.number_ratio.specs.declared.ways.Way.{Way}
use Rattle.number_ratio.specs.declared.ways.Way.TheVariants.{Slow, Multiplied, Divided, Estimated}

abbrev pub factor_of : Way → ℕ
factor_of Slow = 0
factor_of (Multiplied x) = x.factor
factor_of (Divided x) = x.factor
factor_of (Estimated x) = x.factor

abbrev pub divisor_of : Way → ℕ
divisor_of Slow = 0
divisor_of (Multiplied x) = 1
divisor_of (Divided x) = x.divisor
divisor_of (Estimated x) = x.divisor
