-- The numbers of drivers.
use Rattle.std.specs.Prelude.{◌≡◌, ◌<◌, ℕ, nat_eq, List, length, slice_index}
use Rattle.std.specs.List.{All}
use Rattle.flat_design.specs.Lists.{number_in}

-- the number of a signal's driver: its place among the driven signals, or how many there are
abbrev pub number_of : List ℕ → ℕ → ℕ
number_of driven i = number_in (nat_eq i) driven

-- each driven signal is one of those that are numbered, and each has the number of its driver
pub record AreNumbered (driven numbers : List ℕ) : Type 0 where
  pub within : All (λ (i : ℕ). i < length numbers) driven
  pub are : (i : ℕ) → i < length numbers → slice_index numbers i ≡ number_of driven i
