-- The processes that are called in a cycle.
use Rattle.std.specs.Prelude.{◌≡◌, ◌<◌, ℕ, Bool, true, false, List, slice_index_or}
use Rattle.std.specs.List.{All, Contains}
use Rattle.std.specs.List.Sorted.{IsStrictlyIncreasing}

-- some of so many processes are called, in order, each once; the others aren't marked
pub record MarksAreCalled (count : ℕ) (called : List ℕ) (marks : List Bool) : Type 0 where
  pub rises : IsStrictlyIncreasing called
  pub within : All (λ (k : ℕ). k < count) called
  pub marked : (k : ℕ) → slice_index_or marks k false ≡ true → Contains called k
