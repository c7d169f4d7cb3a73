-- The times of sources, and pairs of a time and a source.
use Rattle.std.specs.Prelude.{◌≤◌, ℕ, Bool, false, nat_eq, ◌&&◌, List, Option, Some, None, IfSome, slice_index_or}
use Rattle.std.specs.List.{All, Contains}
use Rattle.std.specs.Ordering.{nat_cmp, ordering_then}
use Rattle.std.specs.declared.cmp.Ordering.{Ordering}

-- pairs of a time and a source, by their times, and those of one time by their sources
abbrev pub pair_cmp : ℕ × ℕ → ℕ × ℕ → Ordering
pair_cmp a b = ordering_then (nat_cmp a.0 b.0) (nat_cmp a.1 b.1)

-- whether an optional time is t
abbrev pub is_time : Option ℕ → ℕ → Bool
is_time None t = false
is_time (Some u) t = nat_eq u t

-- whether t and s are the time and the number of a source
abbrev pub is_key : Option ℕ → ℕ → ℕ → ℕ → Bool
is_key time source t s = is_time time t && nat_eq source s

-- whether t is the time of source s
abbrev pub stands : List (Option ℕ) → ℕ → ℕ → Bool
stands times t s = is_time (slice_index_or times s None) t

-- t is some source's time, and no source's time is less
pub record IsLeast (t : ℕ) (times : List (Option ℕ)) : Type 0 where
  pub pending : Contains times (Some t)
  pub least : All (λ time. IfSome time (λ u. t ≤ u)) times
