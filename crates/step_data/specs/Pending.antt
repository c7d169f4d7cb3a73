-- What becomes of pending transactions at a time (IEEE 1076, drivers).
use Rattle.std.specs.Prelude.{ℕ, Bool, nat_eq, nat_lt, List, filter, find, Option}
use Rattle.step_data.specs.declared.trans.Trans.{Trans}

abbrev pub is_at : ℕ → Trans → Bool
is_at t x = nat_eq x.at t

abbrev pub is_after : ℕ → Trans → Bool
is_after t x = nat_lt t x.at

-- the transaction that stands at the time: its value is the driving value from then on
abbrev pub due : ℕ → List Trans → Option Trans
due t pending = find (is_at t) pending

-- those that are pending still
abbrev pub advanced : ℕ → List Trans → List Trans
advanced t pending = filter (is_after t) pending
