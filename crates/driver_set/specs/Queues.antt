-- The pending transactions of drivers by their numbers.
use Rattle.std.specs.Prelude.{ℕ, ◌≤◌, Bool, List, map, Option}
use Rattle.std.specs.List.{All}
use Rattle.step_data.specs.declared.trans.Trans.{Trans}
use Rattle.waveform.specs.Projected.{IsRising}
use Rattle.waveform.specs.Waveform.{Waveform}
use Rattle.agenda.specs.Times.{is_time}
use Rattle.cycle_meaning.specs.Cycles.{first_time}

abbrev pub queues_of : List Waveform → List (List Trans)
queues_of drivers = map (λ (d : Waveform). d.pending) drivers

-- the time of the first transaction of each
abbrev pub times_of : List (List Trans) → List (Option ℕ)
times_of queues = map first_time queues

-- the first transaction of a queue stands at a time
abbrev pub stands_first : ℕ → List Trans → Bool
stands_first t queue = is_time (first_time queue) t

-- no transaction stands before a time
abbrev pub AreLate : ℕ → List (List Trans) → Type 0
AreLate t queues = All (λ (queue : List Trans). All (λ (x : Trans). t ≤ x.at) queue) queues

-- the times of each rise
abbrev pub AreRising : List (List Trans) → Type 0
AreRising queues = All (λ (queue : List Trans). IsRising queue) queues
