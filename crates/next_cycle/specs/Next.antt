-- The time of the next cycle.
use Rattle.std.specs.Prelude.{◌≤◌, ℕ, List, map, Option, IfSome}
use Rattle.std.specs.List.{All}
use Rattle.step_model.specs.System.{ProcessState, Digital}
use Rattle.driver_set.specs.Queues.{times_of}
use Rattle.cycle_meaning.specs.Cycles.{next_time}

abbrev pub timeouts_of : List ProcessState → List (Option ℕ)
timeouts_of processes = map (λ (s : ProcessState). s.timeout) processes

-- none of them is earlier
abbrev pub NoneIsEarlier : ℕ → List (Option ℕ) → Type 0
NoneIsEarlier t times = All (λ time. IfSome time (λ u. t ≤ u)) times

-- at no later time than the next one no first transaction and no timeout is earlier
pub record NextIsFirst : Type 0 where
  pub transactions : (d : Digital) (t : ℕ) → IfSome (next_time d) (λ u. t ≤ u) → NoneIsEarlier t (times_of d.queues)
  pub timeouts : (d : Digital) (t : ℕ) → IfSome (next_time d) (λ u. t ≤ u) → NoneIsEarlier t (timeouts_of d.processes)
