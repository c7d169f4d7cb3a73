-- Signals and their drivers in a cycle.
use Rattle.std.specs.Prelude.{◌<◌, ℕ, ◌+◌, Bool, List, [], ◌∷◌, Option}
use Rattle.std.specs.List.{All, AllPairs}
use Rattle.ams_value.specs.declared.val.Val.{Val}
use Rattle.step_data.specs.declared.trans.Trans.{Trans}
use Rattle.step_data.specs.Pending.{due}
use Rattle.design_meaning.specs.Readings.{Seen}
use Rattle.cycle_meaning.specs.Cycles.{driving, queue_in}

-- values with their events
abbrev pub seens : List Val → List Bool → List Seen
seens [] events = []
seens (v ∷ values) [] = []
seens (v ∷ values) (e ∷ events) = record { value = v; event = e } ∷ seens values events

-- the driven signals are in order, and each is one of so many
pub record IsOrdered (count : ℕ) (driven : List ℕ) : Type 0 where
  pub rising : AllPairs (λ a b. a < b) driven
  pub within : All (λ (i : ℕ). i < count) driven

-- the transaction of a signal that is due
abbrev pub due_for : ℕ → List ℕ → List (List Trans) → ℕ → Option Trans
due_for t driven queues i = due t (queue_in i driven queues)

-- each signal takes the value of its transaction that is due, if there is one
abbrev pub driven_by : (ℕ → Option Trans) → ℕ → List Seen → List Seen
driven_by dues i [] = []
driven_by dues i (s ∷ more) = driving s (dues i) ∷ driven_by dues (i + 1) more
