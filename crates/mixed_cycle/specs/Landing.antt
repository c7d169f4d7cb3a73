-- What a step to a time leaves and gives, where it lands and where it is refused.
use Rattle.std.specs.Prelude.{ℕ, Bool, true, false, List, Option}
use Rattle.step_data.specs.declared.event.Event.{Event}
use Rattle.run_place.specs.declared.place.RunPlace.{RunPlace}
use Rattle.run_place.specs.Giving.{bound_at, point_at}
use Rattle.run_place.specs.Outcomes.{crossed_left, halved_left, sided_left, too_small}

-- where a side step was refused
abbrev pub side_left : Bool → ℕ → ℕ → ℕ → RunPlace → RunPlace
side_left true t step code p = too_small t code p
side_left false t step code p = halved_left step p

-- where one landed: in a search, or at the time
abbrev pub landed_left : Bool → ℕ → ℕ → Option ℕ → Bool → List ℕ → RunPlace → RunPlace
landed_left true t xres next is_chosen branches p = crossed_left t xres p
landed_left false t xres next is_chosen branches p = sided_left t next is_chosen branches p

abbrev pub landed_events : Bool → ℕ → ℕ → Bool → List ℕ → RunPlace → List Event
landed_events true t xres is_chosen branches p = bound_at (crossed_left t xres p) is_chosen branches
landed_events false t xres is_chosen branches p = point_at p t 0 p.at_hi is_chosen branches
