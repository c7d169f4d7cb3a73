-- What a list of events has gained so far of what it is to gain.
use Rattle.std.specs.Prelude.{◌≡◌, ℕ, ℤ, Bool, if◌then◌else◌, List, [], ◌∷◌, ◌++◌}
use Rattle.step_data.specs.declared.event.Event.{Event}
use Rattle.step_data.specs.declared.event.Event.TheVariants.{Solved}
use Rattle.lockstep_model.specs.Lockstep.{branch_events}
use Rattle.lockstep_model.specs.Crossing.{is_near}
use Rattle.above_events.specs.Locating.{with_point}
use Rattle.run_place.specs.declared.place.RunPlace.{RunPlace}
use Rattle.run_place.specs.Places.{branches_of}

-- a front of the whole was added, and the rest is to come
pub record Gave (old new whole rest : List Event) : Type 0 where
  pub front : List Event
  pub new_is : new ≡ old ++ front
  pub whole_is : front ++ rest ≡ whole

-- the branches that were chosen, and else those before
abbrev pub chosen_of : Bool → List ℕ → List ℕ → List ℕ
chosen_of is_chosen branches olds = if is_chosen then branches else olds

abbrev pub olds_of : RunPlace → List ℕ
olds_of p = branches_of p.has_branches p.branches

abbrev pub changes_at : RunPlace → ℕ → ℕ → Bool → List ℕ → List Event
changes_at p t n is_chosen branches = branch_events t n 0 (chosen_of is_chosen branches (olds_of p)) (olds_of p)

abbrev pub point_at : RunPlace → ℕ → ℕ → List ℤ → Bool → List ℕ → List Event
point_at p t n x is_chosen branches = changes_at p t n is_chosen branches ++ Solved t n x ∷ []

-- the point at the later bound is given where the bounds are near enough
abbrev pub bound_at : RunPlace → Bool → List ℕ → List Event
bound_at p is_chosen branches =
    if is_near p.search.xres (with_point p.search p.at_hi) then point_at p p.search.hi 0 p.at_hi is_chosen branches else []
