-- What the lines of a trace have told when a point is given.
use Rattle.std.specs.Prelude.{ℕ, Bool, true, ℤ, List, [], ◌∷◌, Option, Some}
use Rattle.std.specs.List.{slice_set}
use Rattle.ams_value.specs.declared.val.Val.{Val}
use Rattle.step_data.specs.declared.event.Event.{Event}
use Rattle.step_data.specs.declared.event.Event.TheVariants as event

-- of each choice the branch that was named last, none where none was; the values of the signals and of the threshold
-- signals; and whether DOMAIN is TIME_DOMAIN
pub record Told : Type 0 where
  pub branches : List (Option ℕ)
  pub signals : List Val
  pub thresholds : List Bool
  pub timed : Bool

-- what an event adds to it; a point, a break and a report add nothing
abbrev pub told_after : Told → Event → Told
told_after told (event.Solved t n x) = told
told_after told (event.Domain t n) = record told { timed = true }
told_after told (event.Cross t n k on) = record told { thresholds = slice_set told.thresholds k on }
told_after told (event.Signal t n i value) = record told { signals = slice_set told.signals i value }
told_after told (event.Broke t n elements) = told
told_after told (event.Report t n severity text) = told
told_after told (event.Branch t n k b) = record told { branches = slice_set told.branches k (Some b) }

abbrev pub told_over : Told → List Event → Told
told_over told [] = told
told_over told (e ∷ events) = told_over (told_after told e) events

-- each point among some events, with its time and what was told before it
abbrev pub EachPoint : (Told → ℕ → List ℤ → Type 0) → Told → List Event → Type 0
EachPoint P told [] = Unit {0}
EachPoint P told (event.Solved t n x ∷ events) = P told t x × EachPoint P told events
EachPoint P told (e ∷ events) = EachPoint P (told_after told e) events
