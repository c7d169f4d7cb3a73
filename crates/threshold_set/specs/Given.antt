-- Events that are given one by one.
use Rattle.std.specs.Prelude.{◌≡◌, List, ◌++◌}
use Rattle.step_data.specs.declared.event.Event.{Event}

-- of all events a front was given, and these are left
pub record Given (old new left whole : List Event) : Type 0 where
  pub front : List Event
  pub is_front : front ++ left ≡ whole
  pub new_is : new ≡ old ++ front
