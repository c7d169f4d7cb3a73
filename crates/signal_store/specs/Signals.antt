-- The signals of a design.
use Rattle.std.specs.Prelude.{Bool, List}
use Rattle.ams_value.specs.declared.val.Val.{Val}

-- the values by the numbers of the signals, and which signals had an event
pub record Signals : Type 0 where
  pub values : List Val
  pub events : List Bool
