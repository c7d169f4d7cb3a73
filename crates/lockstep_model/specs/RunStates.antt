-- Where a run stands between two works.
use Rattle.std.specs.Prelude.{ℕ, Bool, ℤ, List, Option}
use Rattle.ams_value.specs.declared.val.Val.{Val}
use Rattle.step_data.specs.declared.tip.Tip.{Tip}
use Rattle.step_data.specs.declared.breaks.Element.{Element}
use Rattle.step_model.specs.System.{Digital}

-- where lockstep stands between two works: the digital side; the digital time and the delta at it; whether DOMAIN is
-- TIME_DOMAIN; whether the last cycle executed a break; the values that processes read; the tip; the frame of the last
-- quiescent solution; the break elements that were executed before TIME_DOMAIN; and the branches at the last point that
-- was given, none before the first
pub record RunState : Type 0 where
  pub digital : Digital
  pub time : ℕ
  pub delta : ℕ
  pub timed : Bool
  pub broke : Bool
  pub point : List ℤ
  pub tip : Tip
  pub solved : Option (List Val)
  pub gathered : List Element
  pub branches : List ℕ
