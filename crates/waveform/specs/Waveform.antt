-- A driver as its contracts see it.
use Rattle.std.specs.Prelude.{ℕ, List}
use Rattle.std.specs.Option.{option_map_or}
use Rattle.ams_value.specs.declared.val.Val.{Val}
use Rattle.step_data.specs.declared.trans.Trans.{Trans}
use Rattle.step_data.specs.Pending.{due, advanced}

-- the driving value, and the pending transactions
pub record Waveform : Type 0 where
  pub value : Val
  pub pending : List Trans

-- a driver whose time has come to t: the transaction that is due, if there is one, gives the value, and the later ones are still pending
abbrev pub driver_at : ℕ → Waveform → Waveform
driver_at t driver = record { value = option_map_or (λ x. x.value) (due t driver.pending) driver.value; pending = advanced t driver.pending }
