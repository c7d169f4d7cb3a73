-- Small assignments, worked out.
use Rattle.std.specs.Prelude.{◌≡◌, ℕ, [], ◌∷◌, true, false}
use Rattle.ams_value.specs.declared.val.Val.TheVariants as val
use Rattle.step_data.specs.declared.trans.Trans.{Trans}
use Rattle.waveform.specs.declared.trans.DelayKind.TheVariants.{Inertial, Transport}
use Rattle.waveform.specs.Projected.{projected}

-- a transaction of '0', and one of '1'
abbrev pub low : ℕ → Trans
low t = record { at = t; value = val.Bit false }

abbrev pub high : ℕ → Trans
high t = record { at = t; value = val.Bit true }

pub record WorkedWaveforms : Type 0 where
  -- a pulse that is shorter than the rejection limit goes
  pub pulse : projected Inertial 8000 (high 5000 ∷ []) (low 8000 ∷ []) ≡ low 8000 ∷ []
  -- an equal value directly before the new one stays, and the one before it goes
  pub equal_value : projected Inertial 8000 (low 5000 ∷ high 6000 ∷ []) (high 8000 ∷ []) ≡ high 6000 ∷ high 8000 ∷ []
  -- what is earlier than the limit reaches stays, the later one goes
  pub within_limit : projected Inertial 2000 (high 5000 ∷ high 7000 ∷ []) (low 8000 ∷ []) ≡ high 5000 ∷ low 8000 ∷ []
  -- with transport all earlier ones stay, and those from the new time on go
  pub transport : projected Transport 0 (high 5000 ∷ low 8000 ∷ high 9000 ∷ []) (low 8000 ∷ []) ≡ high 5000 ∷ low 8000 ∷ []
