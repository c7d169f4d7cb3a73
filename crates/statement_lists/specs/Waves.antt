-- What is promised of the transactions of a waveform.
use Rattle.std.specs.Prelude.{◌≡◌, ◌≤◌, Bool, ℤ, List, length, Option, None, Ok}
use Rattle.std.specs.List.{All}
use Rattle.ams_value.specs.declared.val.Val.{Val}
use Rattle.flat_expr.specs.declared.statement.WaveElement.{WaveElement}
use Rattle.step_data.specs.declared.trans.Trans.{Trans}
use Rattle.waveform.specs.Projected.{IsRising}
use Rattle.cycle_meaning.specs.World.{Context, Local}
use Rattle.cycle_meaning.specs.Statements.{transactions}

-- their times rise, none is before now, and there is one for each element. So a driver takes them
pub record IsWaveform (here : Context) (wave : List WaveElement) (new : List Trans) : Type 0 where
  pub rising : IsRising new
  pub later : All (λ (x : Trans). here.t ≤ x.at) new
  pub as_many : length new ≡ length wave

abbrev pub WaveformsRise : Type 0
WaveformsRise =
    (here : Context) (l : Local) (fits : Val → Bool) (limit : Option ℤ) (wave : List WaveElement) (new : List Trans)
    → transactions here l fits limit None wave ≡ Ok new → IsWaveform here wave new
