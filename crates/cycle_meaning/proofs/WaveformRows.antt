-- Small assignments, by computation.
use Rattle.std.proofs.Common.{refl}
use Rattle.ams_value.specs.Values.{equals}
use Rattle.waveform.specs.Projected.{is_marked, marked}
use Rattle.cycle_meaning.specs.Waveforms.{WorkedWaveforms}

pub waveforms : WorkedWaveforms
unfolding equals is_marked marked
waveforms = record { pulse = refl; equal_value = refl; within_limit = refl; transport = refl }
