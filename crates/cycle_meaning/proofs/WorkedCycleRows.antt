-- Small cycles, by computation.
use Rattle.std.proofs.Common.{refl}
use Rattle.ams_value.specs.Values.{equals}
use Rattle.cycle_meaning.specs.Task.{behind}
use Rattle.cycle_meaning.specs.Cycles.{waiting_at, resumes, run_all, cycle}
use Rattle.cycle_meaning.specs.Worked.{WorkedCycles}

pub cycles : WorkedCycles
unfolding equals behind waiting_at resumes run_all cycle
cycles = record { next = refl; driving = refl; crossing = refl; domain = refl }
