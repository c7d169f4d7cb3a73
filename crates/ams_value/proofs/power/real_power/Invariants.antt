use Rattle.std.proofs.Common.{◌≡◌, Ok}
use Rattle.ams_value.specs.Values.{real_powers}
use Rattle.ams_value.proofs.power.real_power.Given as goal

abbrev pub invariant-loop-done : goal.invariant-loop-done
invariant-loop-done l = real_powers l.a l.done ≡ Ok l.power
