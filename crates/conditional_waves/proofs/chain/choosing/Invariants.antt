use Rattle.std.proofs.Common.{◌≡◌, []}
use Rattle.std.specs.Vec.Iter.{into_iter_items}
use Rattle.unit_meaning.specs.Processes as spec
use Rattle.conditional_waves.proofs.chain.choosing.Given as goal

abbrev pub invariant-loop-wave : goal.invariant-loop-wave
invariant-loop-wave l = spec.choosing l.branches (into_iter_items l.wave-iterator) ≡ spec.choosing [] l.fn.waves
