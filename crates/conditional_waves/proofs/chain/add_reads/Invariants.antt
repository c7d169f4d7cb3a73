use Rattle.std.proofs.Common.{◌≡◌, drop}
use Rattle.std.specs.List.{flat_map, fold}
use Rattle.unit_meaning.specs.Bare as bare
use Rattle.conditional_waves.specs.Waves.{reads_of}
use Rattle.conditional_waves.proofs.chain.add_reads.Given as goal

abbrev pub invariant-loop-wave : goal.invariant-loop-wave
invariant-loop-wave l = fold bare.with_signal l.all (flat_map reads_of (drop l.wave-index l.waves)) ≡ fold bare.with_signal l.fn.all (flat_map reads_of l.waves)
