use Rattle.std.proofs.Common.{◌≡◌, ◌++◌, drop}
use Rattle.unit_meaning.specs.Simultaneous as spec
use Rattle.equation_types.proofs.lengths.case_lengths.Given as goal

abbrev pub invariant-loop-alternative : goal.invariant-loop-alternative
invariant-loop-alternative l = l.lengths ++ spec.case_lengths (drop l.alternative-index l.alternatives) ≡ spec.case_lengths l.alternatives
