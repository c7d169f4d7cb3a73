use Rattle.std.proofs.Common.{◌≡◌, filter}
use Rattle.std.specs.List.{range_with_len}
use Rattle.driven_signals.specs.Driven.{flag}
use Rattle.driven_signals.proofs.marked.Given as goal

abbrev pub invariant-loop-i : goal.invariant-loop-i
invariant-loop-i l = l.numbers.items ≡ filter (flag l.flags) (range_with_len 0 l.i)
