use Rattle.std.proofs.Common.{◌≡◌, ◌++◌, take}
use Rattle.process_cases.proofs.bench.push_all.Given as goal

abbrev pub invariant-loop-element : goal.invariant-loop-element
invariant-loop-element l = l.list ≡ l.fn.list ++ take l.element-index l.more
