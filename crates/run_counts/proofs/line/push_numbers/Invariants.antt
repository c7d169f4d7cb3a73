use Rattle.std.proofs.Common.{◌≡◌, ◌++◌, map, take, decimal}
use Rattle.run_counts.specs.Counts.{fields_text}
use Rattle.run_counts.proofs.line.push_numbers.Given as goal

-- the fields so far are added
abbrev pub invariant-loop-number : goal.invariant-loop-number
invariant-loop-number l = l.out.items ≡ l.fn.out.items ++ fields_text (map decimal (take l.number-index l.numbers))
