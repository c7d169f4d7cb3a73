use Rattle.std.proofs.Common.{◌≡◌, ◌≤◌, ◌+◌, ◌-◌, ◌*◌, ◌++◌, length, map, drop, decimal}
use Rattle.commit_trace.specs.Added.{fields_text}
use Rattle.commit_trace.proofs.append.put_numbers.Given as goal

-- the fields from a place on are written
abbrev pub invariant-loop-left : goal.invariant-loop-left
invariant-loop-left l = record {
  within : l.left ≤ length l.numbers;
  start : l.end + 21 * l.left ≤ l.start + 21 * length l.numbers;
  before : l.start ≤ l.end;
  text : drop l.start l.text ≡ fields_text (map decimal (drop l.left l.numbers)) ++ drop l.end l.fn.text;
}

abbrev pub decreases-loop-left : goal.decreases-loop-left
decreases-loop-left l = l.left
