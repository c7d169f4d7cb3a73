use Rattle.std.proofs.Common.{◌≡◌, ◌++◌, take, drop, length}
use Rattle.timeout_entry.specs.Kept.{timeouts_kept}
use Rattle.timeout_entry.proofs.entry.enter_all.Given as goal

abbrev pub invariant-loop-number : goal.invariant-loop-number
invariant-loop-number l = record {
  same : l.timeouts ≡ take l.number (timeouts_kept l.kept) ++ drop l.number l.initial.timeouts;
  count : length l.timeouts ≡ length l.initial.timeouts;
}
