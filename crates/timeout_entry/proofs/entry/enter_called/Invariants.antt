use Rattle.std.proofs.Common.{◌≡◌, take, length}
use Rattle.cycle_timeouts.specs.Entered.{entered}
use Rattle.process_runs.proofs.Called.{next_called}
use Rattle.timeout_entry.specs.Kept.{timeouts_kept}
use Rattle.timeout_entry.proofs.entry.enter_called.Given as goal

-- all before the next one that was called are entered
abbrev pub invariant-loop-number : goal.invariant-loop-number
invariant-loop-number l = record {
  same : l.timeouts ≡ entered l.initial.timeouts (take (next_called l.called (length l.initial.timeouts) l.number-index) (timeouts_kept l.kept))
      (take (next_called l.called (length l.initial.timeouts) l.number-index) l.ran);
  count : length l.timeouts ≡ length l.initial.timeouts;
}
