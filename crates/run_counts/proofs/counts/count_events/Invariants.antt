use Rattle.std.proofs.Common.{◌≡◌, take}
use Rattle.run_counts.specs.Counts.{gained}
use Rattle.run_counts.proofs.counts.count_events.Given as goal

-- the events so far are counted
abbrev pub invariant-loop-event : goal.invariant-loop-event
invariant-loop-event l = l.counts ≡ gained l.fn.counts (take l.event-index l.events)
