use Rattle.std.proofs.Common.{ap, ◌∙◌, set}
use Rattle.driver_check.specs.Counts.{second}
use Rattle.driver_check.proofs.Counted.{changed_there}
use Rattle.driver_check.proofs.count.count_second_of.Goals as goal

pub returns-then-signal-counts : goal.returns-then-signal-counts
returns-then-signal-counts c =
    ap (set c.args.counts.now c.args.signal) c.second.ensures ∙ changed_there second c.args.counts.now c.args.signal _ c.if-signal-counts.true
