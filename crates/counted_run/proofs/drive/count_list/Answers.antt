use Rattle.std.proofs.Common.{rules}
use Rattle.counted_run.proofs.MoveCounts.{few_more}
use Rattle.counted_run.proofs.drive.count_list.Goals as goal

pub returns-clause-few : goal.returns-clause-few
returns-clause-few c = few_more _ _ c.as_slice.result.now c.count_events.ensures (search rules)
