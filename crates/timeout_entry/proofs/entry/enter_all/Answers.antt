use Rattle.std.proofs.Common.{◌∙◌, arith}
use Rattle.timeout_entry.proofs.Entering.{all_next, all_whole}
use Rattle.timeout_entry.proofs.entry.enter_all.Goals as goal

pub loop-number-preserved : goal.loop-number-preserved
loop-number-preserved c = record {
  same =
      all_next c.args.timeouts.now c.loop-number.timeouts _ c.args.kept.now c.loop-number.number c.timeout_at-at.result (omega arith) c.requires.kept c.timeout_at-at.ensures c.loop-number.invariant.same
      c.in_ok-enter.ensures.set;
  count = c.enter.ensures.count ∙ c.loop-number.invariant.count;
}

pub returns-clause-entered : goal.returns-clause-entered
returns-clause-entered c = all_whole c.args.timeouts.now c.loop-number.timeouts c.args.kept.now c.loop-number.number (omega arith) c.requires.kept c.loop-number.invariant.same
