use Rattle.std.proofs.Common.{◌+◌, ◌-◌, arith}
use Rattle.step_schedule.specs.Letters.{letters}
use Rattle.step_schedule.proofs.Lettering.{one_more}
use Rattle.step_schedule.proofs.schedule.Goals as goal

pub loop-k-preserved : goal.loop-k-preserved
loop-k-preserved c =
    record {
      left =
          one_more c.loop-k.steps.items c.push.new.self.items (letters c.args.seed c.args.len) c.loop-k.state c.turn-state.result (c.args.len - (c.loop-k._k + 1)) (c.args.len - c.loop-k._k) c.letter.result
          c.in_ok-push.ensures.items c.turn-state.ensures c.letter.ensures (omega arith) c.loop-k.invariant.left;
    }
