use Rattle.std.proofs.Common.{◌∙◌, arith}
use Rattle.commit_trace.proofs.TextLemmas.{front_kept}
use Rattle.commit_trace.proofs.UnknownLemmas.{unknown_lines_next}
use Rattle.commit_trace.proofs.head.push_unknowns.Goals as goal

pub loop-number-preserved : goal.loop-number-preserved
loop-number-preserved c =
    record {
      front = front_kept _ _ _ _ c.loop-number.invariant.front c.in_ok-push_unknown.ensures.ok;
      lines =
          unknown_lines_next c.numbers_find_unknowns.ensures c.args.flat.now _ _ c.loop-number.number _ (omega arith) c.unknown_at.ensures c.in_ok-push_unknown.ensures.ok
          ∙ c.loop-number.invariant.lines;
    }
