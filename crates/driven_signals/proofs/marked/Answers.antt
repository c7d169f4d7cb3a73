use Rattle.driven_signals.specs.Driven.{flag}
use Rattle.driven_signals.proofs.Laws.{one_more}
use Rattle.driven_signals.proofs.marked.Goals as goal

pub loop-i-preserved : goal.loop-i-preserved
loop-i-preserved c =
    one_more (flag c.args.flags.now) c.loop-i.i c.flag_at-wanted.result c.loop-i.numbers.items c.push_if.new.numbers.items c.flag_at-wanted.ensures c.loop-i.invariant c.in_ok-push_if.ensures
