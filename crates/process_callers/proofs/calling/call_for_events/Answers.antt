use Rattle.std.proofs.Common.{◌≡◌, ◌++◌, ◌-◌, ◌<◌, List, ℕ, take, drop, length, sym, ap, ◌∙◌, arith}
use Rattle.std.specs.List.{flat_map}
use Rattle.step_data.specs.declared.event.Event.{Event}
use Rattle.process_callers.specs.Calling.{heard}
use Rattle.process_callers.proofs.Hearing.{heard_next}
use Rattle.process_callers.proofs.calling.call_for_events.Goals as goal

pub loop-k-preserved : goal.loop-k-preserved
loop-k-preserved c =
    heard_next c.args.callers.now c.args.from c.loop-k.k c.as_slice-events.result.now c.index-events-k.result c.args.called.now.items c.loop-k.called.items c.call_for.new.called.items
    c.loop-k-test.true c.loop-k.auto.k c.index-events-k.is c.loop-k.invariant c.in_ok-call_for.ensures
