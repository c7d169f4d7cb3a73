use Rattle.std.proofs.Common.{length, drop}
use Rattle.process_callers.proofs.Hearing.{all_within, all_called}
use Rattle.process_callers.proofs.calling.call.Goals as goal

pub returns-clause-within : goal.returns-clause-within
returns-clause-within c =
    all_within (length c.args.timeouts.now) c.args.callers.now c.args.from c.args.events.now _ c.call_for_events.new.called.items c.call_for_timeouts.new.called.items c.put_in_order.new.called.items
    c.requires.within c.clear.ensures.items c.in_ok-call_for_events.ensures c.in_ok-call_for_timeouts.ensures.within c.put_in_order.ensures.adds_none

pub returns-clause-calls : goal.returns-clause-calls
returns-clause-calls c = λ at w sleeps n moment are heard.
    all_called at w sleeps c.args.now n c.args.callers.now c.args.timeouts.now (drop c.args.from c.args.events.now) _ c.call_for_events.new.called.items c.call_for_timeouts.new.called.items c.put_in_order.new.called.items
    c.clear.ensures.items c.in_ok-call_for_events.ensures c.in_ok-call_for_timeouts.ensures.calls c.in_ok-call_for_timeouts.ensures.keeps c.put_in_order.ensures.keeps moment are heard
