use Rattle.std.proofs.Common.{◌∙◌}
use Rattle.run_counts.proofs.CountLemmas.{one_more, room_for_one}
use Rattle.run_counts.proofs.counts.count_events.Goals as goal

pub count_event-requires : goal.count_event-requires
count_event-requires c =
    room_for_one c.args.counts.now c.loop-event.counts c.args.events.now c.loop-event.event-index _ c.loop-event.invariant c.loop-event-test.true c.requires

pub loop-event-preserved : goal.loop-event-preserved
loop-event-preserved c =
    c.count_event.ensures ∙ one_more c.args.counts.now c.loop-event.counts c.args.events.now c.loop-event.event-index c.event-item.result c.loop-event.invariant c.loop-event-test.true c.event-item.is
