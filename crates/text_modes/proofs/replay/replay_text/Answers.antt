use Rattle.std.proofs.Common.{string_bytes, refl}
use Rattle.text_modes.proofs.Replaying.{replays_design, replays_unread}
use Rattle.text_modes.proofs.replay.replay_text.Goals as goal

pub returns-in-Ok : goal.returns-in-Ok
returns-in-Ok g c =
    replays_design c.tell_report.result c.args.text.now c.as_str.result.now (string_bytes c.args.top.now) c.args.options.now c.args.schedule.now c.in-Ok.flat c.replay_design-replayed.result _ _
    c.as_str.ensures.value c.in-Ok.ensures c.replay_design-replayed.ensures.puts c.replay_design-replayed.ensures.end c.replay_design-replayed.ensures.report c.tell_report.ensures

pub returns-in-Err : goal.returns-in-Err
returns-in-Err g c =
    replays_unread c.in-Err.unread c.refuse.result c.args.text.now c.as_str.result.now (string_bytes c.args.top.now) c.args.options.now c.args.schedule.now _ _
    c.as_str.ensures.value c.in-Err.ensures refl c.refuse.ensures
