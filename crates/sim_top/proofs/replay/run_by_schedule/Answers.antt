use Rattle.std.proofs.Common.{string_bytes, inl, inr}
use Rattle.sim_top.proofs.Schedule.{replays_same}
use Rattle.sim_top.proofs.replay.run_by_schedule.Goals as goal

pub returns-in-Ok : goal.returns-in-Ok
returns-in-Ok g c =
    let read = c.in-Ok.ensures in
    inr (inr (inl (
      c.in-Ok.text.items,
      (read.ok, read.end),
      read.bound,
      replays_same _ _ _ (string_bytes c.args.settings.now.top) c.args.settings.now.options c.as_slice-schedule.result.now c.args.settings.now.schedule.items _ _ c.deref.ensures.value
          c.as_slice-schedule.ensures.value c.replay_text.ensures,
    )))
