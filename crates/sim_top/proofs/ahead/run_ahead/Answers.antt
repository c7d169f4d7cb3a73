use Rattle.std.proofs.Common.{string_bytes, inl, inr}
use Rattle.sim_top.proofs.Runs.{runs_ahead_same}
use Rattle.sim_top.proofs.ahead.run_ahead.Goals as goal

pub returns-in-Ok : goal.returns-in-Ok
returns-in-Ok g c =
    let read = c.in-Ok.ensures in
    inr (inr (inl (
      c.in-Ok.text.items,
      (read.ok, read.end),
      read.bound,
      runs_ahead_same _ _ _ (string_bytes c.args.settings.now.top) c.args.settings.now.options _ _ c.deref.ensures.value c.simulate_on_threads.ensures,
    )))
