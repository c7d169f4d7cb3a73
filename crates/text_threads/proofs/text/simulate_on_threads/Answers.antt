use Rattle.std.proofs.Common.{string_bytes, refl}
use Rattle.text_threads.proofs.Handing.{runs_design, runs_unread}
use Rattle.text_threads.proofs.text.simulate_on_threads.Goals as goal

pub returns-in-Ok : goal.returns-in-Ok
returns-in-Ok g c =
    let r = c.run_on_threads-ran in
    runs_design c.tell_report.result c.args.text.now c.as_str.result.now (string_bytes c.args.top.now) c.args.options.now c.in-Ok.flat r.result _ _
    c.as_str.ensures.value c.in-Ok.ensures r.ensures.puts r.ensures.end r.ensures.fits c.tell_report.ensures

pub returns-in-Err : goal.returns-in-Err
returns-in-Err g c =
    runs_unread c.in-Err.unread c.refuse.result c.args.text.now c.as_str.result.now (string_bytes c.args.top.now) c.args.options.now _ _
    c.as_str.ensures.value c.in-Err.ensures refl c.refuse.ensures
