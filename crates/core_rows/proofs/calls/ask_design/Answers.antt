use Rattle.std.proofs.Common.{arith}
use Rattle.core_rows.proofs.calls.ask_design.Goals as goal

pub ask_each-requires-clause-frame : goal.ask_each-requires-clause-frame
ask_each-requires-clause-frame g c =
    let fits = c.in_ok-start.ensures.0.frame_fits in
    rw (c.requires.frames c.in_ok-start.start.frame) (grind (arith, fits))
