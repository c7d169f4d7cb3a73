use Rattle.std.proofs.Common.{◌≡◌, length}
use Rattle.core_rows.proofs.calls.ask_each.Given as goal

abbrev pub invariant-loop-one : goal.invariant-loop-one
invariant-loop-one g l =
    record {
      part : l.line.part ≡ 0;
      tip : l.start.tip ≡ l.fn.start.tip;
      frame : l.start.frame ≡ l.fn.start.frame;
      room : length l.start.found.x ≡ (g.D.Design.system 0).unknowns;
    }
