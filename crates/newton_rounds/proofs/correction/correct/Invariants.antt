use Rattle.std.proofs.Common.{◌≡◌, length, take, drop}
use Rattle.fix_core.specs.Passes.{joined}
use Rattle.design_meaning.specs.Newton.{corrected}
use Rattle.newton_rounds.proofs.correction.correct.Given as goal

abbrev pub invariant-loop-i : goal.invariant-loop-i
invariant-loop-i l = record {
  told : corrected l.fn.x l.corrections ≡ joined (take l.i l.x) (corrected (drop l.i l.x) (drop l.i l.corrections));
  count : length l.x ≡ length l.fn.x;
}
