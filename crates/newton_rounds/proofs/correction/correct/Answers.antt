-- One unknown more is corrected.
use Rattle.std.proofs.Common.{◌≡◌, ◌<◌, pos, length, get_or, Ok, sym, ◌∙◌, arith, length-set}
use Rattle.fix_core.specs.Fixed.{difference_of}
use Rattle.newton_rounds.proofs.Correcting.{correction_more}
use Rattle.newton_rounds.proofs.correction.correct.Goals as goal

pub loop-i-preserved : goal.loop-i-preserved
loop-i-preserved c =
    let xs = c.loop-i.x in
    let ds = c.args.corrections.now in
    let i = c.loop-i.i in
    let hx : i < length xs = omega arith in
    let hd : i < length ds = omega arith in
    let taken : difference_of (get_or xs i (pos 0)) (get_or ds i (pos 0)) ≡ Ok c.in_ok-value.value = rw (← c.get.ensures, ← c.get-in-loop-i.ensures) (sym c.in_ok-value.ensures) in
    rw c.set.ensures
    (record {
      told = c.loop-i.invariant.told ∙ correction_more xs ds i c.in_ok-value.value hx hd taken;
      count = length-set xs i c.in_ok-value.value ∙ c.loop-i.invariant.count;
    })
