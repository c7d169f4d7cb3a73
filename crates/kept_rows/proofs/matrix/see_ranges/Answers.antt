-- One number more is seen.
use Rattle.std.proofs.Common.{◌<◌, length, subst, arith}
use Rattle.fix_core.specs.Fixed.{IsInRange}
use Rattle.kept_rows.proofs.Fronts.{within_next}
use Rattle.kept_rows.proofs.matrix.see_ranges.Goals as goal

pub loop-i-preserved : goal.loop-i-preserved
loop-i-preserved c =
    let i = c.loop-i.i in
    let numbers = c.args.numbers.now in
    let h : i < length numbers = omega arith in
    let b = c.index-numbers-i.result in
    let within : IsInRange b = omega (arith, c.magnitude.ensures.value, c.magnitude.ensures.bound) in
    within_next numbers i b h (subst IsInRange c.index-numbers-i.is within) c.loop-i.invariant
