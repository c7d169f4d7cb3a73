-- One right side more is copied.
use Rattle.std.proofs.Common.{◌≡◌, ◌<◌, ◌+◌, length, ap, ◌∙◌, arith}
use Rattle.fix_core.specs.Fixed.{IsInRange}
use Rattle.kept_rows.proofs.Fronts.{side_copied, within_more}
use Rattle.kept_rows.proofs.matrix.copy_right_sides.Goals as goal

pub loop-i-preserved : goal.loop-i-preserved
loop-i-preserved c =
    let i = c.loop-i.i in
    let bs = c.loop-i.numbers in
    let rows = c.args.rows.now in
    let n = length rows in
    let h : i < length bs = omega arith in
    let k : i < length rows = omega arith in
    let r = c.index-rows-i.result in
    let b = c.get-right_side.result in
    let hr : length r ≡ n + 1 = ap length c.index-rows-i.is ∙ c.requires.rows i r k in
    let within : IsInRange b = omega (arith, c.magnitude.ensures.value, c.magnitude.ensures.bound) in
    record {
      copied = side_copied rows bs i r b n h k hr c.index-rows-i.is c.get-right_side.ensures c.loop-i.invariant.copied;
      within = within_more bs i b h within c.loop-i.invariant.within;
    }
