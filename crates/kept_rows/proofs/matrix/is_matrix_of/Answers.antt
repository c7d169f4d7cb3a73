-- One row more is compared.
use Rattle.std.proofs.Common.{◌≡◌, ◌<◌, ◌+◌, length, ap, ◌∙◌, arith}
use Rattle.kept_rows.proofs.Fronts.{matrix_step}
use Rattle.kept_rows.proofs.matrix.is_matrix_of.Goals as goal

pub loop-i-preserved : goal.loop-i-preserved
loop-i-preserved c =
    let i = c.loop-i.i in
    let n = length c.args.rows.now in
    let h : i < length c.args.matrix.now = omega (arith, c.requires.count) in
    let k : i < length c.args.rows.now = omega arith in
    let m = c.index-matrix-i.result in
    let r = c.index-rows-i.result in
    let hm : length m ≡ n = ap length c.index-matrix-i.is ∙ c.requires.matrix i m h in
    let hr : length r ≡ n + 1 = ap length c.index-rows-i.is ∙ c.requires.rows i r k in
    matrix_step c.args.matrix.now c.args.rows.now i m r n h k hm hr c.index-matrix-i.is c.index-rows-i.is (c.begins.ensures.0 c.if-not-begins.false) c.loop-i.invariant
