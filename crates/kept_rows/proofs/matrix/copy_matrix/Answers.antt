-- One row more is copied.
use Rattle.std.proofs.Common.{◌≡◌, ◌<◌, ◌+◌, ℤ, List, length, take, get_or, ap, ◌∙◌, arith}
use Rattle.std.proofs.lemmas.List.{length-take}
use Rattle.std.proofs.lemmas.List.Elements.{All-set}
use Rattle.kept_rows.proofs.Fronts.{matrix_copied}
use Rattle.kept_rows.proofs.matrix.copy_matrix.Goals as goal

pub loop-i-preserved : goal.loop-i-preserved
loop-i-preserved c =
    let i = c.loop-i.i in
    let matrix = c.loop-i.matrix in
    let rows = c.args.rows.now in
    let n = length rows in
    let h : i < length matrix = omega arith in
    let k : i < length rows = omega arith in
    let m : List ℤ = get_or matrix i c.index-matrix-i.result in
    let r = c.index-rows-i.result in
    let hm : length m ≡ n = c.loop-i.invariant.matrix i c.index-matrix-i.result h in
    let hr : length r ≡ n + 1 = ap length c.index-rows-i.is ∙ c.requires.rows i r k in
    let wide : length c.copy_front.new.self ≡ n = ap length c.copy_front.ensures ∙ omega (arith, length-take (length m) r, hm, hr) in
    record {
      copied = matrix_copied matrix rows i m r c.copy_front.new.self n h k hm hr c.index-rows-i.is c.copy_front.ensures c.loop-i.invariant.copied;
      matrix = All-set (λ row. length row ≡ n) matrix i c.copy_front.new.self wide c.loop-i.invariant.matrix;
    }
