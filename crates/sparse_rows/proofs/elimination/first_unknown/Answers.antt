use Rattle.std.proofs.Common.{◌+◌, ℤ, drop, ap, ◌∙◌, sym}
use Rattle.std.proofs.lemmas.Result.{err_from_is_err_and}
use Rattle.lin_solve.specs.Elimination.{substituted}
use Rattle.lin_solve.proofs.Steps.{unknown_fails, unknown_is}
use Rattle.sparse_rows.proofs.Steps.{right_of}
use Rattle.sparse_rows.proofs.elimination.first_unknown.Goals as goal

pub returns-in_err-left : goal.returns-in_err-left
returns-in_err-left c =
    let row = c.args.row.now in
    let xs = drop (c.args.column + 1) c.args.unknowns.now in
    let right = right_of row c.get-right_side.result c.width.result c.width.ensures c.get-right_side.ensures in
    let p = err_from_is_err_and c.from_residual.result c.from_residual.ensures.1 in
    rw (p.1, p.2) (sym (unknown_fails c.args.column row xs _ (ap (λ (z : ℤ). substituted z (drop (c.args.column + 1) row) xs) right ∙ sym c.in_err-left.ensures)))

pub returns : goal.returns
returns c =
    let row = c.args.row.now in
    let xs = drop (c.args.column + 1) c.args.unknowns.now in
    let right = right_of row c.get-right_side.result c.width.result c.width.ensures c.get-right_side.ensures in
    c.div.ensures ∙ sym (unknown_is c.args.column row xs c.in_ok-left.left c.get.result (ap (λ (z : ℤ). substituted z (drop (c.args.column + 1) row) xs) right ∙ sym c.in_ok-left.ensures) (sym c.get.ensures))
