-- One product more is taken off.
use Rattle.std.proofs.Common.{◌≡◌, ◌+◌, ◌<◌, ◌≤◌, length, drop, get_or, ◌∙◌, sym, refl, arith, length-drop}
use Rattle.std.proofs.lemmas.List.{get_or-drop}
use Rattle.std.proofs.lemmas.Result.{err_from_is_err_and}
use Rattle.lin_solve.proofs.Steps.{coefficient_is, right_side_is, unknown_fails, unknown_is, substituted_more, substituted_no_product, substituted_no_difference, substituted_end}
use Rattle.lin_solve.proofs.first_unknown.Goals as goal

pub loop-i-init : goal.loop-i-init
loop-i-init c =
    let h : 0 < length c.args.row.now = omega arith in
    rw (right_side_is c.args.row.now c.index-row-row.result h c.index-row-row.is) refl

pub loop-i-preserved : goal.loop-i-preserved
loop-i-preserved c =
    let cs = drop (c.args.column + 1) c.args.row.now in
    let i = c.loop-i.i in
    let hc : i < length cs = omega (arith, length-drop (c.args.column + 1) c.args.row.now) in
    let hx : i < length c.args.others.now = omega arith in
    let rc : c.index-row-column.result ≡ get_or cs i c.index-row-column.result = c.index-row-column.is ∙ sym (get_or-drop (c.args.column + 1) c.args.row.now i c.index-row-column.result) in
    c.loop-i.invariant ∙ substituted_more _ _ _ _ _ cs c.args.others.now i hc hx rc c.index-others-i.is (sym c.in_ok-loss.ensures) (sym c.in_ok-sum.ensures)

pub returns-in_err-loss : goal.returns-in_err-loss
returns-in_err-loss c =
    let cs = drop (c.args.column + 1) c.args.row.now in
    let i = c.loop-i.i in
    let hc : i < length cs = omega (arith, length-drop (c.args.column + 1) c.args.row.now) in
    let hx : i < length c.args.others.now = omega arith in
    let rc : c.index-row-column.result ≡ get_or cs i c.index-row-column.result = c.index-row-column.is ∙ sym (get_or-drop (c.args.column + 1) c.args.row.now i c.index-row-column.result) in
    let p = err_from_is_err_and c.from_residual.result c.from_residual.ensures.1 in
    rw (p.1, p.2) (sym (unknown_fails _ _ _ _ (c.loop-i.invariant ∙ substituted_no_product _ _ _ cs c.args.others.now i _ hc hx rc c.index-others-i.is (sym c.in_err-loss.ensures))))

pub returns-in_err-sum : goal.returns-in_err-sum
returns-in_err-sum c =
    let cs = drop (c.args.column + 1) c.args.row.now in
    let i = c.loop-i.i in
    let hc : i < length cs = omega (arith, length-drop (c.args.column + 1) c.args.row.now) in
    let hx : i < length c.args.others.now = omega arith in
    let rc : c.index-row-column.result ≡ get_or cs i c.index-row-column.result = c.index-row-column.is ∙ sym (get_or-drop (c.args.column + 1) c.args.row.now i c.index-row-column.result) in
    let p = err_from_is_err_and c.from_residual-in_err-sum.result c.from_residual-in_err-sum.ensures.1 in
    rw (p.1, p.2) (sym (unknown_fails _ _ _ _ (c.loop-i.invariant ∙ substituted_no_difference _ _ _ _ cs c.args.others.now i _ hc hx rc c.index-others-i.is (sym c.in_ok-loss.ensures) (sym c.in_err-sum.ensures))))

pub returns : goal.returns
returns c =
    let cs = drop (c.args.column + 1) c.args.row.now in
    let h : c.args.column < length c.args.row.now = omega arith in
    let all : length c.args.others.now ≤ c.loop-i.i = omega arith in
    c.div.ensures ∙ sym (unknown_is _ _ _ _ _ (c.loop-i.invariant ∙ substituted_end c.loop-i.sum cs c.args.others.now c.loop-i.i all) (coefficient_is c.args.column c.args.row.now c.index-row-column-2.result h c.index-row-column-2.is))
