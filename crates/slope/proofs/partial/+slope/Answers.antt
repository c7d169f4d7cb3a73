use Rattle.std.proofs.Common.{arith, sym, ap, subst}
use Rattle.flat_expr.specs.declared.expr.FlatExpr.TheViews as view
use Rattle.flat_expr.proofs.expr.FlatExpr.TheLaws.{the_size}
use Rattle.expr_eval.specs.Condition.{CanEvaluate}
use Rattle.expr_eval.proofs.Parts.{unary_part, binary_parts, call_part}
use Rattle.slope.proofs.partial.+slope.Goals as goal

pub slope-inner-requires : goal.slope-inner-requires
slope-inner-requires g t c κs within =
    let part = ap the_size c.get-operand.ensures in let whole = ap the_size c.in-Unary.is in
    (omega (arith, c.decreases, part, whole, view.sized-Unary c.in-Unary.op c.in-Unary.field-1 c.in-Unary.a), (within, subst (CanEvaluate _) (sym c.get-operand.ensures) (unary_part _ _ _ _ _ c.in-Unary.is c.requires).operand))

pub unary_slope-requires : goal.unary_slope-requires
unary_slope-requires g t c = subst (CanEvaluate _) (sym c.get-operand.ensures) (unary_part _ _ _ _ _ c.in-Unary.is c.requires).operand

pub slope-left_slope-requires : goal.slope-left_slope-requires
slope-left_slope-requires g t c κs within =
    let part = ap the_size c.get-left.ensures in let whole = ap the_size c.in-Binary.is in
    (omega (arith, c.decreases, part, whole, view.sized-Binary c.in-Binary.op c.in-Binary.field-1 c.in-Binary.a c.in-Binary.b), (within, subst (CanEvaluate _) (sym c.get-left.ensures) (binary_parts _ _ _ _ _ _ c.in-Binary.is c.requires).left))

pub slope-right_slope-requires : goal.slope-right_slope-requires
slope-right_slope-requires g t c κs within =
    let part = ap the_size c.get-right.ensures in let whole = ap the_size c.in-Binary.is in
    (omega (arith, c.decreases, part, whole, view.sized-Binary c.in-Binary.op c.in-Binary.field-1 c.in-Binary.a c.in-Binary.b), (within, subst (CanEvaluate _) (sym c.get-right.ensures) (binary_parts _ _ _ _ _ _ c.in-Binary.is c.requires).right))

pub binary_slope-requires-clause-left : goal.binary_slope-requires-clause-left
binary_slope-requires-clause-left g t c = subst (CanEvaluate _) (sym c.get-left.ensures) (binary_parts _ _ _ _ _ _ c.in-Binary.is c.requires).left

pub binary_slope-requires-clause-right : goal.binary_slope-requires-clause-right
binary_slope-requires-clause-right g t c = subst (CanEvaluate _) (sym c.get-right.ensures) (binary_parts _ _ _ _ _ _ c.in-Binary.is c.requires).right

pub slope-inner-requires-in-Call : goal.slope-inner-requires-in-Call
slope-inner-requires-in-Call g t c κs within =
    let part = ap the_size c.get-argument.ensures in let whole = ap the_size c.in-Call.is in
    (omega (arith, c.decreases, part, whole, view.sized-Call c.in-Call.function c.in-Call.a), (within, subst (CanEvaluate _) (sym c.get-argument.ensures) (call_part _ _ _ _ c.in-Call.is c.requires)))

pub call_slope-requires-clause-argument : goal.call_slope-requires-clause-argument
call_slope-requires-clause-argument g t c = subst (CanEvaluate _) (sym c.get-argument.ensures) (call_part _ _ _ _ c.in-Call.is c.requires)
