use Rattle.std.proofs.Common.{arith, ◌∙◌, sym, ap, subst}
use Rattle.flat_expr.specs.declared.expr.FlatExpr.TheViews as view
use Rattle.flat_expr.proofs.expr.FlatExpr.TheLaws.{the_size}
use Rattle.design_meaning.specs.Value.{value_of}
use Rattle.expr_eval.specs.Condition.{CanEvaluate}
use Rattle.expr_eval.proofs.Parts.{unary_part, binary_parts, call_part, index_parts}
use Rattle.expr_eval.proofs.evaluate.+value.Goals as goal

pub value-requires : goal.value-requires
value-requires g t c κs within =
    let part = ap the_size c.get-in-Unary.ensures in let whole = ap the_size c.in-Unary.is in
    (omega (arith, c.decreases, part, whole, view.sized-Unary c.in-Unary.op c.in-Unary.field-1 c.in-Unary.a), (within, subst (CanEvaluate _) (sym c.get-in-Unary.ensures) (unary_part _ _ _ _ _ c.in-Unary.is c.requires).operand))

pub unary_value-requires : goal.unary_value-requires
unary_value-requires g t c = (unary_part _ _ _ _ _ c.in-Unary.is c.requires).fits _ (ap (λ z. value_of z (g.V.Values.readings c.args.values.now)) (sym c.get-in-Unary.ensures) ∙ sym c.value.ensures ∙ c.in_ok-x-in-Unary.was)

pub value-requires-in-Binary : goal.value-requires-in-Binary
value-requires-in-Binary g t c κs within =
    let part = ap the_size c.get-in-Binary.ensures in let whole = ap the_size c.in-Binary.is in
    (omega (arith, c.decreases, part, whole, view.sized-Binary c.in-Binary.op c.in-Binary.field-1 c.in-Binary.a c.in-Binary.b), (within, subst (CanEvaluate _) (sym c.get-in-Binary.ensures) (binary_parts _ _ _ _ _ _ c.in-Binary.is c.requires).left))

pub value-requires-in-None : goal.value-requires-in-None
value-requires-in-None g t c κs within =
    let part = ap the_size c.get-in-None.ensures in let whole = ap the_size c.in-Binary.is in
    (omega (arith, c.decreases, part, whole, view.sized-Binary c.in-Binary.op c.in-Binary.field-1 c.in-Binary.a c.in-Binary.b), (within, subst (CanEvaluate _) (sym c.get-in-None.ensures) (binary_parts _ _ _ _ _ _ c.in-Binary.is c.requires).right))

pub binary_value-requires : goal.binary_value-requires
binary_value-requires g t c = (binary_parts _ _ _ _ _ _ c.in-Binary.is c.requires).fits _ _ (ap (λ z. value_of z (g.V.Values.readings c.args.values.now)) (sym c.get-in-Binary.ensures) ∙ sym c.value-in-Binary.ensures ∙ c.in_ok-x-in-Binary.was) (ap (λ z. value_of z (g.V.Values.readings c.args.values.now)) (sym c.get-in-None.ensures) ∙ sym c.value-in-None.ensures ∙ c.in_ok-y-in-None.was)

pub value-requires-in-Call : goal.value-requires-in-Call
value-requires-in-Call g t c κs within =
    let part = ap the_size c.get-in-Call.ensures in let whole = ap the_size c.in-Call.is in
    (omega (arith, c.decreases, part, whole, view.sized-Call c.in-Call.function c.in-Call.a), (within, subst (CanEvaluate _) (sym c.get-in-Call.ensures) (call_part _ _ _ _ c.in-Call.is c.requires)))

pub value-requires-in-Index : goal.value-requires-in-Index
value-requires-in-Index g t c κs within =
    let part = ap the_size c.get-in-Index.ensures in let whole = ap the_size c.in-Index.is in
    (omega (arith, c.decreases, part, whole, view.sized-Index c.in-Index.a c.in-Index.b c.in-Index.range), (within, subst (CanEvaluate _) (sym c.get-in-Index.ensures) (index_parts _ _ _ _ _ c.in-Index.is c.requires).vector))

pub value-requires-in-Index-2 : goal.value-requires-in-Index-2
value-requires-in-Index-2 g t c κs within =
    let part = ap the_size c.get-in-Index-2.ensures in let whole = ap the_size c.in-Index.is in
    (omega (arith, c.decreases, part, whole, view.sized-Index c.in-Index.a c.in-Index.b c.in-Index.range), (within, subst (CanEvaluate _) (sym c.get-in-Index-2.ensures) (index_parts _ _ _ _ _ c.in-Index.is c.requires).index))
