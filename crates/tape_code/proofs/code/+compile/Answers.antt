use Rattle.std.proofs.Common.{◌≡◌, ◌-◌, List, [], ◌∷◌, ◌++◌, length, ◌∙◌, sym, ap, arith}
use Rattle.flat_expr.specs.declared.expr.FlatExpr.{FlatExpr}
use Rattle.tape_code.specs.declared.instruction.Instruction.{Instruction}
use Rattle.tape_code.specs.Code.{code_of}
use Rattle.tape_code.proofs.Appended.{binary_appended, call_appended}
use Rattle.tape_code.proofs.code.+compile.Goals as goal

pub returns-in_ok-push-in-Binary-2 : goal.returns-in_ok-push-in-Binary-2
returns-in_ok-push-in-Binary-2 t c =
    let start = c.args.code.now.items in
    let left = c.compile-in-Binary.new.code in
    let all = c.compile-else-is_power.new.code in
    let right = c.len.result - c.len-start.result in
    let size : right ≡ length all.items - length left.items = omega (arith, c.len.ensures, c.len-start.ensures, all.ok.0, left.ok.0) in
    let on_left : left.items ≡ start ++ code_of c.in-Binary.a = c.in_ok-compile-in-Binary.ensures ∙ ap (λ (z : FlatExpr). start ++ code_of z) c.get-in-Binary.ensures in
    let on_right : all.items ≡ left.items ++ code_of c.in-Binary.b = c.in_ok-compile-in-Binary-2.ensures ∙ ap (λ (z : FlatExpr). left.items ++ code_of z) c.get-else-is_power.ensures in
    c.in_ok-push-in-Binary-2.ensures.items ∙ ap (λ (z : Instruction). all.items ++ z ∷ []) c.binary_instruction.ensures
    ∙ binary_appended c.in-Binary.op c.in-Binary.field-1 c.args.expr.now c.in-Binary.a c.in-Binary.b start left.items all.items right c.in-Binary.is (sym c.is_power.ensures ∙ c.if-is_power.false) on_left on_right size

pub returns-in_ok-push-in-Some : goal.returns-in_ok-push-in-Some
returns-in_ok-push-in-Some t c =
    let start = c.args.code.now.items in
    let all = c.compile-in-Some.new.code in
    let on : all.items ≡ start ++ code_of c.in-Call.a = c.in_ok-compile-in-Some.ensures ∙ ap (λ (z : FlatExpr). start ++ code_of z) c.get-in-Some.ensures in
    c.in_ok-push-in-Some.ensures.items
    ∙ call_appended c.in-Call.name c.in-Some.function c.args.expr.now c.in-Call.a start all.items c.in-Call.is (sym c.real_function.ensures ∙ c.in-Some.is) on
