-- Instructions that are appended to others.
use Rattle.std.proofs.Common.{◌≡◌, ◌+◌, ◌-◌, ℕ, Bool, true, false, Option, Some, None, ℤ, List, [], ◌∷◌, ◌++◌, length, refl, sym, ◌∙◌, ap, arith, append_assoc}
use Rattle.std.proofs.lemmas.List.{length-append}
use Rattle.ams_value.specs.declared.op.BinaryOperator.{BinaryOperator}
use Rattle.ams_value.specs.declared.value_type.ValueType.{ValueType}
use Rattle.flat_expr.specs.declared.expr.Function.{Function}
use Rattle.flat_expr.specs.declared.expr.FlatExpr.{FlatExpr}
use Rattle.flat_expr.specs.declared.expr.FlatExpr.TheOpen.{FlatExpr-F}
use Rattle.flat_expr.specs.declared.expr.FlatExpr.TheVariants as e
use Rattle.flat_expr.specs.declared.expr.FlatExpr.TheVariants.{rolls-Binary, rolls-Call}
use Rattle.flat_expr.specs.declared.expr.FlatExpr.TheFolds.{fold-roll-FlatExpr}
use Rattle.tape_code.specs.declared.instruction.RealFunction.{RealFunction}
use Rattle.tape_code.specs.declared.instruction.Instruction.{Instruction}
use Rattle.tape_code.specs.declared.instruction.Instruction.TheVariants as i
use Rattle.tape_code.specs.Code.{Compiled, compiled_at, compiled, code_of, binary_instruction, is_power, real_function_of}

compiled_binary : (op : BinaryOperator) (k : ValueType) (a b : FlatExpr) → compiled (e.Binary op k a b) ≡ compiled_at (FlatExpr-F.Binary op k (compiled a) (compiled b))
compiled_binary op k a b = ap compiled (sym (rolls-Binary op k a b)) ∙ fold-roll-FlatExpr Compiled compiled_at (FlatExpr-F.Binary op k a b)

compiled_call : (f : Function) (a : FlatExpr) → compiled (e.Call f a) ≡ compiled_at (FlatExpr-F.Call f (compiled a))
compiled_call f a = ap compiled (sym (rolls-Call f a)) ∙ fold-roll-FlatExpr Compiled compiled_at (FlatExpr-F.Call f a)

code_of_binary : (op : BinaryOperator) (k : ValueType) (a b : FlatExpr) → is_power op ≡ false
    → code_of (e.Binary op k a b) ≡ code_of a ++ code_of b ++ binary_instruction op (length (code_of b)) ∷ []
code_of_binary op k a b h = ap (λ (c : Compiled). c.code) (compiled_binary op k a b) ∙ rw h refl

code_of_call : (f : Function) (g : RealFunction) (a : FlatExpr) → real_function_of f ≡ Some g → code_of (e.Call f a) ≡ code_of a ++ i.Function g ∷ []
code_of_call f g a h = ap (λ (c : Compiled). c.code) (compiled_call f a) ∙ rw h refl

-- the operands' instructions, and then the operator's
pub binary_appended : (op : BinaryOperator) (k : ValueType) (whole a b : FlatExpr) (start left all : List Instruction) (right : ℕ) → whole ≡ e.Binary op k a b → is_power op ≡ false
    → left ≡ start ++ code_of a → all ≡ left ++ code_of b → right ≡ length all - length left
    → all ++ binary_instruction op right ∷ [] ≡ start ++ code_of whole
binary_appended op k whole a b start left all right is not_power on_left on_right size =
    let lengths : right ≡ length (code_of b) = size ∙ both on_right in
    let own : code_of whole ≡ code_of a ++ code_of b ++ binary_instruction op (length (code_of b)) ∷ [] = ap code_of is ∙ code_of_binary op k a b not_power in
    let last : binary_instruction op right ≡ binary_instruction op (length (code_of b)) = ap (binary_instruction op) lengths in
    rw (own, last, on_right, on_left) (simp append_assoc)
  where
    both : all ≡ left ++ code_of b → length all - length left ≡ length (code_of b)
    both h = rw h (simp length-append (omega arith))

pub call_appended : (f : Function) (g : RealFunction) (whole a : FlatExpr) (start all : List Instruction) → whole ≡ e.Call f a → real_function_of f ≡ Some g → all ≡ start ++ code_of a
    → all ++ i.Function g ∷ [] ≡ start ++ code_of whole
call_appended f g whole a start all is known on =
    let own : code_of whole ≡ code_of a ++ i.Function g ∷ [] = ap code_of is ∙ code_of_call f g a known in
    rw (own, on) (simp append_assoc)
