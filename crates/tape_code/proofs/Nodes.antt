-- Each kind of expression agrees with its instructions.
use Rattle.std.proofs.Common.{◌≡◌, ◌<◌, ◌≤◌, ◌+◌, ◌-◌, ℕ, zero, suc, ℤ, pos, negsuc, Bool, true, false, Option, Some, None, List, [], ◌∷◌, ◌++◌, length, get_or, Result, Ok, Err, refl, sym, ◌∙◌, ap, subst, arith, append_assoc}
use Rattle.std.specs.Prelude.{nat_lt, nat_le, if◌then◌else◌}
use Rattle.fix_core.specs.declared.NumFault.{NumFault}
use Rattle.fix_core.specs.Passes.{and_then, ◌>>=◌}
use Rattle.fix_core.specs.Fixed.{ranged}
use Rattle.ams_value.specs.declared.val.Val.{Val}
use Rattle.ams_value.specs.declared.val.Val.TheVariants as val
use Rattle.ams_value.specs.declared.op.UnaryOperator.{UnaryOperator}
use Rattle.ams_value.specs.declared.op.UnaryOperator.TheVariants as unary
use Rattle.ams_value.specs.declared.op.BinaryOperator.{BinaryOperator}
use Rattle.ams_value.specs.declared.op.BinaryOperator.TheVariants as binary
use Rattle.ams_value.specs.declared.value_type.ValueType.{ValueType}
use Rattle.ams_value.specs.Ranges.{most_exponent}
use Rattle.ams_value.specs.Values.{unary_of, binary_of, real_of, real_powers, units_of, decided_by}
use Rattle.flat_expr.specs.declared.expr.SignalName.{SignalName}
use Rattle.flat_expr.specs.declared.expr.Function.{Function}
use Rattle.flat_expr.specs.declared.expr.Function.TheVariants as function
use Rattle.flat_expr.specs.declared.expr.Unknown.{Unknown}
use Rattle.flat_expr.specs.declared.expr.FlatExpr.TheOpen.{FlatExpr-F}
use Rattle.design_meaning.specs.declared.fault.EvalFault.{EvalFault}
use Rattle.design_meaning.specs.Faults.{numeric, operated}
use Rattle.design_meaning.specs.Readings.{Readings, seen_of, unknown_of}
use Rattle.design_meaning.specs.Value.{Meaning, meaning_at, number_of, value_at, slope_at, called, unary_slope, binary_slope, power_slope, called_slope}
use Rattle.tape_code.specs.declared.instruction.RealFunction.{RealFunction}
use Rattle.tape_code.specs.declared.instruction.RealOperator.{RealOperator}
use Rattle.tape_code.specs.declared.instruction.Instruction.{Instruction}
use Rattle.tape_code.specs.declared.instruction.Instruction.TheVariants as i
use Rattle.tape_code.specs.Code.{Compiled, compiled_at, literal_instruction, literal_integer, unary_instruction, binary_instruction, power_instruction, is_power, binary_code, conversion, real_function_of, call_by, call_code, no_integer}
use Rattle.tape_code.specs.Steps.{earlier, number_step, slope_step, function_number, function_slope, operator_number, operator_slope, real_number}
use Rattle.tape_code.proofs.Values.{unary_gives, unary_rises, call_gives, call_rises, value_by, binary_gives, binary_rises, power_gives}
use Rattle.tape_code.proofs.Sound.{Agrees, earlier_is, other_fails, no_number, leaf, one_operand, two_operands}

-- an instruction that gives no number
nothing : (r : Readings) (u : Unknown) (whole : Option ℤ) (m : Meaning) → ((n : ℤ) → whole ≡ Some n → m.value r ≡ Ok (val.Int n)) → Agrees r u (record { code = i.Other ∷ []; integer = whole }) m
nothing r u whole m integer =
    leaf r u i.Other whole m integer
    (λ numbers k z h. absurd (other_fails r numbers k i.Other z refl h))
    (λ numbers slopes k v z h e. absurd (other_fails r numbers k i.Other v refl h))

pub literal_agrees : (r : Readings) (u : Unknown) (v : Val) → Agrees r u (compiled_at (FlatExpr-F.Literal v)) (meaning_at (FlatExpr-F.Literal v))
literal_agrees r u (val.Real x) =
    leaf r u (i.Literal x) None (meaning_at (FlatExpr-F.Literal (val.Real x))) (λ n h. no_number n h) (λ numbers k z h. (cc)) (λ numbers slopes k v z h e. e)
literal_agrees r u (val.Int n) = nothing r u (Some n) (meaning_at (FlatExpr-F.Literal (val.Int n))) (λ j h. (cc))
literal_agrees r u (val.Bool b) = nothing r u None (meaning_at (FlatExpr-F.Literal (val.Bool b))) (λ j h. no_number j h)
literal_agrees r u (val.Bit b) = nothing r u None (meaning_at (FlatExpr-F.Literal (val.Bit b))) (λ j h. no_number j h)
literal_agrees r u (val.Time t) = nothing r u None (meaning_at (FlatExpr-F.Literal (val.Time t))) (λ j h. no_number j h)
literal_agrees r u (val.Enum n p) = nothing r u None (meaning_at (FlatExpr-F.Literal (val.Enum n p))) (λ j h. no_number j h)
literal_agrees r u (val.Bits n p) = nothing r u None (meaning_at (FlatExpr-F.Literal (val.Bits n p))) (λ j h. no_number j h)

seen_real : (v : Val) (z : ℤ) → real_number v ≡ Ok z → v ≡ val.Real z
seen_real (val.Real x) z h = cc
seen_real _ z h = absurd (cc)

pub signal_agrees : (r : Readings) (u : Unknown) (s : SignalName) (k : ValueType) → Agrees r u (compiled_at (FlatExpr-F.Signal s k)) (meaning_at (FlatExpr-F.Signal s k))
signal_agrees r u s t =
    leaf r u (i.Signal s) None (meaning_at (FlatExpr-F.Signal s t)) (λ n h. no_number n h)
    (λ numbers k z h. ap Ok (seen_real (seen_of r s).value z h)) (λ numbers slopes k v z h e. e)

as_real : (m : Result ℤ EvalFault) (z : ℤ) → m ≡ Ok z → and_then (λ x. Ok (val.Real x)) m ≡ Ok (val.Real z)
as_real (Ok x) z h = cc
as_real (Err e) z h = absurd (cc)

pub unknown_agrees : (r : Readings) (u v : Unknown) → Agrees r u (compiled_at (FlatExpr-F.Unknown v)) (meaning_at (FlatExpr-F.Unknown v))
unknown_agrees r u v =
    leaf r u (i.Unknown v) None (meaning_at (FlatExpr-F.Unknown v)) (λ n h. no_number n h)
    (λ numbers k z h. as_real (numeric (ranged (unknown_of r v))) z h) (λ numbers slopes k x z h e. e)

pub now_agrees : (r : Readings) (u : Unknown) → Agrees r u (compiled_at FlatExpr-F.NowReal) (meaning_at FlatExpr-F.NowReal)
now_agrees r u =
    leaf r u i.Now None (meaning_at FlatExpr-F.NowReal) (λ n h. no_number n h) (λ numbers k z h. (cc)) (λ numbers slopes k x z h e. e)

pub other_agrees : (r : Readings) (u : Unknown) (m : Meaning) → Agrees r u (no_integer (i.Other ∷ [])) m
other_agrees r u m = nothing r u None m (λ n h. no_number n h)

-- ---- one operand

-- a function of the number before it
function_at : (r : Readings) (x : Instruction) (f : RealFunction) (numbers : List ℤ) (k q : ℕ) (v : ℤ) → x ≡ i.Function f → q + 1 ≡ k → number_step r x numbers k ≡ Ok v
    → function_number f (get_or numbers q (pos 0)) ≡ Ok v
function_at r x f numbers k q v is behind h =
    let step : function_number f (earlier numbers k 0) ≡ Ok v = subst (λ (y : Instruction). number_step r y numbers k ≡ Ok v) is h in
    subst (λ (y : ℤ). function_number f y ≡ Ok v) (earlier_is numbers k 0 q (omega arith)) step

function_rises_at : (u : Unknown) (x : Instruction) (f : RealFunction) (numbers slopes : List ℤ) (k q : ℕ) (z : ℤ) → x ≡ i.Function f → q + 1 ≡ k
    → slope_step u x numbers slopes k ≡ Ok z → function_slope f (get_or numbers k (pos 0)) (get_or numbers q (pos 0)) (get_or slopes q (pos 0)) ≡ Ok z
function_rises_at u x f numbers slopes k q z is behind h =
    let step : function_slope f (get_or numbers k (pos 0)) (earlier numbers k 0) (earlier slopes k 0) ≡ Ok z = subst (λ (y : Instruction). slope_step u y numbers slopes k ≡ Ok z) is h in
    let first : function_slope f (get_or numbers k (pos 0)) (get_or numbers q (pos 0)) (earlier slopes k 0) ≡ Ok z =
    subst (λ (y : ℤ). function_slope f (get_or numbers k (pos 0)) y (earlier slopes k 0) ≡ Ok z) (earlier_is numbers k 0 q (omega arith)) step in
    subst (λ (y : ℤ). function_slope f (get_or numbers k (pos 0)) (get_or numbers q (pos 0)) y ≡ Ok z) (earlier_is slopes k 0 q (omega arith)) first

-- what one operand gives, and what follows from it
then_value : (m : Result Val EvalFault) (x : Val) (f : Val → Result Val EvalFault) (w : Result Val EvalFault) → m ≡ Ok x → f x ≡ w → and_then f m ≡ w
then_value m x f w is h = subst (λ (y : Result Val EvalFault). and_then f y ≡ w) (sym is) h

unary_with : (r : Readings) (u : Unknown) (op : UnaryOperator) (k : ValueType) (x : Instruction) (c : Compiled) (m : Meaning) → unary_instruction op ≡ x → Agrees r u c m
    → Agrees r u (no_integer (c.code ++ x ∷ [])) (meaning_at (FlatExpr-F.Unary op k m))
unary_with r u op t (i.Function f) c m is part =
    one_operand r u (i.Function f) c m (meaning_at (FlatExpr-F.Unary op t m)) part
    (λ numbers k q v behind here h.
    then_value (m.value r) (val.Real (get_or numbers q (pos 0))) (λ x. operated (unary_of op x)) (Ok (val.Real v)) here
    (unary_gives op f (get_or numbers q (pos 0)) v is (function_at r (i.Function f) f numbers k q v refl behind h)))
    (λ numbers slopes k q v z behind here rises same h e.
    rw (here, rises) (unary_rises op f (get_or numbers k (pos 0)) (get_or numbers q (pos 0)) (get_or slopes q (pos 0)) z is (function_rises_at u (i.Function f) f numbers slopes k q z refl behind e)))
unary_with r u op t i.Other c m is part =
    one_operand r u i.Other c m (meaning_at (FlatExpr-F.Unary op t m)) part
    (λ numbers k q v behind here h. absurd (other_fails r numbers k i.Other v refl h))
    (λ numbers slopes k q v z behind here rises same h e. absurd (other_fails r numbers k i.Other v refl h))
unary_with r u unary.Plus t _ c m is part = absurd (cc)
unary_with r u unary.Minus t _ c m is part = absurd (cc)
unary_with r u unary.Abs t _ c m is part = absurd (cc)
unary_with r u unary.Not t _ c m is part = absurd (cc)

pub unary_agrees : (r : Readings) (u : Unknown) (op : UnaryOperator) (k : ValueType) (c : Compiled) (m : Meaning) → Agrees r u c m
    → Agrees r u (compiled_at (FlatExpr-F.Unary op k c)) (meaning_at (FlatExpr-F.Unary op k m))
unary_agrees r u op k c m part = unary_with r u op k (unary_instruction op) c m refl part

-- ---- calls

converted : (r : Readings) (u : Unknown) (f : Function) (n : Option ℤ) (m : Meaning) → ((j : ℤ) → n ≡ Some j → m.value r ≡ Ok (val.Int j))
    → Agrees r u (no_integer (conversion f n ∷ [])) (meaning_at (FlatExpr-F.Call f m))
converted r u function.Real (Some n) m is =
    leaf r u (i.Literal (real_of n)) None (meaning_at (FlatExpr-F.Call function.Real m)) (λ j h. no_number j h)
    (λ numbers k z h. then_value (m.value r) (val.Int n) (called function.Real) (Ok (val.Real z)) (is n refl) (cc))
    (λ numbers slopes k v z h e. e)
converted r u function.Real None m is = other_agrees r u (meaning_at (FlatExpr-F.Call function.Real m))
converted r u function.Integer n m is = other_agrees r u (meaning_at (FlatExpr-F.Call function.Integer m))
converted r u function.Exp n m is = other_agrees r u (meaning_at (FlatExpr-F.Call function.Exp m))
converted r u function.Sin n m is = other_agrees r u (meaning_at (FlatExpr-F.Call function.Sin m))
converted r u function.Cos n m is = other_agrees r u (meaning_at (FlatExpr-F.Call function.Cos m))
converted r u function.Sqrt n m is = other_agrees r u (meaning_at (FlatExpr-F.Call function.Sqrt m))

call_with : (r : Readings) (u : Unknown) (f : Function) (g : Option RealFunction) (c : Compiled) (m : Meaning) → real_function_of f ≡ g → Agrees r u c m
    → Agrees r u (no_integer (call_by g f c)) (meaning_at (FlatExpr-F.Call f m))
call_with r u f (Some g) c m is part =
    one_operand r u (i.Function g) c m (meaning_at (FlatExpr-F.Call f m)) part
    (λ numbers k q v behind here h.
    then_value (m.value r) (val.Real (get_or numbers q (pos 0))) (called f) (Ok (val.Real v)) here
    (call_gives f g (get_or numbers q (pos 0)) v is (function_at r (i.Function g) g numbers k q v refl behind h)))
    (λ numbers slopes k q v z behind here rises same h e.
    let whole : and_then (called f) (m.value r) ≡ Ok (val.Real (get_or numbers k (pos 0))) =
    then_value (m.value r) (val.Real (get_or numbers q (pos 0))) (called f) (Ok (val.Real (get_or numbers k (pos 0)))) here
    (call_gives f g (get_or numbers q (pos 0)) (get_or numbers k (pos 0)) is (subst (λ (y : ℤ). function_number g (get_or numbers q (pos 0)) ≡ Ok y) same (function_at r (i.Function g) g numbers k q v refl behind h))) in
    rw (whole, here, rises) (call_rises f g (get_or numbers k (pos 0)) (get_or numbers q (pos 0)) (get_or slopes q (pos 0)) z is (function_rises_at u (i.Function g) g numbers slopes k q z refl behind e)))
call_with r u f None c m is part = converted r u f c.integer m (λ j h. part.integer j h)

pub call_agrees : (r : Readings) (u : Unknown) (f : Function) (c : Compiled) (m : Meaning) → Agrees r u c m
    → Agrees r u (compiled_at (FlatExpr-F.Call f c)) (meaning_at (FlatExpr-F.Call f m))
call_agrees r u f c m part = call_with r u f (real_function_of f) c m refl part

-- ---- two operands

operator_at : (r : Readings) (o : RealOperator) (right : ℕ) (numbers : List ℤ) (k p q : ℕ) (v : ℤ) → p + 1 + right ≡ k → q + 1 ≡ k → number_step r (i.Operator o right) numbers k ≡ Ok v
    → operator_number o (get_or numbers p (pos 0)) (get_or numbers q (pos 0)) ≡ Ok v
operator_at r o right numbers k p q v left behind h =
    let first : operator_number o (get_or numbers p (pos 0)) (earlier numbers k 0) ≡ Ok v = subst (λ (y : ℤ). operator_number o y (earlier numbers k 0) ≡ Ok v) (earlier_is numbers k right p left) h in
    subst (λ (y : ℤ). operator_number o (get_or numbers p (pos 0)) y ≡ Ok v) (earlier_is numbers k 0 q (omega arith)) first

operator_rises_at : (u : Unknown) (o : RealOperator) (right : ℕ) (numbers slopes : List ℤ) (k p q : ℕ) (z : ℤ) → p + 1 + right ≡ k → q + 1 ≡ k
    → slope_step u (i.Operator o right) numbers slopes k ≡ Ok z
    → operator_slope o (get_or numbers k (pos 0)) (get_or numbers p (pos 0)) (get_or slopes p (pos 0)) (get_or numbers q (pos 0)) (get_or slopes q (pos 0)) ≡ Ok z
operator_rises_at u o right numbers slopes k p q z left behind h =
    let a = get_or numbers k (pos 0) in
    let first : operator_slope o a (get_or numbers p (pos 0)) (earlier slopes k right) (earlier numbers k 0) (earlier slopes k 0) ≡ Ok z =
    subst (λ (y : ℤ). operator_slope o a y (earlier slopes k right) (earlier numbers k 0) (earlier slopes k 0) ≡ Ok z) (earlier_is numbers k right p left) h in
    let second : operator_slope o a (get_or numbers p (pos 0)) (get_or slopes p (pos 0)) (earlier numbers k 0) (earlier slopes k 0) ≡ Ok z =
    subst (λ (y : ℤ). operator_slope o a (get_or numbers p (pos 0)) y (earlier numbers k 0) (earlier slopes k 0) ≡ Ok z) (earlier_is slopes k right p left) first in
    let third : operator_slope o a (get_or numbers p (pos 0)) (get_or slopes p (pos 0)) (get_or numbers q (pos 0)) (earlier slopes k 0) ≡ Ok z =
    subst (λ (y : ℤ). operator_slope o a (get_or numbers p (pos 0)) (get_or slopes p (pos 0)) y (earlier slopes k 0) ≡ Ok z) (earlier_is numbers k 0 q (omega arith)) second in
    subst (λ (y : ℤ). operator_slope o a (get_or numbers p (pos 0)) (get_or slopes p (pos 0)) (get_or numbers q (pos 0)) y ≡ Ok z) (earlier_is slopes k 0 q (omega arith)) third

-- the value of an operator, by those of its operands
by_operands : (op : BinaryOperator) (m n : Result Val EvalFault) (x y : Val) (w : Result Val EvalFault) → m ≡ Ok x → n ≡ Ok y → value_by op x (Ok y) ≡ w → and_then (λ a. value_by op a n) m ≡ w
by_operands op m n x y w is be h =
    let first : value_by op x n ≡ w = subst (λ (b : Result Val EvalFault). value_by op x b ≡ w) (sym be) h in
    then_value m x (λ a. value_by op a n) w is first

operator_agrees : (r : Readings) (u : Unknown) (op : BinaryOperator) (k : ValueType) (o : RealOperator) (c d : Compiled) (m n : Meaning) → binary_instruction op (length d.code) ≡ i.Operator o (length d.code)
    → Agrees r u c m → Agrees r u d n → Agrees r u (no_integer (c.code ++ d.code ++ i.Operator o (length d.code) ∷ [])) (meaning_at (FlatExpr-F.Binary op k m n))
operator_agrees r u op t o c d m n is left right =
    let size = length d.code in
    two_operands r u (i.Operator o size) c d m n (meaning_at (FlatExpr-F.Binary op t m n)) left right
    (λ numbers k p q v at behind x y h.
    by_operands op (m.value r) (n.value r) (val.Real (get_or numbers p (pos 0))) (val.Real (get_or numbers q (pos 0))) (Ok (val.Real v)) x y
    (binary_gives op size o size (get_or numbers p (pos 0)) (get_or numbers q (pos 0)) v is (operator_at r o size numbers k p q v at behind h)))
    (λ numbers slopes k p q v z at behind x y d e same h rises.
    let whole : and_then (λ a. value_by op a (n.value r)) (m.value r) ≡ Ok (val.Real (get_or numbers k (pos 0))) =
    by_operands op (m.value r) (n.value r) (val.Real (get_or numbers p (pos 0))) (val.Real (get_or numbers q (pos 0))) (Ok (val.Real (get_or numbers k (pos 0)))) x y
    (binary_gives op size o size (get_or numbers p (pos 0)) (get_or numbers q (pos 0)) (get_or numbers k (pos 0)) is
    (subst (λ (w : ℤ). operator_number o (get_or numbers p (pos 0)) (get_or numbers q (pos 0)) ≡ Ok w) same (operator_at r o size numbers k p q v at behind h))) in
    rw (whole, x, y, d, e) (binary_rises op size o size (get_or numbers k (pos 0)) (get_or numbers p (pos 0)) (get_or slopes p (pos 0)) (get_or numbers q (pos 0)) (get_or slopes q (pos 0)) z is
    (operator_rises_at u o size numbers slopes k p q z at behind rises)))

no_operator : (r : Readings) (u : Unknown) (c d : Compiled) (m n whole : Meaning) → Agrees r u c m → Agrees r u d n → Agrees r u (no_integer (c.code ++ d.code ++ i.Other ∷ [])) whole
no_operator r u c d m n whole left right =
    two_operands r u i.Other c d m n whole left right
    (λ numbers k p q v at behind x y h. absurd (other_fails r numbers k i.Other v refl h))
    (λ numbers slopes k p q v z at behind x y d e same h rises. absurd (other_fails r numbers k i.Other v refl h))

-- ---- powers

power_at : (r : Readings) (u : Unknown) (k : ValueType) (j : ℕ) (c : Compiled) (m n : Meaning) → nat_le j most_exponent ≡ true → n.value r ≡ Ok (val.Int (pos j))
    → Agrees r u c m → Agrees r u (no_integer (c.code ++ i.Power j ∷ [])) (meaning_at (FlatExpr-F.Binary binary.Power k m n))
power_at r u t j c m n fits exponent part =
    one_operand r u (i.Power j) c m (meaning_at (FlatExpr-F.Binary binary.Power t m n)) part
    (λ numbers k q v behind here h.
    let base = get_or numbers q (pos 0) in
    let step : numeric (real_powers base j) ≡ Ok v = subst (λ (y : ℤ). numeric (real_powers y j) ≡ Ok v) (earlier_is numbers k 0 q (omega arith)) h in
    by_operands binary.Power (m.value r) (n.value r) (val.Real base) (val.Int (pos j)) (Ok (val.Real v)) here exponent (power_gives j base v fits step))
    (λ numbers slopes k q v z behind here rises same h e.
    let base = get_or numbers q (pos 0) in
    let first : power_slope (Ok base) (Ok (earlier slopes k 0)) (val.Int (pos j)) ≡ Ok z = subst (λ (y : ℤ). power_slope (Ok y) (Ok (earlier slopes k 0)) (val.Int (pos j)) ≡ Ok z) (earlier_is numbers k 0 q (omega arith)) e in
    let second : power_slope (Ok base) (Ok (get_or slopes q (pos 0))) (val.Int (pos j)) ≡ Ok z = subst (λ (y : ℤ). power_slope (Ok base) (Ok y) (val.Int (pos j)) ≡ Ok z) (earlier_is slopes k 0 q (omega arith)) first in
    let third : power_slope (Ok base) (m.slope u r) (val.Int (pos j)) ≡ Ok z = subst (λ (y : Result ℤ EvalFault). power_slope (Ok base) y (val.Int (pos j)) ≡ Ok z) (sym rises) second in
    let fourth : power_slope (number_of (m.value r)) (m.slope u r) (val.Int (pos j)) ≡ Ok z =
    subst (λ (y : Result ℤ EvalFault). power_slope y (m.slope u r) (val.Int (pos j)) ≡ Ok z) (sym (ap number_of here)) third in
    rw exponent fourth)

pub no_power : (r : Readings) (u : Unknown) (c : Compiled) (m whole : Meaning) → Agrees r u c m → Agrees r u (no_integer (c.code ++ i.Other ∷ [])) whole
no_power r u c m whole part =
    one_operand r u i.Other c m whole part
    (λ numbers k q v behind here h. absurd (other_fails r numbers k i.Other v refl h))
    (λ numbers slopes k q v z behind here rises same h e. absurd (other_fails r numbers k i.Other v refl h))

power_choice : (r : Readings) (u : Unknown) (k : ValueType) (b : Bool) (j : ℕ) (c : Compiled) (m n : Meaning) → nat_le j most_exponent ≡ b → n.value r ≡ Ok (val.Int (pos j))
    → Agrees r u c m → Agrees r u (no_integer (c.code ++ (if b then i.Power j else i.Other) ∷ [])) (meaning_at (FlatExpr-F.Binary binary.Power k m n))
power_choice r u k true j c m n is exponent part = power_at r u k j c m n is exponent part
power_choice r u k false j c m n is exponent part = no_power r u c m (meaning_at (FlatExpr-F.Binary binary.Power k m n)) part

power_with : (r : Readings) (u : Unknown) (k : ValueType) (e : Option ℤ) (c : Compiled) (m n : Meaning) → ((j : ℤ) → e ≡ Some j → n.value r ≡ Ok (val.Int j))
    → Agrees r u c m → Agrees r u (no_integer (c.code ++ power_instruction e ∷ [])) (meaning_at (FlatExpr-F.Binary binary.Power k m n))
power_with r u k (Some (pos j)) c m n exponent part = power_choice r u k (nat_le j most_exponent) j c m n refl (exponent (pos j) refl) part
power_with r u k (Some (negsuc j)) c m n exponent part = no_power r u c m (meaning_at (FlatExpr-F.Binary binary.Power k m n)) part
power_with r u k None c m n exponent part = no_power r u c m (meaning_at (FlatExpr-F.Binary binary.Power k m n)) part

pub binary_agrees : (r : Readings) (u : Unknown) (op : BinaryOperator) (k : ValueType) (c d : Compiled) (m n : Meaning) → Agrees r u c m → Agrees r u d n
    → Agrees r u (compiled_at (FlatExpr-F.Binary op k c d)) (meaning_at (FlatExpr-F.Binary op k m n))
binary_agrees r u binary.Add k c d m n left right = operator_agrees r u binary.Add k _ c d m n refl left right
binary_agrees r u binary.Subtract k c d m n left right = operator_agrees r u binary.Subtract k _ c d m n refl left right
binary_agrees r u binary.Multiply k c d m n left right = operator_agrees r u binary.Multiply k _ c d m n refl left right
binary_agrees r u binary.Divide k c d m n left right = operator_agrees r u binary.Divide k _ c d m n refl left right
binary_agrees r u binary.Power k c d m n left right = power_with r u k d.integer c m n (λ j h. right.integer j h) left
binary_agrees r u binary.And k c d m n left right = no_operator r u c d m n (meaning_at (FlatExpr-F.Binary binary.And k m n)) left right
binary_agrees r u binary.Or k c d m n left right = no_operator r u c d m n (meaning_at (FlatExpr-F.Binary binary.Or k m n)) left right
binary_agrees r u binary.Nand k c d m n left right = no_operator r u c d m n (meaning_at (FlatExpr-F.Binary binary.Nand k m n)) left right
binary_agrees r u binary.Nor k c d m n left right = no_operator r u c d m n (meaning_at (FlatExpr-F.Binary binary.Nor k m n)) left right
binary_agrees r u binary.Xor k c d m n left right = no_operator r u c d m n (meaning_at (FlatExpr-F.Binary binary.Xor k m n)) left right
binary_agrees r u binary.Xnor k c d m n left right = no_operator r u c d m n (meaning_at (FlatExpr-F.Binary binary.Xnor k m n)) left right
binary_agrees r u binary.Equal k c d m n left right = no_operator r u c d m n (meaning_at (FlatExpr-F.Binary binary.Equal k m n)) left right
binary_agrees r u binary.NotEqual k c d m n left right = no_operator r u c d m n (meaning_at (FlatExpr-F.Binary binary.NotEqual k m n)) left right
binary_agrees r u binary.Less k c d m n left right = no_operator r u c d m n (meaning_at (FlatExpr-F.Binary binary.Less k m n)) left right
binary_agrees r u binary.LessEqual k c d m n left right = no_operator r u c d m n (meaning_at (FlatExpr-F.Binary binary.LessEqual k m n)) left right
binary_agrees r u binary.Greater k c d m n left right = no_operator r u c d m n (meaning_at (FlatExpr-F.Binary binary.Greater k m n)) left right
binary_agrees r u binary.GreaterEqual k c d m n left right = no_operator r u c d m n (meaning_at (FlatExpr-F.Binary binary.GreaterEqual k m n)) left right
binary_agrees r u binary.Sll k c d m n left right = no_operator r u c d m n (meaning_at (FlatExpr-F.Binary binary.Sll k m n)) left right
binary_agrees r u binary.Srl k c d m n left right = no_operator r u c d m n (meaning_at (FlatExpr-F.Binary binary.Srl k m n)) left right
binary_agrees r u binary.Sla k c d m n left right = no_operator r u c d m n (meaning_at (FlatExpr-F.Binary binary.Sla k m n)) left right
binary_agrees r u binary.Sra k c d m n left right = no_operator r u c d m n (meaning_at (FlatExpr-F.Binary binary.Sra k m n)) left right
binary_agrees r u binary.Rol k c d m n left right = no_operator r u c d m n (meaning_at (FlatExpr-F.Binary binary.Rol k m n)) left right
binary_agrees r u binary.Ror k c d m n left right = no_operator r u c d m n (meaning_at (FlatExpr-F.Binary binary.Ror k m n)) left right
binary_agrees r u binary.Concat k c d m n left right = no_operator r u c d m n (meaning_at (FlatExpr-F.Binary binary.Concat k m n)) left right
binary_agrees r u binary.Mod k c d m n left right = no_operator r u c d m n (meaning_at (FlatExpr-F.Binary binary.Mod k m n)) left right
binary_agrees r u binary.Rem k c d m n left right = no_operator r u c d m n (meaning_at (FlatExpr-F.Binary binary.Rem k m n)) left right
