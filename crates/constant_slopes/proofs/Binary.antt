-- What is known of an operator with two operands holds.
use Rattle.std.proofs.Common.{◌≡◌, ℕ, Bool, true, false, ℤ, pos, Option, Some, None, Result, Ok, Err, refl, sym, ◌∙◌, ap, subst}
use Rattle.std.specs.Prelude.{if◌then◌else◌}
use Rattle.fix_core.specs.declared.NumFault.{NumFault}
use Rattle.fix_core.specs.Passes.{and_then, ◌>>=◌}
use Rattle.fix_core.specs.Fixed.{sum_of, difference_of, product_of, quotient_of}
use Rattle.ams_value.specs.declared.val.Val.{Val}
use Rattle.ams_value.specs.declared.val.Val.TheVariants as val
use Rattle.ams_value.specs.declared.op.BinaryOperator.{BinaryOperator}
use Rattle.ams_value.specs.declared.op.BinaryOperator.TheVariants as binary
use Rattle.ams_value.specs.declared.value_type.ValueType.{ValueType}
use Rattle.ams_value.specs.Values.{decided_by, units_of}
use Rattle.flat_expr.specs.declared.expr.Unknown.{Unknown}
use Rattle.flat_expr.specs.declared.expr.FlatExpr.TheOpen.{FlatExpr-F}
use Rattle.design_meaning.specs.declared.fault.EvalFault.{EvalFault}
use Rattle.design_meaning.specs.Readings.{Readings}
use Rattle.design_meaning.specs.Value.{Meaning, meaning_at, value_at, binary_slope, number_of}
use Rattle.constant_slopes.specs.declared.known.Known.{Known}
use Rattle.constant_slopes.specs.Constant.{with_two, is_zero, product_known, quotient_known, binary_known, sloped}
use Rattle.constant_slopes.proofs.Zeros.{zero_is, times_zero, zero_times, zero_sum}
use Rattle.constant_slopes.proofs.Holds.{Holds, Two, Operands, two, operands, not_decided, multiply_gives, divide_gives, by_slope, alone_holds, none_known}

-- the slope of the whole, by those of its operands
abbrev whole_slope : BinaryOperator → Readings → Unknown → Result Val EvalFault → Meaning → Meaning → Result ℤ EvalFault
whole_slope op r u w m n = binary_slope op (number_of w) (number_of (m.value r)) (m.slope u r) (number_of (n.value r)) (n.slope u r) (n.value r)

-- by the values and the slopes of the operands
by_parts : (op : BinaryOperator) (r : Readings) (u : Unknown) (v x y : Val) (p q : ℤ) (w : Result Val EvalFault) (m n : Meaning) (z : ℤ) → w ≡ Ok v → m.value r ≡ Ok x → n.value r ≡ Ok y
    → m.slope u r ≡ Ok p → n.slope u r ≡ Ok q → binary_slope op (Ok (units_of v)) (Ok (units_of x)) (Ok p) (Ok (units_of y)) (Ok q) (Ok y) ≡ Ok z → whole_slope op r u w m n ≡ Ok z
by_parts op r u v x y p q w m n z a b c d e h =
    let s1 : binary_slope op (Ok (units_of v)) (Ok (units_of x)) (Ok p) (Ok (units_of y)) (n.slope u r) (Ok y) ≡ Ok z =
    subst (λ (t : Result ℤ EvalFault). binary_slope op (Ok (units_of v)) (Ok (units_of x)) (Ok p) (Ok (units_of y)) t (Ok y) ≡ Ok z) (sym e) h in
    let s2 : binary_slope op (Ok (units_of v)) (Ok (units_of x)) (m.slope u r) (Ok (units_of y)) (n.slope u r) (Ok y) ≡ Ok z =
    subst (λ (t : Result ℤ EvalFault). binary_slope op (Ok (units_of v)) (Ok (units_of x)) t (Ok (units_of y)) (n.slope u r) (Ok y) ≡ Ok z) (sym d) s1 in
    let s3 : binary_slope op (Ok (units_of v)) (Ok (units_of x)) (m.slope u r) (number_of (n.value r)) (n.slope u r) (n.value r) ≡ Ok z =
    subst (λ (t : Result Val EvalFault). binary_slope op (Ok (units_of v)) (Ok (units_of x)) (m.slope u r) (number_of t) (n.slope u r) t ≡ Ok z) (sym c) s2 in
    let s4 : binary_slope op (Ok (units_of v)) (number_of (m.value r)) (m.slope u r) (number_of (n.value r)) (n.slope u r) (n.value r) ≡ Ok z =
    subst (λ (t : Result Val EvalFault). binary_slope op (Ok (units_of v)) (number_of t) (m.slope u r) (number_of (n.value r)) (n.slope u r) (n.value r) ≡ Ok z) (sym b) s3 in
    subst (λ (t : Result Val EvalFault). binary_slope op (number_of t) (number_of (m.value r)) (m.slope u r) (number_of (n.value r)) (n.slope u r) (n.value r) ≡ Ok z) (sym a) s4

sum_holds : (r : Readings) (u : Unknown) (t : ValueType) (k l : Known) (m n : Meaning) → Holds r u k m → Holds r u l n
    → Holds r u (sloped (with_two sum_of k.slope l.slope)) (meaning_at (FlatExpr-F.Binary binary.Add t m n))
sum_holds r u t k l m n left right =
    by_slope r u (with_two sum_of k.slope l.slope) (meaning_at (FlatExpr-F.Binary binary.Add t m n)) (λ v z at h.
    let parts = operands binary.Add (m.value r) (n.value r) v (not_decided binary.Add (λ a. refl)) at in
    let own = two sum_of k.slope l.slope z h in
    by_parts binary.Add r u v parts.left parts.right own.left own.right (value_at (FlatExpr-F.Binary binary.Add t m n) r) m n z at parts.left_is parts.right_is
    (left.slope parts.left own.left parts.left_is own.left_is) (right.slope parts.right own.right parts.right_is own.right_is) (rw own.gives refl))

difference_holds : (r : Readings) (u : Unknown) (t : ValueType) (k l : Known) (m n : Meaning) → Holds r u k m → Holds r u l n
    → Holds r u (sloped (with_two difference_of k.slope l.slope)) (meaning_at (FlatExpr-F.Binary binary.Subtract t m n))
difference_holds r u t k l m n left right =
    by_slope r u (with_two difference_of k.slope l.slope) (meaning_at (FlatExpr-F.Binary binary.Subtract t m n)) (λ v z at h.
    let parts = operands binary.Subtract (m.value r) (n.value r) v (not_decided binary.Subtract (λ a. refl)) at in
    let own = two difference_of k.slope l.slope z h in
    by_parts binary.Subtract r u v parts.left parts.right own.left own.right (value_at (FlatExpr-F.Binary binary.Subtract t m n) r) m n z at parts.left_is parts.right_is
    (left.slope parts.left own.left parts.left_is own.left_is) (right.slope parts.right own.right parts.right_is own.right_is) (rw own.gives refl))

-- an operand whose number is known has the value of this number
same_number : (x : Val) (y : ℤ) (v : Result Val EvalFault) → v ≡ Ok x → v ≡ Ok (val.Real y) → x ≡ val.Real y
same_number x y v a b = let e : ◌≡◌ {A = Result Val EvalFault} (Ok x) (Ok (val.Real y)) = sym a ∙ b in cc

product_by : (r : Readings) (u : Unknown) (t : ValueType) (k l : Known) (m n : Meaning) (a b : Bool) (v : Val) (z : ℤ) → Holds r u k m → Holds r u l n → is_zero k.slope ≡ a → is_zero l.slope ≡ b
    → value_at (FlatExpr-F.Binary binary.Multiply t m n) r ≡ Ok v → Operands (m.value r) (n.value r)
    → (if a then (if b then Some (pos 0) else with_two sum_of (Some (pos 0)) (with_two product_of k.number l.slope))
    else (if b then with_two sum_of (with_two product_of k.slope l.number) (Some (pos 0)) else None)) ≡ Some z
    → whole_slope binary.Multiply r u (value_at (FlatExpr-F.Binary binary.Multiply t m n) r) m n ≡ Ok z
product_by r u t k l m n true true v z left right no_left no_right at parts h =
    let x = units_of parts.left in
    let y = units_of parts.right in
    let zero : pos 0 ≡ z = cc in
    by_parts binary.Multiply r u v parts.left parts.right (pos 0) (pos 0) (value_at (FlatExpr-F.Binary binary.Multiply t m n) r) m n z at parts.left_is parts.right_is
    (left.slope parts.left (pos 0) parts.left_is (zero_is k.slope no_left)) (right.slope parts.right (pos 0) parts.right_is (zero_is l.slope no_right))
    (multiply_gives (Ok (units_of v)) (Ok parts.right) x (pos 0) y (pos 0) (pos 0) (pos 0) z (zero_times y) (times_zero x) (zero_sum ∙ ap Ok zero))
product_by r u t k l m n true false v z left right no_left no_right at parts h =
    let outer = two sum_of (Some (pos 0)) (with_two product_of k.number l.slope) z h in
    let inner = two product_of k.number l.slope outer.right outer.right_is in
    let y = units_of parts.right in
    let known : parts.left ≡ val.Real inner.left = same_number parts.left inner.left (m.value r) parts.left_is (left.number inner.left inner.left_is) in
    let x_is : units_of parts.left ≡ inner.left = ap units_of known in
    let zero : pos 0 ≡ outer.left = let e = outer.left_is in cc in
    by_parts binary.Multiply r u v parts.left parts.right (pos 0) inner.right (value_at (FlatExpr-F.Binary binary.Multiply t m n) r) m n z at parts.left_is parts.right_is
    (left.slope parts.left (pos 0) parts.left_is (zero_is k.slope no_left)) (right.slope parts.right inner.right parts.right_is inner.right_is)
    (multiply_gives (Ok (units_of v)) (Ok parts.right) (units_of parts.left) (pos 0) y inner.right (pos 0) outer.right z (zero_times y)
    (ap (λ (j : ℤ). product_of j inner.right) x_is ∙ inner.gives) (ap (λ (j : ℤ). sum_of j outer.right) zero ∙ outer.gives))
product_by r u t k l m n false true v z left right no_left no_right at parts h =
    let outer = two sum_of (with_two product_of k.slope l.number) (Some (pos 0)) z h in
    let inner = two product_of k.slope l.number outer.left outer.left_is in
    let x = units_of parts.left in
    let known : parts.right ≡ val.Real inner.right = same_number parts.right inner.right (n.value r) parts.right_is (right.number inner.right inner.right_is) in
    let y_is : units_of parts.right ≡ inner.right = ap units_of known in
    let zero : pos 0 ≡ outer.right = let e = outer.right_is in cc in
    by_parts binary.Multiply r u v parts.left parts.right inner.left (pos 0) (value_at (FlatExpr-F.Binary binary.Multiply t m n) r) m n z at parts.left_is parts.right_is
    (left.slope parts.left inner.left parts.left_is inner.left_is) (right.slope parts.right (pos 0) parts.right_is (zero_is l.slope no_right))
    (multiply_gives (Ok (units_of v)) (Ok parts.right) x inner.left (units_of parts.right) (pos 0) outer.left (pos 0) z
    (ap (λ (j : ℤ). product_of inner.left j) y_is ∙ inner.gives) (times_zero x) (ap (λ (j : ℤ). sum_of outer.left j) zero ∙ outer.gives))
product_by r u t k l m n false false v z left right no_left no_right at parts h = none_known z _ h

product_holds : (r : Readings) (u : Unknown) (t : ValueType) (k l : Known) (m n : Meaning) → Holds r u k m → Holds r u l n
    → Holds r u (sloped (product_known k l)) (meaning_at (FlatExpr-F.Binary binary.Multiply t m n))
product_holds r u t k l m n left right =
    by_slope r u (product_known k l) (meaning_at (FlatExpr-F.Binary binary.Multiply t m n)) (λ v z at h.
    product_by r u t k l m n (is_zero k.slope) (is_zero l.slope) v z left right refl refl at (operands binary.Multiply (m.value r) (n.value r) v (not_decided binary.Multiply (λ a. refl)) at) h)

quotient_by : (r : Readings) (u : Unknown) (t : ValueType) (k l : Known) (m n : Meaning) (b : Bool) (v : Val) (z : ℤ) → Holds r u k m → Holds r u l n → is_zero l.slope ≡ b
    → value_at (FlatExpr-F.Binary binary.Divide t m n) r ≡ Ok v → Operands (m.value r) (n.value r)
    → (if b then with_two quotient_of (with_two difference_of k.slope (Some (pos 0))) l.number else None) ≡ Some z
    → whole_slope binary.Divide r u (value_at (FlatExpr-F.Binary binary.Divide t m n) r) m n ≡ Ok z
quotient_by r u t k l m n true v z left right no_right at parts h =
    let outer = two quotient_of (with_two difference_of k.slope (Some (pos 0))) l.number z h in
    let inner = two difference_of k.slope (Some (pos 0)) outer.left outer.left_is in
    let known : parts.right ≡ val.Real outer.right = same_number parts.right outer.right (n.value r) parts.right_is (right.number outer.right outer.right_is) in
    let y_is : units_of parts.right ≡ outer.right = ap units_of known in
    let zero : pos 0 ≡ inner.right = let e = inner.right_is in cc in
    by_parts binary.Divide r u v parts.left parts.right inner.left (pos 0) (value_at (FlatExpr-F.Binary binary.Divide t m n) r) m n z at parts.left_is parts.right_is
    (left.slope parts.left inner.left parts.left_is inner.left_is) (right.slope parts.right (pos 0) parts.right_is (zero_is l.slope no_right))
    (divide_gives (Ok parts.right) (Ok (units_of parts.left)) (units_of v) inner.left (units_of parts.right) (pos 0) (pos 0) outer.left z (times_zero (units_of v))
    (ap (λ (j : ℤ). difference_of inner.left j) zero ∙ inner.gives) (ap (λ (j : ℤ). quotient_of outer.left j) y_is ∙ outer.gives))
quotient_by r u t k l m n false v z left right no_right at parts h = none_known z _ h

quotient_holds : (r : Readings) (u : Unknown) (t : ValueType) (k l : Known) (m n : Meaning) → Holds r u k m → Holds r u l n
    → Holds r u (sloped (quotient_known k l)) (meaning_at (FlatExpr-F.Binary binary.Divide t m n))
quotient_holds r u t k l m n left right =
    by_slope r u (quotient_known k l) (meaning_at (FlatExpr-F.Binary binary.Divide t m n)) (λ v z at h.
    quotient_by r u t k l m n (is_zero l.slope) v z left right refl at (operands binary.Divide (m.value r) (n.value r) v (not_decided binary.Divide (λ a. refl)) at) h)

pub binary_holds : (r : Readings) (u : Unknown) (op : BinaryOperator) (t : ValueType) (k l : Known) (m n : Meaning) → Holds r u k m → Holds r u l n
    → Holds r u (sloped (binary_known op k l)) (meaning_at (FlatExpr-F.Binary op t m n))
binary_holds r u binary.Add t k l m n left right = sum_holds r u t k l m n left right
binary_holds r u binary.Subtract t k l m n left right = difference_holds r u t k l m n left right
binary_holds r u binary.Multiply t k l m n left right = product_holds r u t k l m n left right
binary_holds r u binary.Divide t k l m n left right = quotient_holds r u t k l m n left right
binary_holds r u binary.Power t k l m n left right = by_slope r u None (meaning_at (FlatExpr-F.Binary binary.Power t m n)) (λ v z at h. none_known z _ h)
binary_holds r u binary.And t k l m n left right = alone_holds r u (pos 0) (meaning_at (FlatExpr-F.Binary binary.And t m n)) refl
binary_holds r u binary.Or t k l m n left right = alone_holds r u (pos 0) (meaning_at (FlatExpr-F.Binary binary.Or t m n)) refl
binary_holds r u binary.Nand t k l m n left right = alone_holds r u (pos 0) (meaning_at (FlatExpr-F.Binary binary.Nand t m n)) refl
binary_holds r u binary.Nor t k l m n left right = alone_holds r u (pos 0) (meaning_at (FlatExpr-F.Binary binary.Nor t m n)) refl
binary_holds r u binary.Xor t k l m n left right = alone_holds r u (pos 0) (meaning_at (FlatExpr-F.Binary binary.Xor t m n)) refl
binary_holds r u binary.Xnor t k l m n left right = alone_holds r u (pos 0) (meaning_at (FlatExpr-F.Binary binary.Xnor t m n)) refl
binary_holds r u binary.Equal t k l m n left right = alone_holds r u (pos 0) (meaning_at (FlatExpr-F.Binary binary.Equal t m n)) refl
binary_holds r u binary.NotEqual t k l m n left right = alone_holds r u (pos 0) (meaning_at (FlatExpr-F.Binary binary.NotEqual t m n)) refl
binary_holds r u binary.Less t k l m n left right = alone_holds r u (pos 0) (meaning_at (FlatExpr-F.Binary binary.Less t m n)) refl
binary_holds r u binary.LessEqual t k l m n left right = alone_holds r u (pos 0) (meaning_at (FlatExpr-F.Binary binary.LessEqual t m n)) refl
binary_holds r u binary.Greater t k l m n left right = alone_holds r u (pos 0) (meaning_at (FlatExpr-F.Binary binary.Greater t m n)) refl
binary_holds r u binary.GreaterEqual t k l m n left right = alone_holds r u (pos 0) (meaning_at (FlatExpr-F.Binary binary.GreaterEqual t m n)) refl
binary_holds r u binary.Sll t k l m n left right = alone_holds r u (pos 0) (meaning_at (FlatExpr-F.Binary binary.Sll t m n)) refl
binary_holds r u binary.Srl t k l m n left right = alone_holds r u (pos 0) (meaning_at (FlatExpr-F.Binary binary.Srl t m n)) refl
binary_holds r u binary.Sla t k l m n left right = alone_holds r u (pos 0) (meaning_at (FlatExpr-F.Binary binary.Sla t m n)) refl
binary_holds r u binary.Sra t k l m n left right = alone_holds r u (pos 0) (meaning_at (FlatExpr-F.Binary binary.Sra t m n)) refl
binary_holds r u binary.Rol t k l m n left right = alone_holds r u (pos 0) (meaning_at (FlatExpr-F.Binary binary.Rol t m n)) refl
binary_holds r u binary.Ror t k l m n left right = alone_holds r u (pos 0) (meaning_at (FlatExpr-F.Binary binary.Ror t m n)) refl
binary_holds r u binary.Concat t k l m n left right = alone_holds r u (pos 0) (meaning_at (FlatExpr-F.Binary binary.Concat t m n)) refl
binary_holds r u binary.Mod t k l m n left right = alone_holds r u (pos 0) (meaning_at (FlatExpr-F.Binary binary.Mod t m n)) refl
binary_holds r u binary.Rem t k l m n left right = alone_holds r u (pos 0) (meaning_at (FlatExpr-F.Binary binary.Rem t m n)) refl
