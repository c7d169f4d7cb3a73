-- What is known of an expression holds wherever it has a value.
use Rattle.std.proofs.Common.{◌≡◌, ℕ, zero, suc, Bool, true, false, ℤ, pos, negsuc, Option, Some, None, Result, Ok, Err, refl, sym, ◌∙◌, ap, subst}
use Rattle.std.specs.Prelude.{if◌then◌else◌, neg_ℤ, nat_eq}
use Rattle.fix_core.specs.declared.NumFault.{NumFault}
use Rattle.fix_core.specs.Units.{one}
use Rattle.fix_core.specs.Passes.{and_then, ◌>>=◌}
use Rattle.fix_core.specs.Fixed.{ranged, sum_of, difference_of, product_of, quotient_of}
use Rattle.math_fix.specs.Functions.{sin_of, cos_of}
use Rattle.ams_value.specs.declared.val.Val.{Val}
use Rattle.ams_value.specs.declared.val.Val.TheVariants as val
use Rattle.ams_value.specs.declared.op.UnaryOperator.{UnaryOperator}
use Rattle.ams_value.specs.declared.op.UnaryOperator.TheVariants as unary
use Rattle.ams_value.specs.declared.op.BinaryOperator.{BinaryOperator}
use Rattle.ams_value.specs.declared.op.BinaryOperator.TheVariants as binary
use Rattle.ams_value.specs.declared.value_type.ValueType.{ValueType}
use Rattle.ams_value.specs.Values.{unary_of, negated, binary_of, decided_by, decided_truth, same_kind, units_of}
use Rattle.flat_expr.specs.declared.expr.Function.{Function}
use Rattle.flat_expr.specs.declared.expr.Function.TheVariants as function
use Rattle.flat_expr.specs.declared.expr.Unknown.{Unknown}
use Rattle.flat_expr.specs.declared.expr.FlatExpr.TheOpen.{FlatExpr-F}
use Rattle.design_meaning.specs.declared.fault.EvalFault.{EvalFault}
use Rattle.design_meaning.specs.Faults.{numeric, operated}
use Rattle.design_meaning.specs.Readings.{Readings}
use Rattle.design_meaning.specs.Value.{Meaning, meaning_at, value_at, unless_decided, called, unary_slope, binary_slope, called_slope, number_of, is_negative}
use Rattle.constant_slopes.specs.declared.known.Known.{Known}
use Rattle.constant_slopes.specs.Constant.{literal_number, found, with_two, negative, is_zero, zero_only, unary_known, product_known, quotient_known, binary_known, call_known, sloped, known_at}
use Rattle.constant_slopes.proofs.Zeros.{zero_is, times_zero, zero_times, zero_sum}

-- where a step gives a value, what it follows from has one
pub record Before (A B : Type 0) (m : Result A EvalFault) (f : A → Result B EvalFault) (b : B) : Type 0 where
  pub from : A
  pub is : m ≡ Ok from
  pub gives : f from ≡ Ok b

before : {A B : Type 0} (m : Result A EvalFault) (f : A → Result B EvalFault) (b : B) → and_then f m ≡ Ok b → Before A B m f b
before (Ok a) f b h = record { from = a; is = refl; gives = h }
before (Err e) f b h = absurd (cc)

pub record Holds (r : Readings) (u : Unknown) (k : Known) (m : Meaning) : Type 0 where
  pub number : (x : ℤ) → k.number ≡ Some x → m.value r ≡ Ok (val.Real x)
  pub slope : (v : Val) (z : ℤ) → m.value r ≡ Ok v → k.slope ≡ Some z → m.slope u r ≡ Ok z

-- ---- parts that have no operand

literal_real : (v : Val) (x : ℤ) → literal_number v ≡ Some x → v ≡ val.Real x
literal_real (val.Real y) x h = cc
literal_real _ x h = absurd (cc)

same_slope : (s z : ℤ) → ◌≡◌ {A = Option ℤ} (Some s) (Some z) → ◌≡◌ {A = Result ℤ EvalFault} (Ok s) (Ok z)
same_slope s z h = cc

pub none_known : (x : ℤ) (A : Type 0) → ◌≡◌ {A = Option ℤ} None (Some x) → A
none_known x A h = absurd (cc)

pub literal_holds : (r : Readings) (u : Unknown) (v : Val) → Holds r u (known_at u (FlatExpr-F.Literal v)) (meaning_at (FlatExpr-F.Literal v))
literal_holds r u v = record { number = λ x h. ap Ok (literal_real v x h); slope = λ w z is h. same_slope (pos 0) z h }

-- a part whose slope is this one wherever it stands
pub alone_holds : (r : Readings) (u : Unknown) (s : ℤ) (m : Meaning) → m.slope u r ≡ Ok s → Holds r u (sloped (Some s)) m
alone_holds r u s m is = record { number = λ x h. none_known x _ h; slope = λ v z at h. is ∙ same_slope s z h }

-- a part whose number isn't known
pub by_slope : (r : Readings) (u : Unknown) (s : Option ℤ) (m : Meaning) → ((v : Val) (z : ℤ) → m.value r ≡ Ok v → s ≡ Some z → m.slope u r ≡ Ok z) → Holds r u (sloped s) m
by_slope r u s m h = record { number = λ x e. none_known x _ e; slope = h }

-- ---- one operand

zero_only_is : (s : Option ℤ) (t : Bool) (z : ℤ) → is_zero s ≡ t → (if t then Some (pos 0) else None) ≡ Some z → (s ≡ Some (pos 0)) × (pos 0 ≡ z)
zero_only_is s true z is h = (zero_is s is, cc)
zero_only_is s false z is h = absurd (cc)

zero_known : (s : Option ℤ) (z : ℤ) → zero_only s ≡ Some z → (s ≡ Some (pos 0)) × (pos 0 ≡ z)
zero_known s z h = zero_only_is s (is_zero s) z refl h

absolute_zero : (t : Bool) → (if t then neg_ℤ (pos 0) else pos 0) ≡ pos 0
absolute_zero true = refl
absolute_zero false = refl

negative_slope : (s : Option ℤ) (z : ℤ) → negative s ≡ Some z → (d : ℤ) × ((s ≡ Some d) × (neg_ℤ d ≡ z))
negative_slope (Some d) z h = (d, (refl, cc))
negative_slope None z h = absurd (cc)

pub unary_holds : (r : Readings) (u : Unknown) (op : UnaryOperator) (t : ValueType) (k : Known) (m : Meaning) → Holds r u k m
    → Holds r u (unary_known op k) (meaning_at (FlatExpr-F.Unary op t m))
unfolding unary_of negated
unary_holds r u unary.Minus t k m part =
    record {
      number = λ x h. let from = negative_slope k.number x h in rw (part.number from.0 from.1.0, from.1.1) refl;
      slope = λ v z at h.
          let from = negative_slope k.slope z h in
          let inner = before (m.value r) (λ x. operated (unary_of unary.Minus x)) v at in
          rw (part.slope inner.from from.0 inner.is from.1.0, from.1.1) refl;
    }
unary_holds r u unary.Abs t k m part =
    by_slope r u (zero_only k.slope) (meaning_at (FlatExpr-F.Unary unary.Abs t m)) (λ v z at h.
    let from = zero_known k.slope z h in
    let inner = before (m.value r) (λ x. operated (unary_of unary.Abs x)) v at in
    rw (part.slope inner.from (pos 0) inner.is from.0, inner.is) (ap Ok (absolute_zero (is_negative (units_of inner.from)) ∙ from.1)))
unary_holds r u unary.Plus t k m part =
    by_slope r u k.slope (meaning_at (FlatExpr-F.Unary unary.Plus t m)) (λ v z at h.
    let inner = before (m.value r) (λ x. operated (unary_of unary.Plus x)) v at in
    rw (part.slope inner.from z inner.is h) refl)
unary_holds r u unary.Not t k m part =
    by_slope r u k.slope (meaning_at (FlatExpr-F.Unary unary.Not t m)) (λ v z at h.
    let inner = before (m.value r) (λ x. operated (unary_of unary.Not x)) v at in
    rw (part.slope inner.from z inner.is h) refl)

-- ---- calls

pub call_holds : (r : Readings) (u : Unknown) (f : Function) (k : Known) (m : Meaning) → Holds r u k m → Holds r u (sloped (call_known f k)) (meaning_at (FlatExpr-F.Call f m))
call_holds r u function.Exp k m part =
    by_slope r u (zero_only k.slope) (meaning_at (FlatExpr-F.Call function.Exp m)) (λ v z at h.
    let from = zero_known k.slope z h in
    let inner = before (m.value r) (called function.Exp) v at in
    rw (at, part.slope inner.from (pos 0) inner.is from.0, times_zero (units_of v)) (ap Ok from.1))
call_holds r u function.Sin k m part =
    by_slope r u (zero_only k.slope) (meaning_at (FlatExpr-F.Call function.Sin m)) (λ v z at h.
    let from = zero_known k.slope z h in
    let inner = before (m.value r) (called function.Sin) v at in
    rw (inner.is, part.slope inner.from (pos 0) inner.is from.0, times_zero (cos_of (units_of inner.from))) (ap Ok from.1))
call_holds r u function.Cos k m part =
    by_slope r u (zero_only k.slope) (meaning_at (FlatExpr-F.Call function.Cos m)) (λ v z at h.
    let from = zero_known k.slope z h in
    let inner = before (m.value r) (called function.Cos) v at in
    rw (inner.is, part.slope inner.from (pos 0) inner.is from.0, times_zero (sin_of (units_of inner.from))) (ap Ok from.1))
call_holds r u function.Sqrt k m part = by_slope r u None (meaning_at (FlatExpr-F.Call function.Sqrt m)) (λ v z at h. none_known z _ h)
call_holds r u function.Real k m part = alone_holds r u (pos 0) (meaning_at (FlatExpr-F.Call function.Real m)) refl
call_holds r u function.Integer k m part = alone_holds r u (pos 0) (meaning_at (FlatExpr-F.Call function.Integer m)) refl

-- ---- two operands

pub record Two (f : ℤ → ℤ → Result ℤ NumFault) (s t : Option ℤ) (z : ℤ) : Type 0 where
  pub left : ℤ
  pub right : ℤ
  pub left_is : s ≡ Some left
  pub right_is : t ≡ Some right
  pub gives : f left right ≡ Ok z

found_is : (m : Result ℤ NumFault) (z : ℤ) → found m ≡ Some z → m ≡ Ok z
found_is (Ok x) z h = cc
found_is (Err e) z h = absurd (cc)

pub two : (f : ℤ → ℤ → Result ℤ NumFault) (s t : Option ℤ) (z : ℤ) → with_two f s t ≡ Some z → Two f s t z
two f (Some p) (Some q) z h = record { left = p; right = q; left_is = refl; right_is = refl; gives = found_is (f p q) z h }
two f (Some p) None z h = absurd (cc)
two f None t z h = absurd (cc)

pub record Operands (m n : Result Val EvalFault) : Type 0 where
  pub left : Val
  pub right : Val
  pub left_is : m ≡ Ok left
  pub right_is : n ≡ Ok right

pub operands : (op : BinaryOperator) (m n : Result Val EvalFault) (v : Val) → ((x : Val) → decided_by op x ≡ None)
    → and_then (λ x. unless_decided (decided_by op x) (λ left. and_then (λ y. operated (binary_of op left y)) n) x) m ≡ Ok v → Operands m n
operands op (Ok x) (Ok y) v undecided h = record { left = x; right = y; left_is = refl; right_is = refl }
operands op (Ok x) (Err e) v undecided h =
    let none : unless_decided None (λ left. and_then (λ y. operated (binary_of op left y)) (Err e)) x ≡ Ok v =
    subst (λ (d : Option Val). unless_decided d (λ left. and_then (λ y. operated (binary_of op left y)) (Err e)) x ≡ Ok v) (undecided x) h in
    absurd (cc)
operands op (Err e) n v undecided h = absurd (cc)

pub not_decided : (op : BinaryOperator) → ((a : Bool) → decided_truth op a ≡ None) → (x : Val) → decided_by op x ≡ None
unfolding decided_by
not_decided op undecided (val.Bool a) = ap (same_kind val.Bool) (undecided a)
not_decided op undecided (val.Bit a) = ap (same_kind val.Bit) (undecided a)
not_decided op undecided (val.Int n) = refl
not_decided op undecided (val.Real x) = refl
not_decided op undecided (val.Time t) = refl
not_decided op undecided (val.Enum n p) = refl
not_decided op undecided (val.Bits n p) = refl

-- the slopes of products and quotients, step by step
pub multiply_gives : (w : Result ℤ EvalFault) (n : Result Val EvalFault) (x p y q first second z : ℤ) → product_of p y ≡ Ok first → product_of x q ≡ Ok second → sum_of first second ≡ Ok z
    → binary_slope binary.Multiply w (Ok x) (Ok p) (Ok y) (Ok q) n ≡ Ok z
multiply_gives w n x p y q first second z a b c = rw (a, b, c) refl

pub divide_gives : (n : Result Val EvalFault) (a : Result ℤ EvalFault) (w p y q loss top z : ℤ) → product_of w q ≡ Ok loss → difference_of p loss ≡ Ok top → quotient_of top y ≡ Ok z
    → binary_slope binary.Divide (Ok w) a (Ok p) (Ok y) (Ok q) n ≡ Ok z
divide_gives n a w p y q loss top z b c d = rw (b, c, d) refl
