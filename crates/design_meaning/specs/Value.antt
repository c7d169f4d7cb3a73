-- The value of an expression (IEEE 1076, clause 9) and its partial slopes (own). The left operand comes first, and the
-- first fault is the answer.
use Rattle.std.specs.Prelude.{ℕ, suc, ◌-◌, ◌/◌, ◌%◌, ◌^◌, nat_eq, nat_lt, Bool, false, ℤ, pos, negsuc, ◌+ℤ◌, ◌-ℤ◌, ◌*ℤ◌, neg_ℤ, int_lt, if◌then◌else◌, List, Option, Some, None, Result, Ok, Err}
use Rattle.fix_core.specs.Passes.{and_then, each, ◌>>=◌}
use Rattle.fix_core.specs.Units.{one}
use Rattle.fix_core.specs.Fixed.{ranged, sum_of, difference_of, product_of, quotient_of}
use Rattle.math_fix.specs.Functions.{exp_of, sin_of, cos_of, sqrt_of}
use Rattle.ams_value.specs.declared.val.Val.{Val}
use Rattle.ams_value.specs.declared.val.Val.TheVariants as val
use Rattle.ams_value.specs.declared.op.UnaryOperator.{UnaryOperator}
use Rattle.ams_value.specs.declared.op.UnaryOperator.TheVariants as unary
use Rattle.ams_value.specs.declared.op.BinaryOperator.{BinaryOperator}
use Rattle.ams_value.specs.declared.op.BinaryOperator.TheVariants as binary
use Rattle.ams_value.specs.Values.{unary_of, binary_of, decided_by, integer_of, real_of, real_powers, units_of}
use Rattle.flat_expr.specs.declared.expr.Direction.{Direction}
use Rattle.flat_expr.specs.declared.expr.Direction.TheVariants.{To, Downto}
use Rattle.flat_expr.specs.declared.expr.IndexRange.{IndexRange}
use Rattle.flat_expr.specs.declared.expr.Function.{Function}
use Rattle.flat_expr.specs.declared.expr.Function.TheVariants as function
use Rattle.flat_expr.specs.declared.expr.Unknown.{Unknown}
use Rattle.flat_expr.specs.declared.expr.Unknown.TheVariants as unknown
use Rattle.flat_expr.specs.declared.expr.FlatExpr.{FlatExpr}
use Rattle.flat_expr.specs.declared.expr.FlatExpr.TheOpen.{FlatExpr-F}
use Rattle.flat_expr.specs.declared.expr.FlatExpr.TheFolds.{fold-FlatExpr}
use Rattle.design_meaning.specs.declared.fault.EvalFault.{EvalFault}
use Rattle.design_meaning.specs.declared.fault.EvalFault.TheVariants.{Range}
use Rattle.design_meaning.specs.Faults.{numeric, operated}
use Rattle.design_meaning.specs.Readings.{Readings, seen_of, unknown_of, variable_of}

-- ---- the parts of a value

abbrev pub real : Result ℤ EvalFault → Result Val EvalFault
real x = and_then (λ r. Ok (val.Real r)) x

-- the answer that was decided, or what follows from the left operand
abbrev pub unless_decided : Option Val → (Val → Result Val EvalFault) → Val → Result Val EvalFault
unless_decided (Some v) further left = Ok v
unless_decided None further left = further left

-- a predefined function of a value
abbrev pub called : Function → Val → Result Val EvalFault
called function.Real (val.Int i) = Ok (val.Real (real_of i))
called function.Integer (val.Real r) = and_then (λ i. Ok (val.Int i)) (operated (integer_of r))
called function.Exp v = real (numeric (exp_of (units_of v)))
called function.Sin v = Ok (val.Real (sin_of (units_of v)))
called function.Cos v = Ok (val.Real (cos_of (units_of v)))
called function.Sqrt v = real (numeric (sqrt_of (units_of v)))
called _ v = Ok v

-- how many places an index stands behind the leftmost element
abbrev pub places_by : Direction → ℤ → ℤ → ℤ
places_by To left i = i -ℤ left
places_by Downto left i = left -ℤ i

-- the bit so many places behind the leftmost one; the leftmost is the highest of the content
abbrev pub bit_at : ℕ → ℕ → ℤ → Result Val EvalFault
bit_at length content (pos place) =
    if nat_lt place length then Ok (val.Bit (nat_eq (content / 2 ^ (length - 1 - place) % 2) 1)) else Err Range
bit_at length content (negsuc place) = Err Range

abbrev pub element : IndexRange → Val → Val → Result Val EvalFault
element range (val.Bits length content) (val.Int i) = bit_at length content (places_by range.direction (pos range.left) i)
element range _ _ = Err Range

-- ---- values and slopes together

-- what an expression means: its value, and its slope by an unknown
pub record Meaning : Type 0 where
  pub value : Readings → Result Val EvalFault
  pub slope : Unknown → Readings → Result ℤ EvalFault

abbrev pub value_at : FlatExpr-F Meaning → Readings → Result Val EvalFault
value_at (FlatExpr-F.Literal v) r = Ok v
value_at (FlatExpr-F.Signal s kind) r = Ok (seen_of r s).value
value_at (FlatExpr-F.Event s) r = Ok (val.Bool (seen_of r s).event)
-- a number that no REAL has is an overflow
value_at (FlatExpr-F.Unknown u) r = real (numeric (ranged (unknown_of r u)))
value_at (FlatExpr-F.Variable i kind) r = Ok (variable_of r i)
value_at FlatExpr-F.NowTime r = Ok (val.Time (pos r.now))
-- a tick is one unit of a second
value_at FlatExpr-F.NowReal r = Ok (val.Real (pos r.now))
value_at (FlatExpr-F.Unary op kind a) r = and_then (λ x. operated (unary_of op x)) (a.value r)
value_at (FlatExpr-F.Binary op kind a b) r =
    and_then (λ x. unless_decided (decided_by op x) (λ left. and_then (λ y. operated (binary_of op left y)) (b.value r)) x) (a.value r)
value_at (FlatExpr-F.Call f a) r = and_then (called f) (a.value r)
value_at (FlatExpr-F.Index a i range) r = and_then (λ v. and_then (element range v) (i.value r)) (a.value r)

-- the operations on slopes, with the faults of an expression
abbrev pub plus : ℤ → ℤ → Result ℤ EvalFault
plus a b = numeric (sum_of a b)

abbrev pub minus : ℤ → ℤ → Result ℤ EvalFault
minus a b = numeric (difference_of a b)

abbrev pub times : ℤ → ℤ → Result ℤ EvalFault
times a b = numeric (product_of a b)

abbrev pub over : ℤ → ℤ → Result ℤ EvalFault
over a b = numeric (quotient_of a b)

abbrev pub same_unknown : Unknown → Unknown → Bool
same_unknown (unknown.Quantity i) (unknown.Quantity j) = nat_eq i j
same_unknown (unknown.Reference i) (unknown.Reference j) = nat_eq i j
same_unknown (unknown.Dot i) (unknown.Dot j) = nat_eq i j
same_unknown _ _ = false

abbrev pub is_negative : ℤ → Bool
is_negative a = int_lt a (pos 0)

-- the slope of op a, of a with the slope d
abbrev pub unary_slope : UnaryOperator → Result ℤ EvalFault → ℤ → Result ℤ EvalFault
unary_slope unary.Minus a d = Ok (neg_ℤ d)
unary_slope unary.Abs a d = do
  x ← a
  Ok (if is_negative x then neg_ℤ d else d)
unary_slope _ a d = Ok d

-- the slope of a ** n, of a with the slope d
abbrev pub power_slope : Result ℤ EvalFault → Result ℤ EvalFault → Val → Result ℤ EvalFault
power_slope a d (val.Int (pos (suc k))) = do
  x ← a
  p ← numeric (real_powers x k)
  c ← times (pos (suc k) *ℤ one) p
  e ← d
  times c e
power_slope a d _ = Ok (pos 0)

-- the slope of a op b with the value v, of a and b with the slopes d and e. An operator whose result is no REAL has none
abbrev pub binary_slope : BinaryOperator → Result ℤ EvalFault → Result ℤ EvalFault → Result ℤ EvalFault → Result ℤ EvalFault → Result ℤ EvalFault → Result Val EvalFault → Result ℤ EvalFault
binary_slope binary.Add v a d b e n = do
  p ← d
  q ← e
  plus p q
binary_slope binary.Subtract v a d b e n = do
  p ← d
  q ← e
  minus p q
binary_slope binary.Multiply v a d b e n = do
  p ← d
  y ← b
  left ← times p y
  x ← a
  q ← e
  right ← times x q
  plus left right
binary_slope binary.Divide v a d b e n = do
  p ← d
  whole ← v
  q ← e
  m ← times whole q
  top ← minus p m
  y ← b
  over top y
binary_slope binary.Power v a d b e n = n >>= power_slope a d
binary_slope _ v a d b e n = Ok (pos 0)

-- the slope of a function of a with the value v, of a with the slope d
abbrev pub called_slope : Function → Result ℤ EvalFault → Result ℤ EvalFault → Result ℤ EvalFault → Result ℤ EvalFault
called_slope function.Exp v a d = do
  whole ← v
  p ← d
  times whole p
called_slope function.Sin v a d = do
  x ← a
  p ← d
  times (cos_of x) p
called_slope function.Cos v a d = do
  x ← a
  p ← d
  m ← times (sin_of x) p
  Ok (neg_ℤ m)
called_slope function.Sqrt v a d = do
  p ← d
  whole ← v
  m ← times (one +ℤ one) whole
  over p m
called_slope _ v a d = Ok (pos 0)

abbrev pub number_of : Result Val EvalFault → Result ℤ EvalFault
number_of x = do
  v ← x
  Ok (units_of v)

abbrev pub slope_at : FlatExpr-F Meaning → Unknown → Readings → Result ℤ EvalFault
slope_at (FlatExpr-F.Unknown other) u r = Ok (if same_unknown other u then one else pos 0)
slope_at (FlatExpr-F.Unary op kind a) u r = a.slope u r >>= unary_slope op (number_of (a.value r))
slope_at (FlatExpr-F.Binary op kind a b) u r =
    binary_slope op (number_of (value_at (FlatExpr-F.Binary op kind a b) r)) (number_of (a.value r)) (a.slope u r) (number_of (b.value r)) (b.slope u r) (b.value r)
slope_at (FlatExpr-F.Call f a) u r = called_slope f (number_of (value_at (FlatExpr-F.Call f a) r)) (number_of (a.value r)) (a.slope u r)
slope_at _ u r = Ok (pos 0)

abbrev pub meaning_at : FlatExpr-F Meaning → Meaning
meaning_at layer = record { value = value_at layer; slope = slope_at layer }

abbrev pub meaning_of : FlatExpr → Meaning
meaning_of = fold-FlatExpr Meaning meaning_at

-- the value of an expression, and its slope by an unknown
abbrev pub value_of : FlatExpr → Readings → Result Val EvalFault
value_of e = (meaning_of e).value

abbrev pub slope_of : FlatExpr → Unknown → Readings → Result ℤ EvalFault
slope_of e = (meaning_of e).slope

-- the value in units, and then the slopes by these unknowns in order
abbrev pub slopes_of : FlatExpr → List Unknown → Readings → Result (ℤ × List ℤ) EvalFault
slopes_of e us r = do
  v ← number_of (value_of e r)
  slopes ← each (λ u. slope_of e u r) us
  Ok (v, slopes)
