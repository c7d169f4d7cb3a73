-- The slopes by unknowns that an expression doesn't read, by induction on the expression.
use Rattle.std.proofs.Common.{◌≡◌, ◌+◌, ◌*◌, ◌<◌, ℕ, zero, suc, pos, negsuc, ℤ, Bool, true, false, Result, Ok, Err, IfOk, refl, sym, ap, subst, ◌∙◌, arith}
use Rattle.std.specs.Prelude.{◌||◌, ◌*ℤ◌, ◌+ℤ◌, neg_ℤ, unsigned_abs, nat_eq, if◌then◌else◌}
use Rattle.std.proofs.lemmas.Int.{ints}
use Rattle.std.proofs.Math.Nat.{div-eq_of_lt}
use Rattle.fix_core.specs.declared.NumFault.{NumFault}
use Rattle.fix_core.specs.Passes.{and_then, ◌>>=◌}
use Rattle.fix_core.specs.Rounding.{nearest, rnd}
use Rattle.fix_core.specs.Units.{one}
use Rattle.fix_core.specs.Fixed.{ranged, sum_of, difference_of, product_of, quotient_of}
use Rattle.fix_core.specs.Laws.{ranged-fits}
use Rattle.math_fix.specs.Functions.{sin_of, cos_of}
use Rattle.ams_value.specs.declared.val.Val.{Val}
use Rattle.ams_value.specs.declared.val.Val.TheVariants as val
use Rattle.ams_value.specs.declared.op.UnaryOperator.{UnaryOperator}
use Rattle.ams_value.specs.declared.op.UnaryOperator.TheVariants as unary
use Rattle.ams_value.specs.declared.op.BinaryOperator.{BinaryOperator}
use Rattle.ams_value.specs.declared.op.BinaryOperator.TheVariants as binary
use Rattle.ams_value.specs.Values.{real_powers}
use Rattle.flat_expr.specs.declared.expr.Function.{Function}
use Rattle.flat_expr.specs.declared.expr.Function.TheVariants as function
use Rattle.flat_expr.specs.declared.expr.Unknown.{Unknown}
use Rattle.flat_expr.specs.declared.expr.FlatExpr.{FlatExpr}
use Rattle.flat_expr.specs.declared.expr.FlatExpr.TheViews.{roll-FlatExpr}
use Rattle.flat_expr.specs.declared.expr.FlatExpr.TheOpen.{FlatExpr-F}
use Rattle.flat_expr.specs.declared.expr.FlatExpr.TheFolds.{map-FlatExpr, fold-roll-FlatExpr, ind-FlatExpr}
use Rattle.design_meaning.specs.declared.fault.EvalFault.{EvalFault}
use Rattle.design_meaning.specs.Faults.{numeric}
use Rattle.design_meaning.specs.Readings.{Readings}
use Rattle.design_meaning.specs.Value.{Meaning, meaning_at, meaning_of, slope_of, number_of, value_at, plus, minus, times, over, same_unknown, is_negative, unary_slope, power_slope, binary_slope, called_slope}
use Rattle.design_rules.specs.Equations.{stands_at, stands_in}
use Rattle.read_unknowns.specs.Unread.{AreAlike, UnreadSlopesAreAlike}

-- ---- slopes that are 0

abbrev Zero : Result ℤ EvalFault → Type 0
Zero m = IfOk m (λ z. z ≡ pos 0)

zero_numeric : (m : Result ℤ NumFault) → IfOk m (λ z. z ≡ pos 0) → Zero (numeric m)
zero_numeric (Ok z) h = h
zero_numeric (Err e) h = tt

then_zero : (m : Result ℤ EvalFault) (f : ℤ → Result ℤ EvalFault) → Zero m → Zero (f (pos 0)) → Zero (and_then f m)
then_zero (Ok z) f h k = rw h k
then_zero (Err e) f h k = tt

then_any : {A : Type 0} (m : Result A EvalFault) (f : A → Result ℤ EvalFault) → ((a : A) → Zero (f a)) → Zero (and_then f m)
then_any (Ok a) f k = k a
then_any (Err e) f k = tt

nothing_ranged : ranged (pos 0) ≡ Ok (pos 0)
nothing_ranged = ranged-fits (pos 0) (omega arith)

sum_zero : Zero (plus (pos 0) (pos 0))
unfolding sum_of
sum_zero = zero_numeric (ranged (pos 0)) (rw nothing_ranged refl)

difference_zero : Zero (minus (pos 0) (pos 0))
unfolding difference_of
difference_zero = zero_numeric (ranged (pos 0)) (rw nothing_ranged refl)

nothing_near : (d : ℕ) → nearest 0 d ≡ 0
unfolding nearest
nothing_near zero = refl
nothing_near (suc d) = let lt : 2 * 0 + suc d < 2 * suc d = omega arith in div-eq_of_lt lt

nothing_over : (d : ℤ) → rnd (pos 0) d ≡ pos 0
unfolding rnd
nothing_over (pos d) = ap pos (nothing_near d)
nothing_over (negsuc d) = rw (nothing_near (suc d)) refl

left_product : (y : ℤ) → Zero (times (pos 0) y)
unfolding product_of
left_product y =
    let none : pos 0 *ℤ y ≡ pos 0 = omega (arith, ints) in
    zero_numeric (ranged (rnd (pos 0 *ℤ y) one)) (rw (none, nothing_over one, nothing_ranged) refl)

right_product : (x : ℤ) → Zero (times x (pos 0))
unfolding product_of
right_product x =
    let none : x *ℤ pos 0 ≡ pos 0 = omega (arith, ints) in
    zero_numeric (ranged (rnd (x *ℤ pos 0) one)) (rw (none, nothing_over one, nothing_ranged) refl)

zero_if : (b : Bool) (m n : Result ℤ NumFault) → IfOk m (λ z. z ≡ pos 0) → IfOk n (λ z. z ≡ pos 0) → IfOk (if b then m else n) (λ z. z ≡ pos 0)
zero_if true m n h k = h
zero_if false m n h k = k

quotient_zero : (d : ℤ) → Zero (over (pos 0) d)
unfolding quotient_of
quotient_zero d =
    let none : pos 0 *ℤ one ≡ pos 0 = refl in
    zero_numeric (quotient_of (pos 0) d) (zero_if (nat_eq (unsigned_abs d) 0) _ (ranged (rnd (pos 0 *ℤ one) d)) tt (rw (none, nothing_over d, nothing_ranged) refl))

-- ---- the rules

sign_zero : (b : Bool) → (if b then neg_ℤ (pos 0) else pos 0) ≡ pos 0
sign_zero true = refl
sign_zero false = refl

unary_zero : (op : UnaryOperator) (a : Result ℤ EvalFault) → Zero (unary_slope op a (pos 0))
unary_zero unary.Minus a = refl
unary_zero unary.Abs a = then_any a (λ x. Ok (if is_negative x then neg_ℤ (pos 0) else pos 0)) (λ x. sign_zero (is_negative x))
unary_zero unary.Plus a = refl
unary_zero unary.Not a = refl

power_zero : (a d : Result ℤ EvalFault) (n : Val) → Zero d → Zero (power_slope a d n)
power_zero a d (val.Int (pos (suc k))) h =
    then_any a (λ x. numeric (real_powers x k) >>= (λ p. times (pos (suc k) *ℤ one) p >>= (λ c. d >>= times c))) (λ x.
    then_any (numeric (real_powers x k)) (λ p. times (pos (suc k) *ℤ one) p >>= (λ c. d >>= times c)) (λ p.
    then_any (times (pos (suc k) *ℤ one) p) (λ c. d >>= times c) (λ c.
    then_zero d (times c) h (right_product c))))
power_zero a d _ h = refl

binary_zero : (op : BinaryOperator) (v a d b e : Result ℤ EvalFault) (n : Result Val EvalFault) → Zero d → Zero e → Zero (binary_slope op v a d b e n)
binary_zero binary.Add v a d b e n h k = then_zero d (λ p. e >>= plus p) h (then_zero e (plus (pos 0)) k sum_zero)
binary_zero binary.Subtract v a d b e n h k = then_zero d (λ p. e >>= minus p) h (then_zero e (minus (pos 0)) k difference_zero)
binary_zero binary.Multiply v a d b e n h k =
    then_zero d (λ p. b >>= (λ y. times p y >>= (λ left. a >>= (λ x. e >>= (λ q. times x q >>= plus left))))) h
    (then_any b (λ y. times (pos 0) y >>= (λ left. a >>= (λ x. e >>= (λ q. times x q >>= plus left)))) (λ y.
    then_zero (times (pos 0) y) (λ left. a >>= (λ x. e >>= (λ q. times x q >>= plus left))) (left_product y)
    (then_any a (λ x. e >>= (λ q. times x q >>= plus (pos 0))) (λ x.
    then_zero e (λ q. times x q >>= plus (pos 0)) k
    (then_zero (times x (pos 0)) (plus (pos 0)) (right_product x) sum_zero)))))
binary_zero binary.Divide v a d b e n h k =
    then_zero d (λ p. v >>= (λ whole. e >>= (λ q. times whole q >>= (λ m. minus p m >>= (λ top. b >>= over top))))) h
    (then_any v (λ whole. e >>= (λ q. times whole q >>= (λ m. minus (pos 0) m >>= (λ top. b >>= over top)))) (λ whole.
    then_zero e (λ q. times whole q >>= (λ m. minus (pos 0) m >>= (λ top. b >>= over top))) k
    (then_zero (times whole (pos 0)) (λ m. minus (pos 0) m >>= (λ top. b >>= over top)) (right_product whole)
    (then_zero (minus (pos 0) (pos 0)) (λ top. b >>= over top) difference_zero
    (then_any b (over (pos 0)) quotient_zero)))))
binary_zero binary.Power v a d b e n h k = then_any n (power_slope a d) (λ x. power_zero a d x h)
binary_zero _ v a d b e n h k = refl

called_zero : (f : Function) (v a d : Result ℤ EvalFault) → Zero d → Zero (called_slope f v a d)
called_zero function.Exp v a d h = then_any v (λ whole. d >>= times whole) (λ whole. then_zero d (times whole) h (right_product whole))
called_zero function.Sin v a d h = then_any a (λ x. d >>= times (cos_of x)) (λ x. then_zero d (times (cos_of x)) h (right_product (cos_of x)))
called_zero function.Cos v a d h =
    then_any a (λ x. d >>= (λ p. times (sin_of x) p >>= (λ m. Ok (neg_ℤ m)))) (λ x.
    then_zero d (λ p. times (sin_of x) p >>= (λ m. Ok (neg_ℤ m))) h (then_zero (times (sin_of x) (pos 0)) (λ m. Ok (neg_ℤ m)) (right_product (sin_of x)) refl))
called_zero function.Sqrt v a d h =
    then_zero d (λ p. v >>= (λ whole. times (one +ℤ one) whole >>= over p)) h
    (then_any v (λ whole. times (one +ℤ one) whole >>= over (pos 0)) (λ whole. then_any (times (one +ℤ one) whole) (over (pos 0)) quotient_zero))
called_zero function.Real v a d h = refl
called_zero function.Integer v a d h = refl

-- ---- the induction

-- what is shown of an expression
abbrev Flat : Readings → Unknown → Unknown → FlatExpr → Type 0
Flat r u v e = stands_in u e ≡ false → stands_in v e ≡ false → AreAlike (slope_of e u r) (slope_of e v r)

abbrev Part : Readings → Unknown → Unknown → Type 0
Part r u v = (e : FlatExpr) × Flat r u v e

lift : (r : Readings) (u v : Unknown) (x : FlatExpr-F FlatExpr) (m : Meaning) (stands : Unknown → Bool) → meaning_of (roll-FlatExpr x) ≡ m → ((w : Unknown) → stands_in w (roll-FlatExpr x) ≡ stands w)
    → (stands u ≡ false → stands v ≡ false → AreAlike (m.slope u r) (m.slope v r)) → Flat r u v (roll-FlatExpr x)
lift r u v x m stands em es h off over =
    subst (λ (z : Meaning). AreAlike (z.slope u r) (z.slope v r)) (sym em) (h (sym (es u) ∙ off) (sym (es v) ∙ over))

or_none : (a b : Bool) → (a || b) ≡ false → (a ≡ false) × (b ≡ false)
or_none true b h = absurd (cc)
or_none false b h = (refl, h)

nothing : AreAlike (Ok (pos 0)) (Ok (pos 0))
nothing = record { same = refl; none = refl }

other_none : (b c : Bool) → b ≡ false → c ≡ false → AreAlike (Ok (if b then one else pos 0)) (Ok (if c then one else pos 0))
other_none false false h k = nothing
other_none true c h k = absurd (cc)
other_none false true h k = absurd (cc)

-- ---- by variants

unary_alike : (op : UnaryOperator) (x : Result ℤ EvalFault) (d f : Result ℤ EvalFault) → AreAlike d f → AreAlike (d >>= unary_slope op x) (f >>= unary_slope op x)
unary_alike op x d f h = record { same = ap (λ z. z >>= unary_slope op x) h.same; none = then_zero d (unary_slope op x) h.none (unary_zero op x) }

binary_alike : (op : BinaryOperator) (w a b : Result ℤ EvalFault) (n : Result Val EvalFault) (d f e g : Result ℤ EvalFault) → AreAlike d f → AreAlike e g
    → AreAlike (binary_slope op w a d b e n) (binary_slope op w a f b g n)
binary_alike op w a b n d f e g h k =
    record {
      same = ap (λ z. binary_slope op w a z b e n) h.same ∙ ap (λ z. binary_slope op w a f b z n) k.same;
      none = binary_zero op w a d b e n h.none k.none;
    }

called_alike : (c : Function) (w a d f : Result ℤ EvalFault) → AreAlike d f → AreAlike (called_slope c w a d) (called_slope c w a f)
called_alike c w a d f h = record { same = ap (called_slope c w a) h.same; none = called_zero c w a d h.none }

step : (r : Readings) (u v : Unknown) (y : FlatExpr-F (Part r u v)) → Flat r u v (roll-FlatExpr (map-FlatExpr (Part r u v) FlatExpr (λ p. p.0) y))
step r u v (FlatExpr-F.Literal x) =
    lift r u v (FlatExpr-F.Literal x) (meaning_at (FlatExpr-F.Literal x)) (λ (w : Unknown). stands_at w (FlatExpr-F.Literal x))
    (fold-roll-FlatExpr Meaning meaning_at (FlatExpr-F.Literal x)) (λ (w : Unknown). fold-roll-FlatExpr Bool (stands_at w) (FlatExpr-F.Literal x)) (λ off over. nothing)
step r u v (FlatExpr-F.Signal s k) =
    lift r u v (FlatExpr-F.Signal s k) (meaning_at (FlatExpr-F.Signal s k)) (λ (w : Unknown). stands_at w (FlatExpr-F.Signal s k))
    (fold-roll-FlatExpr Meaning meaning_at (FlatExpr-F.Signal s k)) (λ (w : Unknown). fold-roll-FlatExpr Bool (stands_at w) (FlatExpr-F.Signal s k)) (λ off over. nothing)
step r u v (FlatExpr-F.Event s) =
    lift r u v (FlatExpr-F.Event s) (meaning_at (FlatExpr-F.Event s)) (λ (w : Unknown). stands_at w (FlatExpr-F.Event s))
    (fold-roll-FlatExpr Meaning meaning_at (FlatExpr-F.Event s)) (λ (w : Unknown). fold-roll-FlatExpr Bool (stands_at w) (FlatExpr-F.Event s)) (λ off over. nothing)
step r u v (FlatExpr-F.Unknown other) =
    lift r u v (FlatExpr-F.Unknown other) (meaning_at (FlatExpr-F.Unknown other)) (λ (w : Unknown). stands_at w (FlatExpr-F.Unknown other))
    (fold-roll-FlatExpr Meaning meaning_at (FlatExpr-F.Unknown other)) (λ (w : Unknown). fold-roll-FlatExpr Bool (stands_at w) (FlatExpr-F.Unknown other))
    (λ off over. other_none (same_unknown other u) (same_unknown other v) off over)
step r u v (FlatExpr-F.Variable i k) =
    lift r u v (FlatExpr-F.Variable i k) (meaning_at (FlatExpr-F.Variable i k)) (λ (w : Unknown). stands_at w (FlatExpr-F.Variable i k))
    (fold-roll-FlatExpr Meaning meaning_at (FlatExpr-F.Variable i k)) (λ (w : Unknown). fold-roll-FlatExpr Bool (stands_at w) (FlatExpr-F.Variable i k)) (λ off over. nothing)
step r u v FlatExpr-F.NowTime =
    lift r u v FlatExpr-F.NowTime (meaning_at FlatExpr-F.NowTime) (λ (w : Unknown). stands_at w FlatExpr-F.NowTime)
    (fold-roll-FlatExpr Meaning meaning_at FlatExpr-F.NowTime) (λ (w : Unknown). fold-roll-FlatExpr Bool (stands_at w) FlatExpr-F.NowTime) (λ off over. nothing)
step r u v FlatExpr-F.NowReal =
    lift r u v FlatExpr-F.NowReal (meaning_at FlatExpr-F.NowReal) (λ (w : Unknown). stands_at w FlatExpr-F.NowReal)
    (fold-roll-FlatExpr Meaning meaning_at FlatExpr-F.NowReal) (λ (w : Unknown). fold-roll-FlatExpr Bool (stands_at w) FlatExpr-F.NowReal) (λ off over. nothing)
step r u v (FlatExpr-F.Unary o t a) =
    lift r u v (FlatExpr-F.Unary o t a.0) (meaning_at (FlatExpr-F.Unary o t (meaning_of a.0))) (λ (w : Unknown). stands_at w (FlatExpr-F.Unary o t (stands_in w a.0)))
    (fold-roll-FlatExpr Meaning meaning_at (FlatExpr-F.Unary o t a.0)) (λ (w : Unknown). fold-roll-FlatExpr Bool (stands_at w) (FlatExpr-F.Unary o t a.0))
    (λ off over. unary_alike o (number_of ((meaning_of a.0).value r)) (slope_of a.0 u r) (slope_of a.0 v r) (a.1 off over))
step r u v (FlatExpr-F.Binary o t a b) =
    lift r u v (FlatExpr-F.Binary o t a.0 b.0) (meaning_at (FlatExpr-F.Binary o t (meaning_of a.0) (meaning_of b.0))) (λ (w : Unknown). stands_at w (FlatExpr-F.Binary o t (stands_in w a.0) (stands_in w b.0)))
    (fold-roll-FlatExpr Meaning meaning_at (FlatExpr-F.Binary o t a.0 b.0)) (λ (w : Unknown). fold-roll-FlatExpr Bool (stands_at w) (FlatExpr-F.Binary o t a.0 b.0))
    (λ off over.
    let here = or_none (stands_in u a.0) (stands_in u b.0) off in
    let there = or_none (stands_in v a.0) (stands_in v b.0) over in
    binary_alike o (number_of (value_at (FlatExpr-F.Binary o t (meaning_of a.0) (meaning_of b.0)) r)) (number_of ((meaning_of a.0).value r)) (number_of ((meaning_of b.0).value r)) ((meaning_of b.0).value r)
    (slope_of a.0 u r) (slope_of a.0 v r) (slope_of b.0 u r) (slope_of b.0 v r) (a.1 here.0 there.0) (b.1 here.1 there.1))
step r u v (FlatExpr-F.Call f a) =
    lift r u v (FlatExpr-F.Call f a.0) (meaning_at (FlatExpr-F.Call f (meaning_of a.0))) (λ (w : Unknown). stands_at w (FlatExpr-F.Call f (stands_in w a.0)))
    (fold-roll-FlatExpr Meaning meaning_at (FlatExpr-F.Call f a.0)) (λ (w : Unknown). fold-roll-FlatExpr Bool (stands_at w) (FlatExpr-F.Call f a.0))
    (λ off over. called_alike f (number_of (value_at (FlatExpr-F.Call f (meaning_of a.0)) r)) (number_of ((meaning_of a.0).value r)) (slope_of a.0 u r) (slope_of a.0 v r) (a.1 off over))
step r u v (FlatExpr-F.Index a i range) =
    lift r u v (FlatExpr-F.Index a.0 i.0 range) (meaning_at (FlatExpr-F.Index (meaning_of a.0) (meaning_of i.0) range)) (λ (w : Unknown). stands_at w (FlatExpr-F.Index (stands_in w a.0) (stands_in w i.0) range))
    (fold-roll-FlatExpr Meaning meaning_at (FlatExpr-F.Index a.0 i.0 range)) (λ (w : Unknown). fold-roll-FlatExpr Bool (stands_at w) (FlatExpr-F.Index a.0 i.0 range)) (λ off over. nothing)

flat : (r : Readings) (u v : Unknown) (e : FlatExpr) → Flat r u v e
flat r u v = ind-FlatExpr (Flat r u v) (λ x y is. subst (λ (z : FlatExpr-F FlatExpr). Flat r u v (roll-FlatExpr z)) is (step r u v y))

-- ---- an equation

difference_alike : (d f e g : Result ℤ EvalFault) → AreAlike d f → AreAlike e g → AreAlike (d >>= (λ p. e >>= minus p)) (f >>= (λ p. g >>= minus p))
difference_alike d f e g h k =
    record {
      same = ap (λ z. z >>= (λ p. e >>= minus p)) h.same ∙ ap (λ z. f >>= (λ p. z >>= minus p)) k.same;
      none = then_zero d (λ p. e >>= minus p) h.none (then_zero e (minus (pos 0)) k.none difference_zero);
    }

pub unread_slopes : UnreadSlopesAreAlike
unread_slopes p r u v off over =
    let here = or_none (stands_in u p.left) (stands_in u p.right) off in
    let there = or_none (stands_in v p.left) (stands_in v p.right) over in
    difference_alike (slope_of p.left u r) (slope_of p.left v r) (slope_of p.right u r) (slope_of p.right v r) (flat r u v p.left here.0 there.0) (flat r u v p.right here.1 there.1)
