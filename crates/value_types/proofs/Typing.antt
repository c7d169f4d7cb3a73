-- The value of a well-typed expression is of its type, by induction on the expression.
use Rattle.std.proofs.Common.{◌≡◌, ◌≤◌, ℕ, pos, Bool, true, false, slice_get, Option, Some, None, Result, Ok, Err, IfOk, IsTrue, List, arith, refl, sym, ◌∙◌, subst}
use Rattle.std.specs.Prelude.{unsigned_abs, nat_eq, nat_lt, nat_le, ◌||◌, IsSome}
use Rattle.std.proofs.lemmas.Bool.Decides.{nat_tests}
use Rattle.fix_core.specs.Passes.{and_then}
use Rattle.fix_core.specs.Fixed.{ranged}
use Rattle.ams_value.specs.declared.fault.ValFault.{ValFault}
use Rattle.ams_value.specs.declared.op.UnaryOperator.{UnaryOperator}
use Rattle.ams_value.specs.declared.op.BinaryOperator.{BinaryOperator}
use Rattle.ams_value.specs.declared.val.Val.{Val}
use Rattle.ams_value.specs.declared.val.Val.TheVariants as val
use Rattle.ams_value.specs.declared.value_type.ValueType.{ValueType}
use Rattle.ams_value.specs.declared.value_type.ValueType.TheVariants.{Boolean, Bit, Integer, Real, Time, Enumeration, BitVector}
use Rattle.ams_value.specs.Types.{type_of, is_in_range, unary_type, binary_type, IsTypedUnary, IsTypedBinary}
use Rattle.ams_value.specs.Values.{unary_of, binary_of, decided_by}
use Rattle.ams_value.specs.Results.{IsOf}
use Rattle.ams_value.proofs.Typed.{results_typed}
use Rattle.ams_value.specs.Laws.{value_of_in_range}
use Rattle.ams_value.proofs.Ranged.{results_in_range}
use Rattle.flat_expr.specs.declared.expr.Function.{Function}
use Rattle.flat_expr.specs.declared.expr.Function.TheVariants as function
use Rattle.flat_expr.specs.declared.expr.Unknown.{Unknown}
use Rattle.flat_expr.specs.declared.expr.Unknown.TheVariants as unknown
use Rattle.flat_expr.specs.declared.expr.FlatExpr.{FlatExpr}
use Rattle.flat_expr.specs.declared.expr.FlatExpr.TheViews.{roll-FlatExpr}
use Rattle.flat_expr.specs.declared.expr.FlatExpr.TheOpen.{FlatExpr-F}
use Rattle.flat_expr.specs.declared.expr.FlatExpr.TheFolds.{map-FlatExpr, fold-roll-FlatExpr, ind-FlatExpr}
use Rattle.design_meaning.specs.declared.fault.EvalFault.{EvalFault}
use Rattle.design_meaning.specs.Faults.{operated}
use Rattle.flat_expr.specs.declared.expr.SignalName.{SignalName}
use Rattle.flat_expr.specs.declared.expr.SignalName.TheVariants as name
use Rattle.flat_expr.specs.Expr.{same_signal, reads_at, reads_in}
use Rattle.design_meaning.specs.Readings.{Readings, unknown_of, variable_of, seen_of}
use Rattle.design_meaning.specs.Value.{Meaning, meaning_at, meaning_of, value_of, unless_decided, called, element}
use Rattle.design_meaning.specs.Typed.{Scope, typed, type_at, if_true, agreed, event_type, signal_type, unknown_type, unary_result, binary_result, call_type, element_type, IsOfType, Reads}
use Rattle.value_types.specs.Typing.{ReadsFor, ReadValuesAreTyped, ValuesAreTyped}
use Rattle.value_types.proofs.Functions.{ok_then, at_most, ranged_in}
use Rattle.value_types.proofs.Types.{if_true_is, agreed_is, read_at, seen_typed, decided_typed, real_typed, from_number, called_typed, element_typed}

-- ---- operators

some_is : (o : Option ValueType) (k : ValueType) → o ≡ Some k → IsSome o
some_is (Some t) k h = refl
some_is None k h = absurd (cc)

of_type : (sizes : List ℕ) (o : Option ValueType) (k : ValueType) (v : Val) → o ≡ Some k → o ≡ Some (type_of v) → IsTrue (is_in_range sizes v) → IsOfType sizes k v
of_type sizes o k v h is range = record { kind_is = cc; range = range }

by_result : (sizes : List ℕ) (k : ValueType) (m : Result Val ValFault) → ((v : Val) → m ≡ Ok v → IsOfType sizes k v) → IfOk (operated m) (IsOfType sizes k)
by_result sizes k (Ok v) h = h v refl
by_result sizes k (Err e) h = tt

unary_ok : (sizes : List ℕ) (o : UnaryOperator) (t k : ValueType) (x : Val) → unary_type o t ≡ Some k → IsOfType sizes t x → IfOk (operated (unary_of o x)) (IsOfType sizes k)
unary_ok sizes o t k x h of =
    let here : unary_type o (type_of x) ≡ Some k = subst (λ (z : ValueType). unary_type o z ≡ Some k) (sym of.kind_is) h in
    let fits : IsTypedUnary o x = record { operand = value_of_in_range sizes x of.range; known = some_is (unary_type o (type_of x)) k here } in
    by_result sizes k (unary_of o x) (λ v e. of_type sizes (unary_type o (type_of x)) k v here (results_typed.unary o x v fits e).typed (results_in_range.unary sizes o x v fits e))

binary_ok : (sizes : List ℕ) (o : BinaryOperator) (s t k : ValueType) (x y : Val) → binary_type o s t ≡ Some k → IsOfType sizes s x → IsOfType sizes t y
    → IfOk (operated (binary_of o x y)) (IsOfType sizes k)
binary_ok sizes o s t k x y h of to =
    let left : binary_type o (type_of x) t ≡ Some k = subst (λ (z : ValueType). binary_type o z t ≡ Some k) (sym of.kind_is) h in
    let here : binary_type o (type_of x) (type_of y) ≡ Some k = subst (λ (z : ValueType). binary_type o (type_of x) z ≡ Some k) (sym to.kind_is) left in
    let fits : IsTypedBinary o x y = record {
      left = value_of_in_range sizes x of.range;
      right = value_of_in_range sizes y to.range;
      known = some_is (binary_type o (type_of x) (type_of y)) k here;
    } in
    by_result sizes k (binary_of o x y) (λ v e. of_type sizes (binary_type o (type_of x) (type_of y)) k v here (results_typed.binary o x y v fits e).typed (results_in_range.binary sizes o x y v fits e))

decided_ok : (sizes : List ℕ) (o : BinaryOperator) (s t k : ValueType) (x : Val) (d : Option Val) (further : Val → Result Val EvalFault)
    → decided_by o x ≡ d → binary_type o s t ≡ Some k → IsOfType sizes s x → IfOk (further x) (IsOfType sizes k) → IfOk (unless_decided d further x) (IsOfType sizes k)
decided_ok sizes o s t k x (Some v) further is h of more = decided_typed sizes o x v t k (subst (λ (z : ValueType). binary_type o z t ≡ Some k) (sym of.kind_is) h) is
decided_ok sizes o s t k x None further is h of more = more

-- ---- the induction

-- what is shown of an expression
abbrev Gives : Scope → Readings → FlatExpr → Type 0
Gives scope r e = (k : ValueType) → typed scope e ≡ Some k → IfOk (value_of e r) (IsOfType scope.enumerations k)

-- each signal that these read has a value of its type
abbrev Sees : Scope → Readings → (SignalName → Bool) → Type 0
Sees scope r reads = (s : SignalName) (k : ValueType) → reads s ≡ true → signal_type scope s ≡ Some k → IsOfType scope.enumerations k (seen_of r s).value

abbrev reads_of : FlatExpr → SignalName → Bool
reads_of e s = reads_in s e

abbrev Goes : Scope → Readings → FlatExpr → Type 0
Goes scope r e = Sees scope r (reads_of e) → Gives scope r e

abbrev Part : Scope → Readings → Type 0
Part scope r = (e : FlatExpr) × Goes scope r e

lift : (scope : Scope) (r : Readings) (x : FlatExpr-F FlatExpr) (t : Option ValueType) (m : Meaning) (f : SignalName → Bool)
    → typed scope (roll-FlatExpr x) ≡ t → meaning_of (roll-FlatExpr x) ≡ m → ((s : SignalName) → reads_in s (roll-FlatExpr x) ≡ f s)
    → (Sees scope r f → (k : ValueType) → t ≡ Some k → IfOk (m.value r) (IsOfType scope.enumerations k)) → Goes scope r (roll-FlatExpr x)
lift scope r x t m f et em ef h sees k is =
    subst (λ (z : Meaning). IfOk (z.value r) (IsOfType scope.enumerations k)) (sym em) (h (λ s j on known. sees s j (ef s ∙ on) known) k (sym et ∙ is))

or_left : (p q : Bool) → p ≡ true → (p || q) ≡ true
or_left true q h = refl
or_left false q h = absurd (cc)

or_right : (p q : Bool) → q ≡ true → (p || q) ≡ true
or_right true q h = refl
or_right false q h = h

same_number : (i : ℕ) → nat_eq i i ≡ true
same_number i = grind (arith, nat_tests)

same_name : (s : SignalName) → same_signal s s ≡ true
same_name (name.Signal i) = same_number i
same_name (name.Threshold i) = same_number i
same_name name.Domain = refl

unary_goes : (scope : Scope) (r : Readings) (o : UnaryOperator) (a : FlatExpr) (k : ValueType) (t : Option ValueType) → typed scope a ≡ t → Gives scope r a → unary_result o t ≡ Some k
    → IfOk ((meaning_at (FlatExpr-F.Unary o k (meaning_of a))).value r) (IsOfType scope.enumerations k)
unary_goes scope r o a k (Some t) is goes h =
    ok_then (IsOfType scope.enumerations t) (IsOfType scope.enumerations k) (λ x. operated (unary_of o x)) (value_of a r) (goes t is) (λ x of. unary_ok scope.enumerations o t k x h of)
unary_goes scope r o a k None is goes h = absurd (cc)

binary_goes : (scope : Scope) (r : Readings) (o : BinaryOperator) (a b : FlatExpr) (k : ValueType) (s t : Option ValueType) → typed scope a ≡ s → typed scope b ≡ t
    → Gives scope r a → Gives scope r b → binary_result o s t ≡ Some k → IfOk ((meaning_at (FlatExpr-F.Binary o k (meaning_of a) (meaning_of b))).value r) (IsOfType scope.enumerations k)
binary_goes scope r o a b k (Some s) (Some t) sa tb ga gb h =
    ok_then (IsOfType scope.enumerations s) (IsOfType scope.enumerations k)
    (λ x. unless_decided (decided_by o x) (λ left. and_then (λ y. operated (binary_of o left y)) (value_of b r)) x) (value_of a r) (ga s sa)
    (λ x of. decided_ok scope.enumerations o s t k x (decided_by o x) (λ left. and_then (λ y. operated (binary_of o left y)) (value_of b r)) refl h of
    (ok_then (IsOfType scope.enumerations t) (IsOfType scope.enumerations k) (λ y. operated (binary_of o x y)) (value_of b r) (gb t tb)
    (λ y to. binary_ok scope.enumerations o s t k x y h of to)))
binary_goes scope r o a b k (Some s) None sa tb ga gb h = absurd (cc)
binary_goes scope r o a b k None t sa tb ga gb h = absurd (cc)

call_none : (f : Function) (k : ValueType) → call_type f None ≡ Some k → ⊥
call_none function.Real k h = absurd (cc)
call_none function.Integer k h = absurd (cc)
call_none function.Exp k h = absurd (cc)
call_none function.Sin k h = absurd (cc)
call_none function.Cos k h = absurd (cc)
call_none function.Sqrt k h = absurd (cc)

call_goes : (scope : Scope) (r : Readings) (f : Function) (a : FlatExpr) (k : ValueType) (t : Option ValueType) → typed scope a ≡ t → Gives scope r a → call_type f t ≡ Some k
    → IfOk ((meaning_at (FlatExpr-F.Call f (meaning_of a))).value r) (IsOfType scope.enumerations k)
call_goes scope r f a k (Some t) is goes h =
    ok_then (IsOfType scope.enumerations t) (IsOfType scope.enumerations k) (called f) (value_of a r) (goes t is)
    (λ x of. called_typed scope.enumerations f x k of.range (subst (λ (z : ValueType). call_type f (Some z) ≡ Some k) (sym of.kind_is) h))
call_goes scope r f a k None is goes h = absurd (call_none f k h)

element_is_bit : (s t : Option ValueType) (k : ValueType) → element_type s t ≡ Some k → Bit ≡ k
element_is_bit (Some (BitVector n)) (Some Integer) k h = cc
element_is_bit _ _ k h = absurd (cc)

anything : {A : Type 0} (m : Result A EvalFault) → IfOk m (λ x. Unit {0})
anything (Ok x) = tt
anything (Err e) = tt

unknown_real : (scope : Scope) (u : Unknown) (k : ValueType) → unknown_type scope u ≡ Some k → Real ≡ k
unknown_real scope (unknown.Quantity i) k h = (if_true_is (nat_lt i scope.quantities) Real k h).1
unknown_real scope (unknown.Reference i) k h = (if_true_is (nat_lt i scope.references) Real k h).1
unknown_real scope (unknown.Dot i) k h = (if_true_is (nat_lt i scope.dots) Real k h).1

event_truth : (o : Option ValueType) (k : ValueType) → event_type o ≡ Some k → Boolean ≡ k
event_truth (Some t) k h = cc
event_truth None k h = absurd (cc)

time_in_range : (n : ℕ) → n ≤ 1000000000000000000 → nat_le n 1000000000000000000 ≡ true
time_in_range n h = grind (arith, nat_tests)

step : (scope : Scope) (r : Readings) (whole : FlatExpr) → ReadsFor scope r whole → (y : FlatExpr-F (Part scope r)) → Goes scope r (roll-FlatExpr (map-FlatExpr (Part scope r) FlatExpr (λ p. p.0) y))
step scope r whole reads (FlatExpr-F.Literal v) =
    lift scope r (FlatExpr-F.Literal v) (type_at scope (FlatExpr-F.Literal v)) (meaning_at (FlatExpr-F.Literal v))
    (λ (s : SignalName). reads_at s (FlatExpr-F.Literal v))
    (fold-roll-FlatExpr (Option ValueType) (type_at scope) (FlatExpr-F.Literal v)) (fold-roll-FlatExpr Meaning meaning_at (FlatExpr-F.Literal v))
    (λ (s : SignalName). fold-roll-FlatExpr Bool (reads_at s) (FlatExpr-F.Literal v))
    (λ sees k h. let known = if_true_is (is_in_range scope.enumerations v) (type_of v) k h in record { kind_is = known.1; range = known.0 })
step scope r whole reads (FlatExpr-F.Signal s t) =
    lift scope r (FlatExpr-F.Signal s t) (type_at scope (FlatExpr-F.Signal s t)) (meaning_at (FlatExpr-F.Signal s t))
    (λ (n : SignalName). reads_at n (FlatExpr-F.Signal s t))
    (fold-roll-FlatExpr (Option ValueType) (type_at scope) (FlatExpr-F.Signal s t)) (fold-roll-FlatExpr Meaning meaning_at (FlatExpr-F.Signal s t))
    (λ (n : SignalName). fold-roll-FlatExpr Bool (reads_at n) (FlatExpr-F.Signal s t))
    (λ sees k h. sees s k (same_name s) (agreed_is t k (signal_type scope s) h))
step scope r whole reads (FlatExpr-F.Event s) =
    lift scope r (FlatExpr-F.Event s) (type_at scope (FlatExpr-F.Event s)) (meaning_at (FlatExpr-F.Event s))
    (λ (n : SignalName). reads_at n (FlatExpr-F.Event s))
    (fold-roll-FlatExpr (Option ValueType) (type_at scope) (FlatExpr-F.Event s)) (fold-roll-FlatExpr Meaning meaning_at (FlatExpr-F.Event s))
    (λ (n : SignalName). fold-roll-FlatExpr Bool (reads_at n) (FlatExpr-F.Event s))
    (λ sees k h. record { kind_is = event_truth (signal_type scope s) k h; range = refl })
step scope r whole reads (FlatExpr-F.Unknown u) =
    lift scope r (FlatExpr-F.Unknown u) (type_at scope (FlatExpr-F.Unknown u)) (meaning_at (FlatExpr-F.Unknown u))
    (λ (s : SignalName). reads_at s (FlatExpr-F.Unknown u))
    (fold-roll-FlatExpr (Option ValueType) (type_at scope) (FlatExpr-F.Unknown u)) (fold-roll-FlatExpr Meaning meaning_at (FlatExpr-F.Unknown u))
    (λ (s : SignalName). fold-roll-FlatExpr Bool (reads_at s) (FlatExpr-F.Unknown u))
    (λ sees k h. from_number scope.enumerations k (unknown_real scope u k h) (ranged (unknown_of r u)) (ranged_in (unknown_of r u)))
step scope r whole reads (FlatExpr-F.Variable i t) =
    lift scope r (FlatExpr-F.Variable i t) (type_at scope (FlatExpr-F.Variable i t)) (meaning_at (FlatExpr-F.Variable i t))
    (λ (s : SignalName). reads_at s (FlatExpr-F.Variable i t))
    (fold-roll-FlatExpr (Option ValueType) (type_at scope) (FlatExpr-F.Variable i t)) (fold-roll-FlatExpr Meaning meaning_at (FlatExpr-F.Variable i t))
    (λ (s : SignalName). fold-roll-FlatExpr Bool (reads_at s) (FlatExpr-F.Variable i t))
    (λ sees k h.
    let at = read_at type_of r.variables i (val.Bool false) k (rw reads.variables (agreed_is t k (slice_get scope.variables i) h)) in
    record { kind_is = at.1; range = reads.variables_range i (val.Bool false) at.0 })
step scope r whole reads FlatExpr-F.NowTime =
    lift scope r FlatExpr-F.NowTime (type_at scope FlatExpr-F.NowTime) (meaning_at FlatExpr-F.NowTime)
    (λ (s : SignalName). reads_at s FlatExpr-F.NowTime)
    (fold-roll-FlatExpr (Option ValueType) (type_at scope) FlatExpr-F.NowTime) (fold-roll-FlatExpr Meaning meaning_at FlatExpr-F.NowTime)
    (λ (s : SignalName). fold-roll-FlatExpr Bool (reads_at s) FlatExpr-F.NowTime)
    (λ sees k h. record { kind_is = (cc); range = time_in_range r.now reads.now })
step scope r whole reads FlatExpr-F.NowReal =
    lift scope r FlatExpr-F.NowReal (type_at scope FlatExpr-F.NowReal) (meaning_at FlatExpr-F.NowReal)
    (λ (s : SignalName). reads_at s FlatExpr-F.NowReal)
    (fold-roll-FlatExpr (Option ValueType) (type_at scope) FlatExpr-F.NowReal) (fold-roll-FlatExpr Meaning meaning_at FlatExpr-F.NowReal)
    (λ (s : SignalName). fold-roll-FlatExpr Bool (reads_at s) FlatExpr-F.NowReal)
    (λ sees k h. real_typed scope.enumerations (pos r.now) k (cc) (omega (arith, reads.now)))
step scope r whole reads (FlatExpr-F.Unary o t a) =
    lift scope r (FlatExpr-F.Unary o t a.0) (type_at scope (FlatExpr-F.Unary o t (typed scope a.0))) (meaning_at (FlatExpr-F.Unary o t (meaning_of a.0)))
    (λ (s : SignalName). reads_at s (FlatExpr-F.Unary o t (reads_in s a.0)))
    (fold-roll-FlatExpr (Option ValueType) (type_at scope) (FlatExpr-F.Unary o t a.0)) (fold-roll-FlatExpr Meaning meaning_at (FlatExpr-F.Unary o t a.0))
    (λ (s : SignalName). fold-roll-FlatExpr Bool (reads_at s) (FlatExpr-F.Unary o t a.0))
    (λ sees k h. unary_goes scope r o a.0 k (typed scope a.0) refl (a.1 sees) (agreed_is t k (unary_result o (typed scope a.0)) h))
step scope r whole reads (FlatExpr-F.Binary o t a b) =
    lift scope r (FlatExpr-F.Binary o t a.0 b.0) (type_at scope (FlatExpr-F.Binary o t (typed scope a.0) (typed scope b.0))) (meaning_at (FlatExpr-F.Binary o t (meaning_of a.0) (meaning_of b.0)))
    (λ (s : SignalName). reads_at s (FlatExpr-F.Binary o t (reads_in s a.0) (reads_in s b.0)))
    (fold-roll-FlatExpr (Option ValueType) (type_at scope) (FlatExpr-F.Binary o t a.0 b.0)) (fold-roll-FlatExpr Meaning meaning_at (FlatExpr-F.Binary o t a.0 b.0))
    (λ (s : SignalName). fold-roll-FlatExpr Bool (reads_at s) (FlatExpr-F.Binary o t a.0 b.0))
    (λ sees k h. binary_goes scope r o a.0 b.0 k (typed scope a.0) (typed scope b.0) refl refl (a.1 (λ s j on known. sees s j (or_left (reads_in s a.0) (reads_in s b.0) on) known)) (b.1 (λ s j on known. sees s j (or_right (reads_in s a.0) (reads_in s b.0) on) known)) (agreed_is t k (binary_result o (typed scope a.0) (typed scope b.0)) h))
step scope r whole reads (FlatExpr-F.Call f a) =
    lift scope r (FlatExpr-F.Call f a.0) (type_at scope (FlatExpr-F.Call f (typed scope a.0))) (meaning_at (FlatExpr-F.Call f (meaning_of a.0)))
    (λ (s : SignalName). reads_at s (FlatExpr-F.Call f (reads_in s a.0)))
    (fold-roll-FlatExpr (Option ValueType) (type_at scope) (FlatExpr-F.Call f a.0)) (fold-roll-FlatExpr Meaning meaning_at (FlatExpr-F.Call f a.0))
    (λ (s : SignalName). fold-roll-FlatExpr Bool (reads_at s) (FlatExpr-F.Call f a.0))
    (λ sees k h. call_goes scope r f a.0 k (typed scope a.0) refl (a.1 sees) h)
step scope r whole reads (FlatExpr-F.Index a i range) =
    lift scope r (FlatExpr-F.Index a.0 i.0 range) (type_at scope (FlatExpr-F.Index (typed scope a.0) (typed scope i.0) range)) (meaning_at (FlatExpr-F.Index (meaning_of a.0) (meaning_of i.0) range))
    (λ (s : SignalName). reads_at s (FlatExpr-F.Index (reads_in s a.0) (reads_in s i.0) range))
    (fold-roll-FlatExpr (Option ValueType) (type_at scope) (FlatExpr-F.Index a.0 i.0 range)) (fold-roll-FlatExpr Meaning meaning_at (FlatExpr-F.Index a.0 i.0 range))
    (λ (s : SignalName). fold-roll-FlatExpr Bool (reads_at s) (FlatExpr-F.Index a.0 i.0 range))
    (λ sees k h.
    subst (λ (z : ValueType). IfOk ((meaning_at (FlatExpr-F.Index (meaning_of a.0) (meaning_of i.0) range)).value r) (IsOfType scope.enumerations z))
    (element_is_bit (typed scope a.0) (typed scope i.0) k h)
    (ok_then (λ (x : Val). Unit {0}) (IsOfType scope.enumerations Bit) (λ v. and_then (element range v) (value_of i.0 r)) (value_of a.0 r) (anything (value_of a.0 r))
    (λ v _. ok_then (λ (x : Val). Unit {0}) (IsOfType scope.enumerations Bit) (element range v) (value_of i.0 r) (anything (value_of i.0 r)) (λ w _. element_typed scope.enumerations range v w))))

goes : (scope : Scope) (r : Readings) (whole : FlatExpr) → ReadsFor scope r whole → (e : FlatExpr) → Goes scope r e
goes scope r whole reads =
    ind-FlatExpr (Goes scope r) (λ x y is. subst (λ (z : FlatExpr-F FlatExpr). Goes scope r (roll-FlatExpr z)) is (step scope r whole reads y))

pub read_values_are_typed : ReadValuesAreTyped
read_values_are_typed scope r e k v reads typed_as is = subst (λ m. IfOk m (IsOfType scope.enumerations k)) is (goes scope r e reads e reads.signals k typed_as)

pub values_are_typed : ValuesAreTyped
values_are_typed scope r e k v reads typed_as is =
    read_values_are_typed scope r e k v
    (record {
      signals = λ s j on known. seen_typed scope r s j reads known;
      variables = reads.variables;
      variables_range = reads.variables_range;
      now = reads.now;
    }) typed_as is
