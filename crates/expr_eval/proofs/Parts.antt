-- The parts of an expression that can be evaluated can be evaluated, and operators take their values.
use Rattle.std.proofs.Common.{◌≡◌, ℕ, Bool, true, false, Option, Some, None, Ok, List, refl, sym, ap, subst, ◌∙◌}
use Rattle.std.specs.Prelude.{◌||◌, IsSome}
use Rattle.ams_value.specs.declared.op.UnaryOperator.{UnaryOperator}
use Rattle.ams_value.specs.declared.op.BinaryOperator.{BinaryOperator}
use Rattle.ams_value.specs.declared.val.Val.{Val}
use Rattle.ams_value.specs.declared.value_type.ValueType.{ValueType}
use Rattle.ams_value.specs.declared.value_type.ValueType.TheVariants.{Integer, BitVector}
use Rattle.ams_value.specs.Types.{type_of, unary_type, binary_type, IsTypedUnary, IsTypedBinary}
use Rattle.ams_value.specs.Laws.{value_of_in_range}
use Rattle.flat_expr.specs.declared.expr.SignalName.{SignalName}
use Rattle.flat_expr.specs.declared.expr.IndexRange.{IndexRange}
use Rattle.flat_expr.specs.declared.expr.Function.{Function}
use Rattle.flat_expr.specs.declared.expr.Function.TheVariants as function
use Rattle.flat_expr.specs.declared.expr.FlatExpr.{FlatExpr}
use Rattle.flat_expr.specs.declared.expr.FlatExpr.TheOpen.{FlatExpr-F}
use Rattle.flat_expr.specs.declared.expr.FlatExpr.TheVariants as e
use Rattle.flat_expr.specs.declared.expr.FlatExpr.TheVariants.{rolls-Unary, rolls-Binary, rolls-Call, rolls-Index}
use Rattle.flat_expr.specs.declared.expr.FlatExpr.TheFolds.{fold-roll-FlatExpr}
use Rattle.flat_expr.specs.Expr.{reads_at, reads_in}
use Rattle.design_meaning.specs.Readings.{Readings}
use Rattle.design_meaning.specs.Value.{value_of}
use Rattle.design_meaning.specs.Typed.{Scope, IsOfType, typed, type_at, agreed, unary_result, binary_result, call_type, element_type}
use Rattle.value_types.specs.Typing.{ReadsFor}
use Rattle.value_types.proofs.Types.{agreed_is}
use Rattle.value_types.proofs.Typing.{read_values_are_typed}
use Rattle.expr_eval.specs.Condition.{CanEvaluate}

-- ---- types and signals of a whole, by those of its parts

typed_unary : (scope : Scope) (o : UnaryOperator) (k : ValueType) (a : FlatExpr) → typed scope (e.Unary o k a) ≡ agreed k (unary_result o (typed scope a))
typed_unary scope o k a = ap (typed scope) (sym (rolls-Unary o k a)) ∙ fold-roll-FlatExpr (Option ValueType) (type_at scope) (FlatExpr-F.Unary o k a)

typed_binary : (scope : Scope) (o : BinaryOperator) (k : ValueType) (a b : FlatExpr) → typed scope (e.Binary o k a b) ≡ agreed k (binary_result o (typed scope a) (typed scope b))
typed_binary scope o k a b = ap (typed scope) (sym (rolls-Binary o k a b)) ∙ fold-roll-FlatExpr (Option ValueType) (type_at scope) (FlatExpr-F.Binary o k a b)

typed_call : (scope : Scope) (f : Function) (a : FlatExpr) → typed scope (e.Call f a) ≡ call_type f (typed scope a)
typed_call scope f a = ap (typed scope) (sym (rolls-Call f a)) ∙ fold-roll-FlatExpr (Option ValueType) (type_at scope) (FlatExpr-F.Call f a)

typed_index : (scope : Scope) (a b : FlatExpr) (range : IndexRange) → typed scope (e.Index a b range) ≡ element_type (typed scope a) (typed scope b)
typed_index scope a b range = ap (typed scope) (sym (rolls-Index a b range)) ∙ fold-roll-FlatExpr (Option ValueType) (type_at scope) (FlatExpr-F.Index a b range)

reads_unary : (s : SignalName) (o : UnaryOperator) (k : ValueType) (a : FlatExpr) → reads_in s (e.Unary o k a) ≡ reads_in s a
reads_unary s o k a = ap (reads_in s) (sym (rolls-Unary o k a)) ∙ fold-roll-FlatExpr Bool (reads_at s) (FlatExpr-F.Unary o k a)

reads_binary : (s : SignalName) (o : BinaryOperator) (k : ValueType) (a b : FlatExpr) → reads_in s (e.Binary o k a b) ≡ (reads_in s a || reads_in s b)
reads_binary s o k a b = ap (reads_in s) (sym (rolls-Binary o k a b)) ∙ fold-roll-FlatExpr Bool (reads_at s) (FlatExpr-F.Binary o k a b)

reads_call : (s : SignalName) (f : Function) (a : FlatExpr) → reads_in s (e.Call f a) ≡ reads_in s a
reads_call s f a = ap (reads_in s) (sym (rolls-Call f a)) ∙ fold-roll-FlatExpr Bool (reads_at s) (FlatExpr-F.Call f a)

reads_index : (s : SignalName) (a b : FlatExpr) (range : IndexRange) → reads_in s (e.Index a b range) ≡ (reads_in s a || reads_in s b)
reads_index s a b range = ap (reads_in s) (sym (rolls-Index a b range)) ∙ fold-roll-FlatExpr Bool (reads_at s) (FlatExpr-F.Index a b range)

or_left : (p q : Bool) → p ≡ true → (p || q) ≡ true
or_left true q h = refl
or_left false q h = absurd (cc)

or_right : (p q : Bool) → q ≡ true → (p || q) ≡ true
or_right true q h = refl
or_right false q h = h

-- ---- what is known of the parts' types

unary_known : (o : UnaryOperator) (s : Option ValueType) (k : ValueType) → unary_result o s ≡ Some k → (t : ValueType) × ((s ≡ Some t) × (unary_type o t ≡ Some k))
unary_known o (Some t) k h = (t, (refl, h))
unary_known o None k h = absurd (cc)

pub record Operands (o : BinaryOperator) (s t : Option ValueType) (k : ValueType) : Type 0 where
  pub left : ValueType
  pub right : ValueType
  pub left_is : s ≡ Some left
  pub right_is : t ≡ Some right
  pub gives : binary_type o left right ≡ Some k

binary_known : (o : BinaryOperator) (s t : Option ValueType) (k : ValueType) → binary_result o s t ≡ Some k → Operands o s t k
binary_known o (Some a) (Some b) k h = record { left = a; right = b; left_is = refl; right_is = refl; gives = h }
binary_known o (Some a) None k h = absurd (cc)
binary_known o None t k h = absurd (cc)

call_known : (f : Function) (s : Option ValueType) (k : ValueType) → call_type f s ≡ Some k → (t : ValueType) × (s ≡ Some t)
call_known f (Some t) k h = (t, refl)
call_known function.Real None k h = absurd (cc)
call_known function.Integer None k h = absurd (cc)
call_known function.Exp None k h = absurd (cc)
call_known function.Sin None k h = absurd (cc)
call_known function.Cos None k h = absurd (cc)
call_known function.Sqrt None k h = absurd (cc)

element_known : (s t : Option ValueType) (k : ValueType) → element_type s t ≡ Some k → ((a : ValueType) × (s ≡ Some a)) × ((b : ValueType) × (t ≡ Some b))
element_known (Some (BitVector n)) (Some Integer) k h = ((BitVector n, refl), (Integer, refl))
element_known _ _ k h = absurd (cc)

-- ---- the parts

some_is : (o : Option ValueType) (k : ValueType) → o ≡ Some k → IsSome o
some_is (Some t) k h = refl
some_is None k h = absurd (cc)

part_reads : (scope : Scope) (r : Readings) (whole part : FlatExpr) → ((s : SignalName) → reads_in s part ≡ true → reads_in s whole ≡ true) → ReadsFor scope r whole → ReadsFor scope r part
part_reads scope r whole part more reads =
    record {
      signals = λ s k on known. reads.signals s k (more s on) known;
      variables = reads.variables;
      variables_range = reads.variables_range;
      now = reads.now;
    }

-- an expression of a known type, and what is read for it
part : (r : Readings) (a : FlatExpr) (scope : Scope) (k : ValueType) → typed scope a ≡ Some k → ReadsFor scope r a → CanEvaluate r a
part r a scope k h reads = record { scope = scope; kind = k; typed = h; reads = reads }

unary_fits : (sizes : List ℕ) (o : UnaryOperator) (t k : ValueType) (x : Val) → unary_type o t ≡ Some k → IsOfType sizes t x → IsTypedUnary o x
unary_fits sizes o t k x h of =
    let here : unary_type o (type_of x) ≡ Some k = subst (λ (z : ValueType). unary_type o z ≡ Some k) (sym of.kind_is) h in
    record { operand = value_of_in_range sizes x of.range; known = some_is (unary_type o (type_of x)) k here }

binary_fits : (sizes : List ℕ) (o : BinaryOperator) (s t k : ValueType) (x y : Val) → binary_type o s t ≡ Some k → IsOfType sizes s x → IsOfType sizes t y → IsTypedBinary o x y
binary_fits sizes o s t k x y h of to =
    let first : binary_type o (type_of x) t ≡ Some k = subst (λ (z : ValueType). binary_type o z t ≡ Some k) (sym of.kind_is) h in
    let here : binary_type o (type_of x) (type_of y) ≡ Some k = subst (λ (z : ValueType). binary_type o (type_of x) z ≡ Some k) (sym to.kind_is) first in
    record { left = value_of_in_range sizes x of.range; right = value_of_in_range sizes y to.range; known = some_is (binary_type o (type_of x) (type_of y)) k here }

pub record UnaryPart (r : Readings) (o : UnaryOperator) (a : FlatExpr) : Type 0 where
  pub operand : CanEvaluate r a
  pub fits : (x : Val) → value_of a r ≡ Ok x → IsTypedUnary o x

pub unary_part : (r : Readings) (whole : FlatExpr) (o : UnaryOperator) (k : ValueType) (a : FlatExpr) → whole ≡ e.Unary o k a → CanEvaluate r whole → UnaryPart r o a
unary_part r whole o k a is can =
    let here : typed can.scope (e.Unary o k a) ≡ Some can.kind = subst (λ (z : FlatExpr). typed can.scope z ≡ Some can.kind) is can.typed in
    let known = unary_known o (typed can.scope a) can.kind (agreed_is k can.kind (unary_result o (typed can.scope a)) (sym (typed_unary can.scope o k a) ∙ here)) in
    let all : ReadsFor can.scope r (e.Unary o k a) = subst (λ (z : FlatExpr). ReadsFor can.scope r z) is can.reads in
    let reads : ReadsFor can.scope r a = part_reads can.scope r (e.Unary o k a) a (λ s on. reads_unary s o k a ∙ on) all in
    record {
      operand = part r a can.scope known.0 known.1.0 reads;
      fits = λ x v. unary_fits can.scope.enumerations o known.0 can.kind x known.1.1 (read_values_are_typed can.scope r a known.0 x reads known.1.0 v);
    }

pub record BinaryParts (r : Readings) (o : BinaryOperator) (a b : FlatExpr) : Type 0 where
  pub left : CanEvaluate r a
  pub right : CanEvaluate r b
  pub fits : (x y : Val) → value_of a r ≡ Ok x → value_of b r ≡ Ok y → IsTypedBinary o x y

pub binary_parts : (r : Readings) (whole : FlatExpr) (o : BinaryOperator) (k : ValueType) (a b : FlatExpr) → whole ≡ e.Binary o k a b → CanEvaluate r whole → BinaryParts r o a b
binary_parts r whole o k a b is can =
    let here : typed can.scope (e.Binary o k a b) ≡ Some can.kind = subst (λ (z : FlatExpr). typed can.scope z ≡ Some can.kind) is can.typed in
    let known = binary_known o (typed can.scope a) (typed can.scope b) can.kind (agreed_is k can.kind (binary_result o (typed can.scope a) (typed can.scope b)) (sym (typed_binary can.scope o k a b) ∙ here)) in
    let all : ReadsFor can.scope r (e.Binary o k a b) = subst (λ (z : FlatExpr). ReadsFor can.scope r z) is can.reads in
    let reads_a : ReadsFor can.scope r a = part_reads can.scope r (e.Binary o k a b) a (λ s on. reads_binary s o k a b ∙ or_left (reads_in s a) (reads_in s b) on) all in
    let reads_b : ReadsFor can.scope r b = part_reads can.scope r (e.Binary o k a b) b (λ s on. reads_binary s o k a b ∙ or_right (reads_in s a) (reads_in s b) on) all in
    record {
      left = part r a can.scope known.left known.left_is reads_a;
      right = part r b can.scope known.right known.right_is reads_b;
      fits = λ x y v w. binary_fits can.scope.enumerations o known.left known.right can.kind x y known.gives
          (read_values_are_typed can.scope r a known.left x reads_a known.left_is v) (read_values_are_typed can.scope r b known.right y reads_b known.right_is w);
    }

pub call_part : (r : Readings) (whole : FlatExpr) (f : Function) (a : FlatExpr) → whole ≡ e.Call f a → CanEvaluate r whole → CanEvaluate r a
call_part r whole f a is can =
    let here : typed can.scope (e.Call f a) ≡ Some can.kind = subst (λ (z : FlatExpr). typed can.scope z ≡ Some can.kind) is can.typed in
    let known = call_known f (typed can.scope a) can.kind (sym (typed_call can.scope f a) ∙ here) in
    let all : ReadsFor can.scope r (e.Call f a) = subst (λ (z : FlatExpr). ReadsFor can.scope r z) is can.reads in
    part r a can.scope known.0 known.1 (part_reads can.scope r (e.Call f a) a (λ s on. reads_call s f a ∙ on) all)

pub record IndexParts (r : Readings) (a b : FlatExpr) : Type 0 where
  pub vector : CanEvaluate r a
  pub index : CanEvaluate r b

pub index_parts : (r : Readings) (whole a b : FlatExpr) (range : IndexRange) → whole ≡ e.Index a b range → CanEvaluate r whole → IndexParts r a b
index_parts r whole a b range is can =
    let here : typed can.scope (e.Index a b range) ≡ Some can.kind = subst (λ (z : FlatExpr). typed can.scope z ≡ Some can.kind) is can.typed in
    let known = element_known (typed can.scope a) (typed can.scope b) can.kind (sym (typed_index can.scope a b range) ∙ here) in
    let all : ReadsFor can.scope r (e.Index a b range) = subst (λ (z : FlatExpr). ReadsFor can.scope r z) is can.reads in
    record {
      vector = part r a can.scope known.0.0 known.0.1 (part_reads can.scope r (e.Index a b range) a (λ s on. reads_index s a b range ∙ or_left (reads_in s a) (reads_in s b) on) all);
      index = part r b can.scope known.1.0 known.1.1 (part_reads can.scope r (e.Index a b range) b (λ s on. reads_index s a b range ∙ or_right (reads_in s a) (reads_in s b) on) all);
    }
