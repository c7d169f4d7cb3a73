-- What is known of an operator's, a function's or an element's value is of its type.
use Rattle.std.proofs.Common.{◌≡◌, ℕ, List, Option, Some, None, Result, Ok, Err, IfOk, IsTrue, refl, sym, subst}
use Rattle.std.specs.Prelude.{IsSome}
use Rattle.ams_value.specs.declared.val.Val.{Val}
use Rattle.ams_value.specs.declared.val.Val.TheVariants as val
use Rattle.ams_value.specs.declared.fault.ValFault.{ValFault}
use Rattle.ams_value.specs.declared.op.UnaryOperator.{UnaryOperator}
use Rattle.ams_value.specs.declared.op.BinaryOperator.{BinaryOperator}
use Rattle.ams_value.specs.declared.value_type.ValueType.{ValueType}
use Rattle.ams_value.specs.declared.value_type.ValueType.TheVariants.{Bit, Integer, Real}
use Rattle.ams_value.specs.Types.{type_of, is_in_range, unary_type, binary_type, IsTypedUnary, IsTypedBinary}
use Rattle.ams_value.specs.Values.{unary_of, binary_of, decided_by}
use Rattle.ams_value.specs.Laws.{value_of_in_range}
use Rattle.ams_value.proofs.Typed.{results_typed}
use Rattle.ams_value.proofs.Ranged.{results_in_range}
use Rattle.flat_expr.specs.Expr.{kind_of_call}
use Rattle.flat_expr.specs.declared.expr.Function.{Function}
use Rattle.flat_expr.specs.declared.expr.Function.TheVariants as function
use Rattle.flat_expr.specs.declared.expr.IndexRange.{IndexRange}
use Rattle.name_scope.specs.declared.thing.Kind.{Kind}
use Rattle.name_scope.specs.declared.thing.Kind.TheVariants.{Of, Vector}
use Rattle.name_scope.specs.declared.thing.SubtypeConstraint.{SubtypeConstraint}
use Rattle.name_scope.specs.declared.thing.SubtypeConstraint.TheVariants as constraint
use Rattle.name_scope.specs.declared.thing.Thing.{Thing}
use Rattle.name_scope.specs.declared.thing.Thing.TheVariants as thing
use Rattle.elab_meaning.specs.declared.typed.StaticValue.{StaticValue}
use Rattle.elab_meaning.specs.declared.typed.StaticValue.TheVariants.{Known, Faulty, Later, Changing}
use Rattle.elab_meaning.specs.Kinds.{as_kind, unary_kind, binary_kind}
use Rattle.elab_meaning.specs.Names.{of_real, conversion, function_at}
use Rattle.elab_meaning.specs.Values as static
use Rattle.design_meaning.specs.declared.fault.EvalFault.{EvalFault}
use Rattle.design_meaning.specs.Value.{called, element}
use Rattle.design_meaning.specs.Typed as flat
use Rattle.design_meaning.specs.Typed.{IsOfType, call_type}
use Rattle.value_types.proofs.Types.{decided_typed, called_typed, element_typed}
use Rattle.typed_laws.specs.Fitting.{FitsValue}
use Rattle.sound_laws.specs.Sound.{GivesValue}
use Rattle.static_laws.specs.Known.{OnKnown}
use Rattle.static_laws.proofs.Values.{function_known, element_known_of}

same_some : {A : Type 0} {a b : A} → Some a ≡ Some b → a ≡ b
same_some e = cc

some_is : (o : Option ValueType) (k : ValueType) → o ≡ Some k → IsSome o
some_is (Some t) k h = refl
some_is None k h = absurd (cc)

of_type : (sizes : List ℕ) (o : Option ValueType) (k : ValueType) (v : Val) → o ≡ Some k → o ≡ Some (type_of v) → IsTrue (is_in_range sizes v) → IsOfType sizes k v
of_type sizes o k v h is range = record { kind_is = cc; range = range }

answered_sound : (P : Val → Type 0) (m : Result Val ValFault) → ((v : Val) → m ≡ Ok v → P v) → OnKnown P (static.answered m)
answered_sound P (Ok v) h = h v refl
answered_sound P (Err f) h = tt

-- where a known value is a result, what holds of results holds of it
by_result : (P : Val → Type 0) (m : Result Val EvalFault) (s : StaticValue) → IfOk m P → OnKnown (λ w. m ≡ Ok w) s → OnKnown P s
by_result P m (Known w) h is = subst (λ (z : Result Val EvalFault). IfOk z P) is h
by_result P m Faulty h is = tt
by_result P m Later h is = tt
by_result P m Changing h is = tt

unary_ok : (sizes : List ℕ) (op : UnaryOperator) (t k : ValueType) (x : Val) → unary_type op t ≡ Some k → IsOfType sizes t x → OnKnown (IsOfType sizes k) (static.answered (unary_of op x))
unary_ok sizes op t k x h of =
    let here : unary_type op (type_of x) ≡ Some k = subst (λ (z : ValueType). unary_type op z ≡ Some k) (sym of.kind_is) h in
    let fits : IsTypedUnary op x = record { operand = value_of_in_range sizes x of.range; known = some_is (unary_type op (type_of x)) k here } in
    answered_sound (IsOfType sizes k) (unary_of op x) (λ v e. of_type sizes (unary_type op (type_of x)) k v here (results_typed.unary op x v fits e).typed (results_in_range.unary sizes op x v fits e))

binary_ok : (sizes : List ℕ) (op : BinaryOperator) (s t k : ValueType) (x y : Val) → binary_type op s t ≡ Some k → IsOfType sizes s x → IsOfType sizes t y
    → OnKnown (IsOfType sizes k) (static.answered (binary_of op x y))
binary_ok sizes op s t k x y h of to =
    let left : binary_type op (type_of x) t ≡ Some k = subst (λ (z : ValueType). binary_type op z t ≡ Some k) (sym of.kind_is) h in
    let here : binary_type op (type_of x) (type_of y) ≡ Some k = subst (λ (z : ValueType). binary_type op (type_of x) z ≡ Some k) (sym to.kind_is) left in
    let fits : IsTypedBinary op x y = record {
      left = value_of_in_range sizes x of.range;
      right = value_of_in_range sizes y to.range;
      known = some_is (binary_type op (type_of x) (type_of y)) k here;
    } in
    answered_sound (IsOfType sizes k) (binary_of op x y)
    (λ v e. of_type sizes (binary_type op (type_of x) (type_of y)) k v here (results_typed.binary op x y v fits e).typed (results_in_range.binary sizes op x y v fits e))

unless_ok : (sizes : List ℕ) (op : BinaryOperator) (s t k : ValueType) (x : Val) (o : Option Val) (y : StaticValue) → decided_by op x ≡ o → binary_type op s t ≡ Some k
    → IsOfType sizes s x → OnKnown (IsOfType sizes t) y → OnKnown (IsOfType sizes k) (static.unless_decided o op x y)
unless_ok sizes op s t k x (Some d) y is h of to = decided_typed sizes op x d t k (subst (λ (z : ValueType). binary_type op z t ≡ Some k) (sym of.kind_is) h) is
unless_ok sizes op s t k x None (Known w) is h of to = binary_ok sizes op s t k x w h of to
unless_ok sizes op s t k x None Faulty is h of to = tt
unless_ok sizes op s t k x None Later is h of to = tt
unless_ok sizes op s t k x None Changing is h of to = tt

-- of two parts, where both are known or the second has a fault
together_sound : (P Q R : Val → Type 0) (f : Val → StaticValue → StaticValue) → ((v : Val) (y : StaticValue) → P v → OnKnown Q y → OnKnown R (f v y)) → (x y : StaticValue)
    → OnKnown P x → OnKnown Q y → OnKnown R (static.together f x y)
together_sound P Q R f h (Known v) (Known w) k l = h v (Known w) k l
together_sound P Q R f h (Known v) Faulty k l = h v Faulty k tt
together_sound P Q R f h (Known v) Later k l = tt
together_sound P Q R f h (Known v) Changing k l = tt
together_sound P Q R f h Faulty (Known w) k l = tt
together_sound P Q R f h Faulty Faulty k l = tt
together_sound P Q R f h Faulty Later k l = tt
together_sound P Q R f h Faulty Changing k l = tt
together_sound P Q R f h Later (Known w) k l = tt
together_sound P Q R f h Later Faulty k l = tt
together_sound P Q R f h Later Later k l = tt
together_sound P Q R f h Later Changing k l = tt
together_sound P Q R f h Changing y k l = tt

anything : (s : StaticValue) → OnKnown (λ (v : Val). Unit {0}) s
anything (Known v) = tt
anything Faulty = tt
anything Later = tt
anything Changing = tt

open_sound : (P : Val → Type 0) (x y : StaticValue) → OnKnown P (static.open_value x y)
open_sound P x y = together_sound (λ (v : Val). Unit {0}) (λ (v : Val). Unit {0}) P (λ a b. Later) (λ v s k l. tt) x y (anything x) (anything y)

module _ (objects : flat.Scope) where
  abbrev pub Fits : Kind → Val → Type 0
  Fits k v = FitsValue objects k (Some v)

  -- ---- operators

  by_kind : (o : Option ValueType) (k : Kind) (s : StaticValue) → as_kind o ≡ Some k → ((t : ValueType) → o ≡ Some t → OnKnown (IsOfType objects.enumerations t) s) → OnKnown (Fits k) s
  by_kind (Some t) k s is h =
      let same : Of t ≡ k = same_some is in
      subst (λ (z : Kind). OnKnown (Fits z) s) same (h t refl)
  by_kind None k s is h = absurd (cc)

  unary_of_type : (op : UnaryOperator) (t k : ValueType) (x : StaticValue) → unary_type op t ≡ Some k → OnKnown (IsOfType objects.enumerations t) x → OnKnown (IsOfType objects.enumerations k) (static.unary_value op x)
  unary_of_type op t k (Known v) is h = unary_ok objects.enumerations op t k v is h
  unary_of_type op t k Faulty is h = tt
  unary_of_type op t k Later is h = tt
  unary_of_type op t k Changing is h = tt

  no_vector : (op : UnaryOperator) (k : Kind) (x : StaticValue) → OnKnown (Fits Vector) x → OnKnown (Fits k) (static.unary_value op x)
  no_vector op k (Known v) h = absurd h
  no_vector op k Faulty h = tt
  no_vector op k Later h = tt
  no_vector op k Changing h = tt

  pub unary_sound : (op : UnaryOperator) (t k : Kind) (x : StaticValue) → unary_kind op t ≡ Some k → OnKnown (Fits t) x → OnKnown (Fits k) (static.unary_value op x)
  unary_sound op (Of t) k x is h = by_kind (unary_type op t) k (static.unary_value op x) is (λ u e. unary_of_type op t u x e h)
  unary_sound op Vector k x is h = no_vector op k x h

  binary_of_type : (op : BinaryOperator) (s t k : ValueType) (x y : StaticValue) → binary_type op s t ≡ Some k → OnKnown (IsOfType objects.enumerations s) x → OnKnown (IsOfType objects.enumerations t) y
      → OnKnown (IsOfType objects.enumerations k) (static.binary_value op x y)
  binary_of_type op s t k x y is h g =
      together_sound (IsOfType objects.enumerations s) (IsOfType objects.enumerations t) (IsOfType objects.enumerations k) (λ a. static.unless_decided (decided_by op a) op a)
      (λ v z of to. unless_ok objects.enumerations op s t k v (decided_by op v) z refl is of to) x y h g

  pub joined_sound : (op : BinaryOperator) (s t k : Kind) (x y : StaticValue) → binary_kind op s t ≡ Some k → OnKnown (Fits s) x → OnKnown (Fits t) y → OnKnown (Fits k) (static.joined_value op s t x y)
  joined_sound op (Of s) (Of t) k x y is h g = by_kind (binary_type op s t) k (static.binary_value op x y) is (λ u e. binary_of_type op s t u x y e h g)
  joined_sound op (Of s) Vector k x y is h g = open_sound (Fits k) x y
  joined_sound op Vector t k x y is h g = open_sound (Fits k) x y

  -- ---- functions

  function_sound : (f : Function) (t : ValueType) (v : Val) → call_type f (Some t) ≡ Some (kind_of_call f) → IsOfType objects.enumerations t v → OnKnown (IsOfType objects.enumerations (kind_of_call f)) (static.call_of f v)
  function_sound f t v is of =
      by_result (IsOfType objects.enumerations (kind_of_call f)) (called f v) (static.call_of f v)
      (called_typed objects.enumerations f v (kind_of_call f) of.range (subst (λ (z : ValueType). call_type f (Some z) ≡ Some (kind_of_call f)) (sym of.kind_is) is)) (function_known f v)

  value_sound : (f : Function) (t : ValueType) (x : StaticValue) → call_type f (Some t) ≡ Some (kind_of_call f) → OnKnown (IsOfType objects.enumerations t) x
      → OnKnown (IsOfType objects.enumerations (kind_of_call f)) (static.call_value f x)
  value_sound f t (Known v) is h = function_sound f t v is h
  value_sound f t Faulty is h = tt
  value_sound f t Later is h = tt
  value_sound f t Changing is h = tt

  real_sound : (g f : Function) (k : Kind) (x : StaticValue) → of_real g k ≡ Some f → call_type g (Some Real) ≡ Some (kind_of_call g) → OnKnown (Fits k) x → OnKnown (Fits (Of (kind_of_call f))) (static.call_value f x)
  real_sound g f (Of Real) x is h of =
      let same : g ≡ f = same_some is in
      subst (λ (z : Function). OnKnown (Fits (Of (kind_of_call z))) (static.call_value z x)) same (value_sound g Real x h of)
  real_sound g f _ x is h of = absurd (cc)

  conversion_sound : (g f : Function) (k : Kind) (x : StaticValue) → conversion g k ≡ Some f → OnKnown (Fits k) x → OnKnown (Fits (Of (kind_of_call f))) (static.call_value f x)
  conversion_sound function.Real f (Of Integer) x is of =
      let same : function.Real ≡ f = same_some is in
      subst (λ (z : Function). OnKnown (Fits (Of (kind_of_call z))) (static.call_value z x)) same (value_sound function.Real Integer x refl of)
  conversion_sound function.Integer f (Of Real) x is of =
      let same : function.Integer ≡ f = same_some is in
      subst (λ (z : Function). OnKnown (Fits (Of (kind_of_call z))) (static.call_value z x)) same (value_sound function.Integer Real x refl of)
  conversion_sound g f k x is of = absurd (cc)

  pub call_sound : (t : Thing) (f : Function) (k : Kind) (x : StaticValue) → GivesValue objects t → function_at t k ≡ Some f → OnKnown (Fits k) x
      → OnKnown (Fits (Of (kind_of_call f))) (static.call_value f x)
  call_sound (thing.Function g) f k x h is of = real_sound g f k x is h of
  call_sound (thing.Type s (Some g)) f k x h is of = conversion_sound g f k x is of
  call_sound _ f k x h is of = absurd (cc)

  -- ---- elements

  at_index : (range : IndexRange) (v : Val) (y : StaticValue) → OnKnown (Fits (Of Bit)) (static.element_of range v y)
  at_index range v (Known i) = by_result (IsOfType objects.enumerations Bit) (element range v i) (static.element_of range v (Known i)) (element_typed objects.enumerations range v i) (element_known_of range v i)
  at_index range v Faulty = no_index range v
    where
      no_index : (range : IndexRange) (v : Val) → OnKnown (Fits (Of Bit)) (static.element_of range v Faulty)
      no_index range (val.Bits length content) = tt
      no_index range _ = tt
  at_index range v Later = no_index range v
    where
      no_index : (range : IndexRange) (v : Val) → OnKnown (Fits (Of Bit)) (static.element_of range v Later)
      no_index range (val.Bits length content) = tt
      no_index range _ = tt
  at_index range v Changing = no_index range v
    where
      no_index : (range : IndexRange) (v : Val) → OnKnown (Fits (Of Bit)) (static.element_of range v Changing)
      no_index range (val.Bits length content) = tt
      no_index range _ = tt

  pub element_sound : (c : SubtypeConstraint) (x y : StaticValue) → OnKnown (Fits (Of Bit)) (static.element_value c x y)
  element_sound (constraint.Index range) x y =
      together_sound (λ (v : Val). Unit {0}) (λ (v : Val). Unit {0}) (Fits (Of Bit)) (static.element_of range) (λ v z k l. at_index range v z) x y (anything x) (anything y)
  element_sound (constraint.Range c) x y = open_sound (Fits (Of Bit)) x y
  element_sound constraint.Later x y = open_sound (Fits (Of Bit)) x y
