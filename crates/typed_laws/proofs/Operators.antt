-- Operators and functions of well-typed operands.
use Rattle.std.proofs.Common.{◌≡◌, ℕ, Bool, true, List, Option, Some, None, IfSome, arith, refl, ap, sym, ◌∙◌, subst}
use Rattle.std.specs.Prelude.{nat_eq}
use Rattle.std.specs.List.{All}
use Rattle.std.proofs.lemmas.Bool.Decides.{nat_tests}
use Rattle.std.proofs.lemmas.List.Elements.{All-append}
use Rattle.ams_token.specs.declared.token.Place.{Place}
use Rattle.ams_value.specs.declared.op.UnaryOperator.{UnaryOperator}
use Rattle.ams_value.specs.declared.op.BinaryOperator.{BinaryOperator}
use Rattle.ams_value.specs.declared.value_type.ValueType.{ValueType}
use Rattle.ams_value.specs.declared.value_type.ValueType.TheVariants.{Boolean, Bit, Integer, Real, Time, Enumeration, BitVector}
use Rattle.ams_value.specs.Types.{unary_type, binary_type}
use Rattle.flat_expr.specs.declared.expr.FlatExpr.{FlatExpr}
use Rattle.flat_expr.specs.declared.expr.FlatExpr.TheVariants as e
use Rattle.name_scope.specs.declared.thing.Kind.{Kind}
use Rattle.name_scope.specs.declared.thing.Kind.TheVariants.{Of, Vector}
use Rattle.elab_meaning.specs.declared.fault.Notes.{Notes}
use Rattle.elab_meaning.specs.declared.typed.Typed.{Typed}
use Rattle.elab_meaning.specs.Kinds.{value_type, as_kind, unary_kind, binary_kind}
use Rattle.elab_meaning.specs.Expressions.{prefixed, unary_at, joined, binary_at, parenthesized}
use Rattle.design_meaning.specs.Typed as flat
use Rattle.design_meaning.specs.Typed.{HasType, typed, type_at, same_type, if_true, agreed, unary_result, binary_result}
use Rattle.design_rules.specs.Types.{variables_named, named_at}
use Rattle.typed_laws.specs.Fitting.{HasKind, IsRead}
use Rattle.typed_laws.proofs.Flat.{at_unary, at_binary}

-- ---- stated types

same_number : (m : ℕ) → nat_eq m m ≡ true
same_number m = grind (arith, nat_tests)

same_type_same : (k : ValueType) → same_type k k ≡ true
same_type_same Boolean = refl
same_type_same Bit = refl
same_type_same Integer = refl
same_type_same Real = refl
same_type_same Time = refl
same_type_same (Enumeration m) = same_number m
same_type_same (BitVector m) = same_number m

pub agreed_on : (k : ValueType) (o : Option ValueType) → o ≡ Some k → agreed k o ≡ Some k
agreed_on k o h = ap (agreed k) h ∙ ap (λ (b : Bool). if_true b k) (same_type_same k)

pub same_some : {A : Type 0} {a b : A} → Some a ≡ Some b → a ≡ b
same_some e = cc

module _ (objects : flat.Scope) (Sees : ℕ → Type 0) where
  -- ---- one operand

  unary_has : (op : UnaryOperator) (a : FlatExpr) (o : Option ValueType) (k : Kind) → unary_result op (typed objects a) ≡ o → as_kind o ≡ Some k → HasKind objects (e.Unary op (value_type k) a) k
  unary_has op a (Some t) k h is =
      let same : Of t ≡ k = same_some is in
      subst (λ (z : Kind). HasKind objects (e.Unary op (value_type z) a) z) same (at_unary (Option ValueType) (type_at objects) op t a ∙ agreed_on t (unary_result op (typed objects a)) h)
  unary_has op a None k h is = absurd (cc)

  unary_kept : (op : UnaryOperator) (a : FlatExpr) (s k : Kind) → HasKind objects a s → unary_kind op s ≡ Some k → HasKind objects (e.Unary op (value_type k) a) k
  unary_kept op a (Of s) k h is = unary_has op a (unary_type op s) k (ap (unary_result op) h) is
  unary_kept op a Vector k h is = absurd h

  prefixed_right : (op : UnaryOperator) (place : Place) (a : Typed) (k : Option Kind) (n : Notes) → unary_kind op a.kind ≡ k → IsRead objects Sees a → IfSome (prefixed op place a k n).1 (IsRead objects Sees)
  prefixed_right op place a (Some k) n is h =
      record {
        typed = unary_kept op a.expr a.kind k h.typed is;
        visible = subst (All Sees) (sym (at_unary (List ℕ) named_at op (value_type k) a.expr)) h.visible;
      }
  prefixed_right op place a None n is h = tt

  pub unary_right : (op : UnaryOperator) (place : Place) (a : Option Typed) (n : Notes) → IfSome a (IsRead objects Sees) → IfSome (unary_at op place a n).1 (IsRead objects Sees)
  unary_right op place (Some a) n h = prefixed_right op place a (unary_kind op a.kind) n refl h
  unary_right op place None n h = tt

  -- ---- two operands

  binary_has : (op : BinaryOperator) (a b : FlatExpr) (o : Option ValueType) (k : Kind) → binary_result op (typed objects a) (typed objects b) ≡ o → as_kind o ≡ Some k
      → HasKind objects (e.Binary op (value_type k) a b) k
  binary_has op a b (Some t) k h is =
      let same : Of t ≡ k = same_some is in
      subst (λ (z : Kind). HasKind objects (e.Binary op (value_type z) a b) z) same
      (at_binary (Option ValueType) (type_at objects) op t a b ∙ agreed_on t (binary_result op (typed objects a) (typed objects b)) h)
  binary_has op a b None k h is = absurd (cc)

  binary_kept : (op : BinaryOperator) (a b : FlatExpr) (s u k : Kind) → HasKind objects a s → HasKind objects b u → binary_kind op s u ≡ Some k → HasKind objects (e.Binary op (value_type k) a b) k
  binary_kept op a b (Of s) (Of u) k h g is =
      binary_has op a b (binary_type op s u) k (ap (λ (o : Option ValueType). binary_result op o (typed objects b)) h ∙ ap (binary_result op (Some s)) g) is
  binary_kept op a b (Of s) Vector k h g is = absurd g
  binary_kept op a b Vector u k h g is = absurd h

  joined_right : (op : BinaryOperator) (a b : Typed) (k : Option Kind) (n : Notes) → binary_kind op a.kind b.kind ≡ k → IsRead objects Sees a → IsRead objects Sees b
      → IfSome (joined op a b k n).1 (IsRead objects Sees)
  joined_right op a b (Some k) n is h g =
      record {
        typed = binary_kept op a.expr b.expr a.kind b.kind k h.typed g.typed is;
        visible =
            subst (All Sees) (sym (at_binary (List ℕ) named_at op (value_type k) a.expr b.expr))
            (All-append Sees (variables_named a.expr) (variables_named b.expr) h.visible g.visible);
      }
  joined_right op a b None n is h g = tt

  pub binary_right : (op : BinaryOperator) (a b : Option Typed) (n : Notes) → IfSome a (IsRead objects Sees) → IfSome b (IsRead objects Sees) → IfSome (binary_at op a b n).1 (IsRead objects Sees)
  binary_right op (Some a) (Some b) n h g = joined_right op a b (binary_kind op a.kind b.kind) n refl h g
  binary_right op (Some a) None n h g = tt
  binary_right op None b n h g = tt

  pub paren_right : (place : Place) (a : Option Typed) (n : Notes) → IfSome a (IsRead objects Sees) → IfSome (parenthesized place a n).1 (IsRead objects Sees)
  paren_right place (Some a) n h = record { typed = h.typed; visible = h.visible }
  paren_right place None n h = tt
