-- Parts that are put together, and lists of them.
use Rattle.std.proofs.Common.{◌≡◌, ℕ, zero, suc, Bool, true, false, List, [], ◌∷◌, length, Option, Some, None, IfSome, arith, refl, ap, subst}
use Rattle.std.specs.Prelude.{nat_eq}
use Rattle.std.specs.List.{All}
use Rattle.std.proofs.lemmas.Bool.Decides.{nat_tests}
use Rattle.std.proofs.lemmas.List.Elements.{All-nil}
use Rattle.ams_token.specs.declared.token.Place.{Place}
use Rattle.ams_tree.specs.declared.expression.Expr.{Expr}
use Rattle.ams_value.specs.declared.value_type.ValueType.{ValueType}
use Rattle.ams_value.specs.declared.value_type.ValueType.TheVariants.{Boolean, Bit, Integer, Real, Time, Enumeration, BitVector}
use Rattle.flat_expr.specs.declared.expr.FlatExpr.{FlatExpr}
use Rattle.name_scope.specs.declared.thing.Kind.{Kind}
use Rattle.name_scope.specs.declared.thing.Kind.TheVariants.{Of, Vector}
use Rattle.name_scope.specs.declared.scope.Scope.{Scope}
use Rattle.elab_meaning.specs.declared.fault.Cause.TheVariants.{WrongType}
use Rattle.elab_meaning.specs.declared.fault.Notes.{Notes}
use Rattle.elab_meaning.specs.declared.part.Part.{Part}
use Rattle.elab_meaning.specs.declared.part.Part.TheVariants.{Kept, Wrong, Hidden}
use Rattle.elab_meaning.specs.declared.typed.Context.{Context}
use Rattle.elab_meaning.specs.declared.typed.Typed.{Typed}
use Rattle.elab_meaning.specs.Kinds.{same_type, same_kind}
use Rattle.elab_meaning.specs.Parts.{part_of, where_true, judged, both, closed}
use Rattle.elab_meaning.specs.Expressions.{expression}
use Rattle.unit_meaning.specs.Settings.{Setting, typed, of_kind, must_be, given, may_be, ahead, listed, sealed, finished}
use Rattle.design_meaning.specs.Typed as flat
use Rattle.design_meaning.specs.Typed.{HasType}
use Rattle.design_rules.specs.Types.{variables_named}
use Rattle.reading_laws.specs.Growing.{Grows}
use Rattle.reading_laws.proofs.Growing.{grows_same, grows_on, grows_noted}
use Rattle.reading_laws.proofs.Closing.{reading_keeps}
use Rattle.typed_laws.specs.Fitting.{ScopeFits, HasRoom, HasKind, IsRead}
use Rattle.typed_laws.proofs.Typing.{typing_closed}
use Rattle.part_laws.specs.Parts.{OnKept, KeepsPart}

-- ---- types

same_number : (m n : ℕ) → nat_eq m n ≡ true → m ≡ n
same_number m n h = grind (arith, nat_tests)

pub same_type_is : (s t : ValueType) → same_type s t ≡ true → s ≡ t
same_type_is Boolean Boolean h = refl
same_type_is Bit Bit h = refl
same_type_is Integer Integer h = refl
same_type_is Real Real h = refl
same_type_is Time Time h = refl
same_type_is (Enumeration m) (Enumeration n) h = ap Enumeration (same_number m n h)
same_type_is (BitVector m) (BitVector n) h = ap BitVector (same_number m n h)
same_type_is _ _ h = absurd (cc)

-- ---- parts

pub judged_kept : (A B : Type 0) (R : A → Type 0) (S : B → Type 0) (rule : A → Part B) → ((a : A) → R a → OnKept S (rule a)) → (p : Part A) → OnKept R p → OnKept S (judged rule p)
judged_kept A B R S rule h (Kept a) k = h a k
judged_kept A B R S rule h Wrong k = tt
judged_kept A B R S rule h Hidden k = tt

pub both_kept : (A B C : Type 0) (R : A → Type 0) (S : B → Type 0) (U : C → Type 0) (rule : A → B → Part C) → ((a : A) (b : B) → R a → S b → OnKept U (rule a b))
    → (p : Part A) (q : Part B) → OnKept R p → OnKept S q → OnKept U (both rule p q)
both_kept A B C R S U rule h (Kept a) q k l = judged_kept B C S U (rule a) (λ b m. h a b k m) q l
both_kept A B C R S U rule h Wrong (Kept b) k l = tt
both_kept A B C R S U rule h Wrong Wrong k l = tt
both_kept A B C R S U rule h Wrong Hidden k l = tt
both_kept A B C R S U rule h Hidden q k l = tt

pub where_kept : (A : Type 0) (R : A → Type 0) (b : Bool) (a : A) → (b ≡ true → R a) → OnKept R (where_true b a)
where_kept A R true a h = h refl
where_kept A R false a h = tt

grows_closed : (A : Type 0) (place : Place) (p : Part A) (n : Notes) → Grows n (closed place p n)
grows_closed A place (Kept a) n = grows_same n
grows_closed A place Wrong n = grows_noted place WrongType n
grows_closed A place Hidden n = grows_same n

sealed_kept : (A : Type 0) (R : A → Type 0) (p : Part A) → OnKept R p → OnKept R (sealed p)
sealed_kept A R (Kept a) h = h
sealed_kept A R Wrong h = tt
sealed_kept A R Hidden h = tt

module _ (K : Notes → Type 0) (down : (a b : Notes) → Grows a b → K b → K a) where
  pub finished_keeps : (A : Type 0) (R : A → Type 0) (place : Place) (n : Notes) (found : Notes × Part A) → KeepsPart A K R n found → KeepsPart A K R n (finished place found)
  finished_keeps A R place n found h =
      let goes : Grows found.0 (closed place found.1 found.0) = grows_closed A place found.1 found.0 in
      record {
        grows = grows_on n found.0 (closed place found.1 found.0) h.grows goes;
        right = λ k. sealed_kept A R found.1 (h.right (down found.0 (closed place found.1 found.0) goes k));
      }

  -- each of a list is so, and there are as many as were written
  pub record AllOf (A : Type 0) (R : A → Type 0) (size : ℕ) (all : List A) : Type 0 where
    pub each : All R all
    pub count : length all ≡ size

  cons_all : (A : Type 0) (R : A → Type 0) (x : A) (all : List A) → R x → All R all → All R (x ∷ all)
  cons_all A R x all h g zero d lt = h
  cons_all A R x all h g (suc i) d lt = g i d (omega arith)

  -- the rule keeps each of those that are written, where something holds of it
  abbrev pub Every : (B : Type 0) → (B → Type 0) → List B → Type 0
  Every B Q [] = Unit {0}
  Every B Q (x ∷ more) = Q x × Every B Q more

  pub listed_keeps : (A B : Type 0) (Q : B → Type 0) (R : A → Type 0) (rule : B → Notes → Notes × Part A) → ((x : B) (n : Notes) → Q x → KeepsPart A K R n (rule x n))
      → (all : List B) (n : Notes) → Every B Q all → KeepsPart (List A) K (AllOf A R (length all)) n (listed rule all n)
  listed_keeps A B Q R rule h [] n q = record { grows = grows_same n; right = λ k. record { each = All-nil R; count = refl } }
  listed_keeps A B Q R rule h (x ∷ more) n q =
      let first = rule x n in
      let one : KeepsPart A K R n first = h x n q.0 in
      let rest = listed rule more first.0 in
      let others : KeepsPart (List A) K (AllOf A R (length more)) first.0 rest = listed_keeps A B Q R rule h more first.0 q.1 in
      record {
        grows = grows_on n first.0 rest.0 one.grows others.grows;
        right = λ k.
            both_kept A (List A) (List A) R (AllOf A R (length more)) (AllOf A R (suc (length more))) ahead
            (λ a all r s. record { each = cons_all A R a all r s.each; count = ap suc s.count }) first.1 rest.1
            (one.right (down first.0 rest.0 others.grows k)) (others.right k);
      }

-- ---- expressions

module _ (objects : flat.Scope) (Sees : ℕ → Type 0) (w : Setting) (scope : Scope) (fits : ScopeFits objects Sees scope) where
  part_kept : (o : Option Typed) → IfSome o (IsRead objects Sees) → OnKept (IsRead objects Sees) (part_of o)
  part_kept (Some t) h = h
  part_kept None h = tt

  pub typed_keeps : (c : Context) (x : Expr) (n : Notes) → KeepsPart Typed (HasRoom objects) (IsRead objects Sees) n (typed w scope c x n)
  typed_keeps c x n =
      let read = reading_keeps w.texts scope (HasRoom objects) (IsRead objects Sees) (typing_closed objects Sees w.texts scope fits) x c n in
      record { grows = read.grows; right = λ k. part_kept (expression w.texts scope x c n).1 (read.right k) }

  -- an expression of this type
  pub record IsOfKind (k : ValueType) (e : FlatExpr) : Type 0 where
    pub typed : HasType objects e k
    pub visible : All Sees (variables_named e)

  pub kind_is : (e : FlatExpr) (k : Kind) (t : ValueType) → HasKind objects e k → same_kind k (Of t) ≡ true → HasType objects e t
  kind_is e (Of s) t h is = subst (λ (z : ValueType). HasType objects e z) (same_type_is s t is) h
  kind_is e Vector t h is = absurd h

  of_kind_kept : (k : ValueType) (x : Typed) → IsRead objects Sees x → OnKept (IsOfKind k) (of_kind (Of k) x)
  of_kind_kept k x h = where_kept FlatExpr (IsOfKind k) (same_kind x.kind (Of k)) x.expr (λ is. record { typed = kind_is x.expr x.kind k h.typed is; visible = h.visible })

  pub must_keeps : (c : Context) (k : ValueType) (x : Expr) (n : Notes) → KeepsPart FlatExpr (HasRoom objects) (IsOfKind k) n (must_be w scope c (Of k) x n)
  must_keeps c k x n =
      let read = typed_keeps c x n in
      record { grows = read.grows; right = λ room. judged_kept Typed FlatExpr (IsRead objects Sees) (IsOfKind k) (of_kind (Of k)) (of_kind_kept k) (typed w scope c x n).1 (read.right room) }

  pub may_keeps : (c : Context) (k : ValueType) (x : Option Expr) (n : Notes) → KeepsPart (Option FlatExpr) (HasRoom objects) (λ (o : Option FlatExpr). IfSome o (IsOfKind k)) n (may_be w scope c (Of k) x n)
  may_keeps c k None n = record { grows = grows_same n; right = λ room. tt }
  may_keeps c k (Some x) n =
      let read = must_keeps c k x n in
      record {
        grows = read.grows;
        right = λ room. judged_kept FlatExpr (Option FlatExpr) (IsOfKind k) (λ (o : Option FlatExpr). IfSome o (IsOfKind k)) given (λ e h. h) (must_be w scope c (Of k) x n).1 (read.right room);
      }
