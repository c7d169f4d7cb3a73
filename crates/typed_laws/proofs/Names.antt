-- Names, calls and elements.
use Rattle.std.proofs.Common.{◌≡◌, ℕ, zero, suc, Bool, true, false, if◌then◌else◌, List, [], ◌∷◌, Option, Some, None, IfSome, IsTrue, arith, refl, ap, sym, ◌∙◌, subst}
use Rattle.std.specs.Prelude.{◌&&◌}
use Rattle.std.specs.List.{slice_get, All}
use Rattle.std.proofs.lemmas.List.Elements.{All-append, All-nil}
use Rattle.ams_token.specs.declared.token.Place.{Place}
use Rattle.ams_tree.specs.declared.expression.Name.{Name}
use Rattle.ams_tree.specs.declared.expression.NumberValue.{NumberValue}
use Rattle.ams_tree.specs.declared.expression.Literal.{Literal}
use Rattle.ams_value.specs.declared.val.Val.{Val}
use Rattle.ams_value.specs.declared.value_type.ValueType.{ValueType}
use Rattle.ams_value.specs.declared.value_type.ValueType.TheVariants.{Bit, Integer, Real, Enumeration, BitVector}
use Rattle.ams_value.specs.Types.{type_of, is_in_range}
use Rattle.flat_expr.specs.Expr.{kind_of_call}
use Rattle.flat_expr.specs.declared.expr.SignalName.TheVariants as signal
use Rattle.flat_expr.specs.declared.expr.Unknown.TheVariants as unknown
use Rattle.flat_expr.specs.declared.expr.Function.{Function}
use Rattle.flat_expr.specs.declared.expr.Function.TheVariants as function
use Rattle.flat_expr.specs.declared.expr.IndexRange.{IndexRange}
use Rattle.flat_expr.specs.declared.expr.FlatExpr.{FlatExpr}
use Rattle.flat_expr.specs.declared.expr.FlatExpr.TheVariants as e
use Rattle.name_scope.specs.declared.thing.Kind.{Kind}
use Rattle.name_scope.specs.declared.thing.Kind.TheVariants.{Of, Vector}
use Rattle.name_scope.specs.declared.thing.Subtype.{Subtype}
use Rattle.name_scope.specs.declared.thing.Thing.{Thing}
use Rattle.name_scope.specs.declared.thing.Thing.TheVariants as thing
use Rattle.elab_meaning.specs.declared.fault.Cause.TheVariants.{WrongType}
use Rattle.elab_meaning.specs.declared.fault.Notes.{Notes}
use Rattle.elab_meaning.specs.declared.typed.Context.{Context}
use Rattle.elab_meaning.specs.declared.typed.Scale.{Scale}
use Rattle.elab_meaning.specs.declared.typed.Surrounding.{Surrounding}
use Rattle.elab_meaning.specs.declared.typed.Surrounding.TheVariants as surrounding
use Rattle.elab_meaning.specs.declared.typed.Typed.{Typed}
use Rattle.elab_meaning.specs.Notes.{noted, text_of}
use Rattle.elab_meaning.specs.Kinds.{is_vector, same_kind, value_type}
use Rattle.elab_meaning.specs.Literals.{in_range, number_literal, content_literal, time_literal, scaled_at, time_at, scale_of, number_at, literal_at}
use Rattle.elab_meaning.specs.Names.{signal_value, now_at, constant, named, of_real, conversion, function_at, vector_at, index_range, element_at, element_of_name, indexed, applied, call_with, call_at}
use Rattle.design_meaning.specs.Typed as flat
use Rattle.design_meaning.specs.Typed.{HasType, IsOfType, typed, type_at, if_true, agreed, signal_type, unknown_type, call_type, element_type}
use Rattle.design_rules.specs.Types.{variables_named, named_at}
use Rattle.typed_laws.specs.Fitting.{FitsValue, FitsKind, FitsThing, HasKind, IsRead}
use Rattle.typed_laws.proofs.Flat.{at_literal, at_signal, at_unknown, at_variable, at_now_time, at_now_real, at_call, at_index}
use Rattle.typed_laws.proofs.Literals.{is_below, number_in, time_in, content_in}
use Rattle.typed_laws.proofs.Operators.{agreed_on, same_some}

module _ (objects : flat.Scope) (Sees : ℕ → Type 0) where
  -- ---- literals

  pub literal_has : (v : Val) → IsTrue (is_in_range objects.enumerations v) → HasType objects (e.Literal v) (type_of v)
  literal_has v h = at_literal (Option ValueType) (type_at objects) v ∙ ap (λ (b : Bool). if_true b (type_of v)) h

  pub literal_sees : (v : Val) → All Sees (variables_named (e.Literal v))
  literal_sees v = subst (All Sees) (sym (at_literal (List ℕ) named_at v)) (All-nil Sees)

  in_range_right : (place : Place) (o : Option Val) (n : Notes) → IfSome o (λ v. IsTrue (is_in_range objects.enumerations v)) → IfSome (in_range place o n).1 (IsRead objects Sees)
  in_range_right place (Some v) n h = record { typed = literal_has v h; visible = literal_sees v }
  in_range_right place None n h = tt

  scaled_right : (place : Place) (x : NumberValue) (unit : Name) (found : Option Thing) (s : Option Scale) (n : Notes) → IfSome (scaled_at place x unit found s n).1 (IsRead objects Sees)
  scaled_right place x unit found (Some s) n = in_range_right place (time_literal x s) n (time_in objects.enumerations x s)
  scaled_right place x unit None None n = tt
  scaled_right place x unit (Some t) None n = tt

  time_right : (place : Place) (x : NumberValue) (v : Option Val) (unit : Name) (found : Option Thing) (s : Option Scale) (n : Notes)
      → IfSome (time_at place x v unit found s n).1 (IsRead objects Sees)
  time_right place x (Some v) unit found s n = scaled_right place x unit found s n
  time_right place x None unit found s n = tt

  pub number_right : (texts : List (List ℕ)) (things : ℕ → Option Thing) (place : Place) (x : NumberValue) (unit : Option Name) (n : Notes)
      → IfSome (number_at texts things place x unit n).1 (IsRead objects Sees)
  number_right texts things place x None n = in_range_right place (number_literal x) n (number_in objects.enumerations x)
  number_right texts things place x (Some unit) n = time_right place x (number_literal x) unit (things unit.number) (scale_of (text_of texts unit.number)) n

  pub literal_right : (texts : List (List ℕ)) (x : Literal) (n : Notes) → IfSome (literal_at texts x.place x.value n).1 (IsRead objects Sees)
  literal_right texts x n = in_range_right x.place (content_literal texts x.value) n (content_in objects.enumerations texts x.value)

  -- ---- names

  value_has : (k : Kind) (v : Val) → FitsValue objects k (Some v) → HasKind objects (e.Literal v) k
  value_has (Of k) v h = literal_has v h.range ∙ ap Some h.kind_is
  value_has Vector v h = absurd h

  no_value : (k : Kind) → FitsValue objects k None → ⊥
  no_value (Of k) h = h
  no_value Vector h = h

  constant_right : (place : Place) (k : Kind) (v : Option Val) (n : Notes) → FitsValue objects k v → IfSome (constant place k v n).1 (IsRead objects Sees)
  constant_right place k (Some v) n h = record { typed = value_has k v h; visible = literal_sees v }
  constant_right place k None n h = absurd (no_value k h)

  signal_has : (i : ℕ) (k : Kind) → FitsKind (slice_get objects.signals i) k → HasKind objects (signal_value i k) k
  signal_has i (Of k) h = at_signal (Option ValueType) (type_at objects) (signal.Signal i) k ∙ agreed_on k (slice_get objects.signals i) h
  signal_has i Vector h = absurd h

  variable_has : (i : ℕ) (k : Kind) → FitsKind (slice_get objects.variables i) k → HasKind objects (e.Variable i (value_type k)) k
  variable_has i (Of k) h = at_variable (Option ValueType) (type_at objects) i k ∙ agreed_on k (slice_get objects.variables i) h
  variable_has i Vector h = absurd h

  seen_alone : (i : ℕ) → Sees i → All Sees (i ∷ [])
  seen_alone i h zero d lt = h
  seen_alone i h (suc k) d lt = absurd (omega arith)

  now_right : (c : Context) (s : Surrounding) (place : Place) (n : Notes) → IfSome (now_at c s place n).1 (IsRead objects Sees)
  now_right c surrounding.Equation place n =
      record { typed = at_now_real (Option ValueType) (type_at objects); visible = subst (All Sees) (sym (at_now_real (List ℕ) named_at)) (All-nil Sees) }
  now_right c surrounding.Condition place n =
      record { typed = at_now_real (Option ValueType) (type_at objects); visible = subst (All Sees) (sym (at_now_real (List ℕ) named_at)) (All-nil Sees) }
  now_right c surrounding.Declaration place n =
      record { typed = at_now_time (Option ValueType) (type_at objects); visible = subst (All Sees) (sym (at_now_time (List ℕ) named_at)) (All-nil Sees) }
  now_right c surrounding.Process place n =
      record { typed = at_now_time (Option ValueType) (type_at objects); visible = subst (All Sees) (sym (at_now_time (List ℕ) named_at)) (All-nil Sees) }

  named_of : (c : Context) (x : Name) (t : Thing) (n : Notes) → FitsThing objects Sees t → IfSome (named c x (Some t) n).1 (IsRead objects Sees)
  named_of c x (thing.Constant s v) n h = constant_right x.place s.kind v n h
  named_of c x (thing.Literal v) n h = record { typed = literal_has v h; visible = literal_sees v }
  named_of c x (thing.Signal i s a) n h =
      record {
        typed = signal_has i s.kind h;
        visible = subst (All Sees) (sym (at_signal (List ℕ) named_at (signal.Signal i) (value_type s.kind))) (All-nil Sees);
      }
  named_of c x thing.Domain n h =
      record {
        typed = at_signal (Option ValueType) (type_at objects) signal.Domain (Enumeration 0);
        visible = subst (All Sees) (sym (at_signal (List ℕ) named_at signal.Domain (Enumeration 0))) (All-nil Sees);
      }
  named_of c x (thing.Quantity i q) n h =
      record {
        typed = at_unknown (Option ValueType) (type_at objects) (unknown.Quantity i) ∙ ap (λ (b : Bool). if_true b Real) (is_below i objects.quantities h);
        visible = subst (All Sees) (sym (at_unknown (List ℕ) named_at (unknown.Quantity i))) (All-nil Sees);
      }
  named_of c x (thing.Variable i s) n h =
      record { typed = variable_has i s.kind h.0; visible = subst (All Sees) (sym (at_variable (List ℕ) named_at i (value_type s.kind))) (seen_alone i h.1) }
  named_of c x (thing.Parameter i) n h =
      record { typed = variable_has i (Of Integer) h.0; visible = subst (All Sees) (sym (at_variable (List ℕ) named_at i Integer)) (seen_alone i h.1) }
  named_of c x thing.Now n h = now_right c c.surrounding x.place n
  named_of c x thing.Faulty n h = tt
  named_of c x _ n h = tt

  pub named_right : (c : Context) (x : Name) (found : Option Thing) (n : Notes) → IfSome found (FitsThing objects Sees) → IfSome (named c x found n).1 (IsRead objects Sees)
  named_right c x (Some t) n h = named_of c x t n h
  named_right c x None n h = tt

  -- ---- functions

  real_call : (g f : Function) (a : FlatExpr) (k : Kind) → of_real g k ≡ Some f → call_type g (Some Real) ≡ Some (kind_of_call g) → HasKind objects a k → HasType objects (e.Call f a) (kind_of_call f)
  real_call g f a (Of Real) is h has =
      let same : g ≡ f = same_some is in
      subst (λ (z : Function). HasType objects (e.Call z a) (kind_of_call z)) same (at_call (Option ValueType) (type_at objects) g a ∙ (ap (call_type g) has ∙ h))
  real_call g f a _ is h has = absurd (cc)

  conversion_call : (g f : Function) (a : FlatExpr) (k : Kind) → conversion g k ≡ Some f → HasKind objects a k → HasType objects (e.Call f a) (kind_of_call f)
  conversion_call function.Real f a (Of Integer) is has =
      let same : function.Real ≡ f = same_some is in
      subst (λ (z : Function). HasType objects (e.Call z a) (kind_of_call z)) same (at_call (Option ValueType) (type_at objects) function.Real a ∙ ap (call_type function.Real) has)
  conversion_call function.Integer f a (Of Real) is has =
      let same : function.Integer ≡ f = same_some is in
      subst (λ (z : Function). HasType objects (e.Call z a) (kind_of_call z)) same (at_call (Option ValueType) (type_at objects) function.Integer a ∙ ap (call_type function.Integer) has)
  conversion_call g f a k is has = absurd (cc)

  function_call : (t : Thing) (f : Function) (a : FlatExpr) (k : Kind) → FitsThing objects Sees t → function_at t k ≡ Some f → HasKind objects a k → HasType objects (e.Call f a) (kind_of_call f)
  function_call (thing.Function g) f a k h is has = real_call g f a k is h has
  function_call (thing.Type s (Some g)) f a k h is has = conversion_call g f a k is has
  function_call _ f a k h is has = absurd (cc)

  -- ---- elements

  element_has : (a i : FlatExpr) (range : IndexRange) (k j : Kind) → HasKind objects a k → HasKind objects i j → is_vector k ≡ true → same_kind j (Of Integer) ≡ true
      → HasType objects (e.Index a i range) Bit
  element_has a i range (Of (BitVector n)) (Of Integer) h g v is =
      at_index (Option ValueType) (type_at objects) a i range
      ∙ (ap (λ (o : Option ValueType). element_type o (typed objects i)) h ∙ ap (element_type (Some (BitVector n))) g)
  element_has a i range (Of (BitVector n)) Vector h g v is = absurd g
  element_has a i range (Of (BitVector n)) (Of j) h g v is = absurd (cc)
  element_has a i range Vector j h g v is = absurd h
  element_has a i range (Of k) j h g v is = absurd (cc)

  named_constant : (place : Place) (k : Kind) (v : Option Val) (n : Notes) → IfSome (constant place k v n).1 (λ (x : Typed). x.kind ≡ k)
  named_constant place k (Some v) n = refl
  named_constant place k None n = refl

  named_kind : (c : Context) (x : Name) (t : Thing) (n : Notes) (s : Subtype) → vector_at t ≡ Some s → IfSome (named c x (Some t) n).1 (λ (v : Typed). v.kind ≡ s.kind)
  named_kind c x (thing.Constant u v) n s is =
      let same : u ≡ s = same_some is in
      subst (λ (z : Subtype). IfSome (constant x.place u.kind v n).1 (λ (y : Typed). y.kind ≡ z.kind)) same (named_constant x.place u.kind v n)
  named_kind c x (thing.Signal i u a) n s is = ap (λ (z : Subtype). z.kind) (same_some is)
  named_kind c x (thing.Variable i u) n s is = ap (λ (z : Subtype). z.kind) (same_some is)
  named_kind c x _ n s is = absurd (cc)

  element_right : (place : Place) (s : Subtype) (i : Typed) (v : Option Typed) (n : Notes) → IfSome v (IsRead objects Sees) → IfSome v (λ (y : Typed). y.kind ≡ s.kind)
      → is_vector s.kind ≡ true → same_kind i.kind (Of Integer) ≡ true → IsRead objects Sees i → IfSome (element_at place s i v n).1 (IsRead objects Sees)
  element_right place s i (Some v) n h of vector integer g =
      record {
        typed = element_has v.expr i.expr (index_range s.constraint) v.kind i.kind h.typed g.typed (ap is_vector of ∙ vector) integer;
        visible =
            subst (All Sees) (sym (at_index (List ℕ) named_at v.expr i.expr (index_range s.constraint)))
            (All-append Sees (variables_named v.expr) (variables_named i.expr) h.visible g.visible);
      }
  element_right place s i None n h of vector integer g = tt

  both_left : (a b : Bool) → (a && b) ≡ true → a ≡ true
  both_left true b h = refl
  both_left false b h = absurd (cc)

  both_right : (a b : Bool) → (a && b) ≡ true → b ≡ true
  both_right true b h = h
  both_right false b h = absurd (cc)

  indexed_right : (c : Context) (x : Name) (t : Thing) (s : Option Subtype) (i : Typed) (n : Notes) → vector_at t ≡ s → FitsThing objects Sees t → IsRead objects Sees i
      → IfSome (indexed c x t s i n).1 (IsRead objects Sees)
  indexed_right c x t None i n is h g = tt
  indexed_right c x t (Some s) i n is h g = go (is_vector s.kind && same_kind i.kind (Of Integer)) refl
    where
      go : (b : Bool) → (is_vector s.kind && same_kind i.kind (Of Integer)) ≡ b → IfSome (if b then element_of_name c x s i t n else (noted x.place WrongType n, None)).1 (IsRead objects Sees)
      go true on =
          element_right x.place s i (named c x (Some t) n).1 (named c x (Some t) n).0 (named_of c x t n h) (named_kind c x t n s is)
          (both_left (is_vector s.kind) (same_kind i.kind (Of Integer)) on) (both_right (is_vector s.kind) (same_kind i.kind (Of Integer)) on) g
      go false on = tt

  applied_right : (c : Context) (x : Name) (t : Thing) (f : Option Function) (a : Typed) (n : Notes) → function_at t a.kind ≡ f → FitsThing objects Sees t → IsRead objects Sees a
      → IfSome (applied c x t f a n).1 (IsRead objects Sees)
  applied_right c x t (Some f) a n is h g =
      record { typed = function_call t f a.expr a.kind h is g.typed; visible = subst (All Sees) (sym (at_call (List ℕ) named_at f a.expr)) g.visible }
  applied_right c x t None a n is h g = indexed_right c x t (vector_at t) a n refl h g

  call_with_right : (c : Context) (x : Name) (t : Thing) (all : List Typed) (n : Notes) → FitsThing objects Sees t → All (IsRead objects Sees) all
      → IfSome (call_with c x t all n).1 (IsRead objects Sees)
  call_with_right c x t [] n h g = tt
  call_with_right c x t (a ∷ []) n h g = applied_right c x t (function_at t a.kind) a n refl h (g 0 a (omega arith))
  call_with_right c x t (a ∷ b ∷ more) n h g = tt

  call_of : (c : Context) (x : Name) (t : Thing) (all : Option (List Typed)) (n : Notes) → FitsThing objects Sees t → IfSome all (All (IsRead objects Sees))
      → IfSome (call_at c x (Some t) all n).1 (IsRead objects Sees)
  call_of c x thing.Faulty all n h g = tt
  call_of c x t None n h g = tt
  call_of c x t (Some all) n h g = call_with_right c x t all n h g

  pub call_right : (c : Context) (x : Name) (found : Option Thing) (all : Option (List Typed)) (n : Notes) → IfSome found (FitsThing objects Sees) → IfSome all (All (IsRead objects Sees))
      → IfSome (call_at c x found all n).1 (IsRead objects Sees)
  call_right c x (Some t) all n h g = call_of c x t all n h g
  call_right c x None all n h g = tt
