-- Each value that is asked before the run is known, by induction on the expression.
use Rattle.std.proofs.Common.{◌≡◌, ℕ, zero, suc, arith, Bool, true, List, [], ◌∷◌, map, Option, Some, None, IfSome, refl, sym, subst}
use Rattle.std.specs.Prelude.{◌&&◌}
use Rattle.std.specs.List.{All}
use Rattle.std.proofs.lemmas.List.Elements.{All-append, All-nil}
use Rattle.ams_token.specs.declared.token.Place.{Place}
use Rattle.ams_tree.specs.declared.expression.Name.{Name}
use Rattle.ams_tree.specs.declared.expression.Attribute.{Attribute}
use Rattle.ams_tree.specs.declared.expression.Attribute.TheViews.{roll-Expr, roll-Attribute}
use Rattle.ams_tree.specs.declared.expression.Attribute.TheOpen.{Expr-F, Attribute-F}
use Rattle.ams_tree.specs.declared.expression.Attribute.TheFolds.{map-Expr, map-Attribute, fold-roll-Expr, fold-roll-Attribute, ind-Expr}
use Rattle.ams_tree.specs.declared.expression.Expr.{Expr}
use Rattle.ams_value.specs.declared.op.UnaryOperator.{UnaryOperator}
use Rattle.ams_value.specs.declared.op.BinaryOperator.{BinaryOperator}
use Rattle.flat_design.specs.declared.objects.Variable.{Variable}
use Rattle.name_scope.specs.declared.scope.Scope.{Scope}
use Rattle.name_scope.specs.declared.thing.Thing.{Thing}
use Rattle.name_scope.specs.declared.thing.Kind.{Kind}
use Rattle.name_scope.specs.declared.thing.Kind.TheVariants.{Of, Vector}
use Rattle.name_scope.specs.Scopes.{lookup}
use Rattle.elab_meaning.specs.declared.fault.Cause.TheVariants.{WrongType}
use Rattle.elab_meaning.specs.declared.fault.Notes.{Notes}
use Rattle.elab_meaning.specs.declared.typed.Asked.{Asked}
use Rattle.elab_meaning.specs.declared.typed.Context.{Context}
use Rattle.elab_meaning.specs.declared.typed.StaticValue.{StaticValue}
use Rattle.elab_meaning.specs.declared.typed.StaticValue.TheVariants.{Known, Faulty, Later, Changing}
use Rattle.elab_meaning.specs.declared.typed.Typed.{Typed}
use Rattle.elab_meaning.specs.Notes.{Found, changing}
use Rattle.elab_meaning.specs.Literals.{content_literal}
use Rattle.elab_meaning.specs.Names.{call_at, missing, above_at, ramp_at}
use Rattle.elab_meaning.specs.Parts.{part_of}
use Rattle.elab_meaning.specs.Expressions.{Reading, prefix, infix_of, unary_at, binary_at, parenthesized, asked, asked_value, is_fine, static_in, static, put, arguments, time_of, attribute_step, expr_step, expression, attribute}
use Rattle.elab_meaning.specs.Subtypes.{declaring, static_part}
use Rattle.design_meaning.specs.Typed as flat
use Rattle.design_rules.specs.Types.{IsVisible}
use Rattle.reading_laws.specs.Growing.{Grows}
use Rattle.reading_laws.proofs.Growing.{grows_same, grows_on, grows_call, grows_above, grows_ramp, grows_asked, grows_unary, grows_binary, grows_paren}
use Rattle.reading_laws.proofs.Reading.{reading_adds_notes}
use Rattle.typed_laws.specs.Fitting.{FitsValue}
use Rattle.static_laws.specs.Known.{OnKnown}
use Rattle.sound_laws.specs.Sound.{HasSoundValue}
use Rattle.sound_laws.proofs.Sound.{known_values_are_of_their_types}
use Rattle.part_laws.specs.Parts.{OnKept, KeepsPart}
use Rattle.scope_laws.specs.Holds.{HasNoFaults, ScopeHolds}
use Rattle.scope_laws.specs.Laws.{ThingHolds}
use Rattle.scope_laws.proofs.Scopes.{each_thing}
use Rattle.asked_laws.specs.Asked.{IsSettled, HasSettledValue, HasValue, AskedValuesAreKnown}
use Rattle.asked_laws.proofs.Notes.{faults_before, no_fault, no_change}
use Rattle.asked_laws.proofs.Steps.{number_settled, in_range_settled, named_settled, call_settled, event_settled, dot_settled, reference_settled, unary_settled, binary_settled, paren_settled}

module _ (objects : flat.Scope) (variables : List Variable) (parameters : List ℕ) (texts : List (List ℕ)) (scope : Scope) (holds : ScopeHolds objects variables parameters scope) where
  -- what is shown of a reading
  abbrev Settles : Reading → Type 0
  Settles f = (c : Context) (n : Notes) → c.is_static ≡ true → HasNoFaults (f c n).0 → IfSome (f c n).1 HasSettledValue

  abbrev ExprSettles : Expr → Type 0
  ExprSettles e = Settles (expression texts scope e)

  abbrev AttributeSettles : Attribute → Type 0
  AttributeSettles a = (x : Name) → Settles (attribute texts scope a x)

  abbrev ExprPart : Type 0
  ExprPart = (e : Expr) × ExprSettles e

  abbrev AttributePart : Type 0
  AttributePart = (a : Attribute) × AttributeSettles a

  thing_at : (x : Name) → IfSome (lookup scope x.number) (ThingHolds objects variables parameters)
  thing_at x = each_thing objects variables parameters scope holds x.number

  -- ---- lists of arguments

  abbrev readings : List ExprPart → List Reading
  readings all = map (expression texts scope) (map (λ (p : ExprPart). p.0) all)

  grows_arguments : (c : Context) (all : List ExprPart) (so_far : Option (List Typed)) (n : Notes) → Grows n (arguments c so_far (readings all) n).0
  grows_arguments c [] so_far n = grows_same n
  grows_arguments c (p ∷ more) so_far n =
      let found = expression texts scope p.0 c n in
      grows_on n found.0 (arguments c (put so_far found.1) (readings more) found.0).0 (reading_adds_notes texts scope p.0 c n) (grows_arguments c more (put so_far found.1) found.0)

  one_settled : (a : Typed) → HasSettledValue a → All HasSettledValue (a ∷ [])
  one_settled a h zero d lt = h
  one_settled a h (suc k) d lt = absurd (omega arith)

  put_settled : (so_far : Option (List Typed)) (a : Option Typed) → IfSome so_far (All HasSettledValue) → IfSome a HasSettledValue → IfSome (put so_far a) (All HasSettledValue)
  put_settled (Some all) (Some a) h k = All-append HasSettledValue all (a ∷ []) h (one_settled a k)
  put_settled (Some all) None h k = tt
  put_settled None (Some a) h k = tt
  put_settled None None h k = tt

  arguments_settled : (c : Context) (all : List ExprPart) (so_far : Option (List Typed)) (n : Notes) → c.is_static ≡ true → IfSome so_far (All HasSettledValue)
      → HasNoFaults (arguments c so_far (readings all) n).0 → IfSome (arguments c so_far (readings all) n).1 (All HasSettledValue)
  arguments_settled c [] so_far n is h k = h
  arguments_settled c (p ∷ more) so_far n is h k =
      let found = expression texts scope p.0 c n in
      let rest = arguments c (put so_far found.1) (readings more) found.0 in
      arguments_settled c more (put so_far found.1) found.0 is
      (put_settled so_far found.1 h (p.1 c n is (faults_before found.0 rest.0 (grows_arguments c more (put so_far found.1) found.0) k))) k

  -- ---- attributes

  above_settles : (r : Reading) (x : Name) → Settles (attribute_step scope (Attribute-F.Above r) x)
  above_settles r x c n is k =
      let found = r (static_in c) n in
      let level = asked found.1 found.0 in
      let here = changing c x.place level.0 in
      absurd (no_change c x.place level.0 is (faults_before here (above_at x (lookup scope x.number) level.1 here).0 (grows_above x (lookup scope x.number) level.1 here) k))

  ramp_settles : (rise fall : Option Reading) (x : Name) → Settles (attribute_step scope (Attribute-F.Ramp rise fall) x)
  ramp_settles rise fall x c n is k =
      let a = time_of c rise n in
      let b = time_of c fall a.0 in
      let here = changing c x.place b.0 in
      absurd (no_change c x.place b.0 is (faults_before here (ramp_at x (lookup scope x.number) (a.1 && b.1) here).0 (grows_ramp x (lookup scope x.number) (a.1 && b.1) here) k))

  abbrev time_reading : Option ExprPart → Option Reading
  time_reading (Some p) = Some (expression texts scope p.0)
  time_reading None = None

  abbrev attribute_of : Attribute-F AttributePart ExprPart → Attribute
  attribute_of y = roll-Attribute (map-Attribute AttributePart ExprPart Attribute Expr (λ p. p.0) (λ p. p.0) y)

  attribute_lift : (y : Attribute-F Attribute Expr) (f : Name → Reading) → attribute texts scope (roll-Attribute y) ≡ f → ((x : Name) → Settles (f x)) → AttributeSettles (roll-Attribute y)
  attribute_lift y f e h = subst (λ (g : Name → Reading). (x : Name) → Settles (g x)) (sym e) h

  ramp_step : (rise fall : Option ExprPart) → AttributeSettles (attribute_of (Attribute-F.Ramp rise fall))
  ramp_step None None =
      attribute_lift (Attribute-F.Ramp None None) (attribute_step scope (Attribute-F.Ramp None None))
      (fold-roll-Attribute (Name → Reading) Reading (attribute_step scope) (expr_step texts scope) (Attribute-F.Ramp None None)) (ramp_settles None None)
  ramp_step None (Some b) =
      attribute_lift (Attribute-F.Ramp None (Some b.0)) (attribute_step scope (Attribute-F.Ramp None (time_reading (Some b))))
      (fold-roll-Attribute (Name → Reading) Reading (attribute_step scope) (expr_step texts scope) (Attribute-F.Ramp None (Some b.0))) (ramp_settles None (time_reading (Some b)))
  ramp_step (Some a) None =
      attribute_lift (Attribute-F.Ramp (Some a.0) None) (attribute_step scope (Attribute-F.Ramp (time_reading (Some a)) None))
      (fold-roll-Attribute (Name → Reading) Reading (attribute_step scope) (expr_step texts scope) (Attribute-F.Ramp (Some a.0) None)) (ramp_settles (time_reading (Some a)) None)
  ramp_step (Some a) (Some b) =
      attribute_lift (Attribute-F.Ramp (Some a.0) (Some b.0)) (attribute_step scope (Attribute-F.Ramp (time_reading (Some a)) (time_reading (Some b))))
      (fold-roll-Attribute (Name → Reading) Reading (attribute_step scope) (expr_step texts scope) (Attribute-F.Ramp (Some a.0) (Some b.0)))
      (ramp_settles (time_reading (Some a)) (time_reading (Some b)))

  attribute_steps : (y : Attribute-F AttributePart ExprPart) → AttributeSettles (attribute_of y)
  attribute_steps Attribute-F.Event =
      attribute_lift Attribute-F.Event (attribute_step scope Attribute-F.Event)
      (fold-roll-Attribute (Name → Reading) Reading (attribute_step scope) (expr_step texts scope) Attribute-F.Event)
      (λ x c n is k. event_settled objects variables parameters c is c.surrounding x (lookup scope x.number) n k)
  attribute_steps Attribute-F.Dot =
      attribute_lift Attribute-F.Dot (attribute_step scope Attribute-F.Dot)
      (fold-roll-Attribute (Name → Reading) Reading (attribute_step scope) (expr_step texts scope) Attribute-F.Dot)
      (λ x c n is k. dot_settled objects variables parameters c is x (lookup scope x.number) n k)
  attribute_steps Attribute-F.Reference =
      attribute_lift Attribute-F.Reference (attribute_step scope Attribute-F.Reference)
      (fold-roll-Attribute (Name → Reading) Reading (attribute_step scope) (expr_step texts scope) Attribute-F.Reference)
      (λ x c n is k. reference_settled objects variables parameters c is x (lookup scope x.number) n k)
  attribute_steps (Attribute-F.Above p) =
      attribute_lift (Attribute-F.Above p.0) (attribute_step scope (Attribute-F.Above (expression texts scope p.0)))
      (fold-roll-Attribute (Name → Reading) Reading (attribute_step scope) (expr_step texts scope) (Attribute-F.Above p.0))
      (above_settles (expression texts scope p.0))
  attribute_steps (Attribute-F.Ramp rise fall) = ramp_step rise fall

  -- ---- expressions

  abbrev expr_of : Expr-F AttributePart ExprPart → Expr
  expr_of y = roll-Expr (map-Expr AttributePart ExprPart Attribute Expr (λ p. p.0) (λ p. p.0) y)

  expr_lift : (y : Expr-F Attribute Expr) (f : Reading) → expression texts scope (roll-Expr y) ≡ f → Settles f → ExprSettles (roll-Expr y)
  expr_lift y f e h = subst Settles (sym e) h

  call_settles : (x : Name) (all : List ExprPart) → Settles (expr_step texts scope (Expr-F.Call x (readings all)))
  call_settles x all c n is k =
      let start = missing x (lookup scope x.number) n in
      let read = arguments c (Some []) (readings all) start in
      let before : HasNoFaults read.0 = faults_before read.0 (call_at c x (lookup scope x.number) read.1 read.0).0 (grows_call c x (lookup scope x.number) read.1 read.0) k in
      call_settled objects variables parameters c is x (lookup scope x.number) read.1 read.0 (thing_at x) (arguments_settled c all (Some []) start is (All-nil HasSettledValue) before) k

  paren_settles : (place : Place) (p : ExprPart) → Settles (expr_step texts scope (Expr-F.Paren place (expression texts scope p.0)))
  paren_settles place p c n is k =
      let inner = expression texts scope p.0 c n in
      paren_settled place inner.1 inner.0 (p.1 c n is (faults_before inner.0 (parenthesized place inner.1 inner.0).0 (grows_paren place inner.1 inner.0) k))

  unary_settles : (op : UnaryOperator) (place : Place) (p : ExprPart) (c : Context) (n : Notes) → c.is_static ≡ true
      → HasNoFaults (unary_at op place (expression texts scope p.0 c n).1 (expression texts scope p.0 c n).0).0
      → IfSome (unary_at op place (expression texts scope p.0 c n).1 (expression texts scope p.0 c n).0).1 HasSettledValue
  unary_settles op place p c n is k =
      let inner = expression texts scope p.0 c n in
      unary_settled op place inner.1 inner.0 (p.1 c n is (faults_before inner.0 (unary_at op place inner.1 inner.0).0 (grows_unary op place inner.1 inner.0) k))

  binary_settles : (op : BinaryOperator) (p q : ExprPart) (c : Context) (n : Notes) → c.is_static ≡ true
      → HasNoFaults (binary_at op (expression texts scope p.0 c n).1 (expression texts scope q.0 c (expression texts scope p.0 c n).0).1 (expression texts scope q.0 c (expression texts scope p.0 c n).0).0).0
      → IfSome (binary_at op (expression texts scope p.0 c n).1 (expression texts scope q.0 c (expression texts scope p.0 c n).0).1 (expression texts scope q.0 c (expression texts scope p.0 c n).0).0).1 HasSettledValue
  binary_settles op p q c n is k =
      let left = expression texts scope p.0 c n in
      let right = expression texts scope q.0 c left.0 in
      let here : HasNoFaults right.0 = faults_before right.0 (binary_at op left.1 right.1 right.0).0 (grows_binary op left.1 right.1 right.0) k in
      binary_settled op left.1 right.1 right.0 (p.1 c n is (faults_before left.0 right.0 (reading_adds_notes texts scope q.0 c left.0) here)) (q.1 c left.0 is here)

  expr_steps : (y : Expr-F AttributePart ExprPart) → ExprSettles (expr_of y)
  expr_steps (Expr-F.Number x unit) =
      expr_lift (Expr-F.Number x unit) (expr_step texts scope (Expr-F.Number x unit))
      (fold-roll-Expr (Name → Reading) Reading (attribute_step scope) (expr_step texts scope) (Expr-F.Number x unit))
      (λ c n is k. number_settled texts (lookup scope) x.place x.value unit n)
  expr_steps (Expr-F.Literal x) =
      expr_lift (Expr-F.Literal x) (expr_step texts scope (Expr-F.Literal x))
      (fold-roll-Expr (Name → Reading) Reading (attribute_step scope) (expr_step texts scope) (Expr-F.Literal x))
      (λ c n is k. in_range_settled x.place (content_literal texts x.value) n)
  expr_steps (Expr-F.Name x) =
      expr_lift (Expr-F.Name x) (expr_step texts scope (Expr-F.Name x))
      (fold-roll-Expr (Name → Reading) Reading (attribute_step scope) (expr_step texts scope) (Expr-F.Name x))
      (λ c n is k. named_settled objects variables parameters c is x (lookup scope x.number) n (thing_at x) k)
  expr_steps (Expr-F.Call x all) =
      expr_lift (Expr-F.Call x (map (λ (p : ExprPart). p.0) all)) (expr_step texts scope (Expr-F.Call x (readings all)))
      (fold-roll-Expr (Name → Reading) Reading (attribute_step scope) (expr_step texts scope) (Expr-F.Call x (map (λ (p : ExprPart). p.0) all)))
      (call_settles x all)
  expr_steps (Expr-F.Attribute x a) =
      expr_lift (Expr-F.Attribute x a.0) (expr_step texts scope (Expr-F.Attribute x (attribute texts scope a.0)))
      (fold-roll-Expr (Name → Reading) Reading (attribute_step scope) (expr_step texts scope) (Expr-F.Attribute x a.0))
      (a.1 x)
  expr_steps (Expr-F.Paren place p) =
      expr_lift (Expr-F.Paren place p.0) (expr_step texts scope (Expr-F.Paren place (expression texts scope p.0)))
      (fold-roll-Expr (Name → Reading) Reading (attribute_step scope) (expr_step texts scope) (Expr-F.Paren place p.0))
      (paren_settles place p)
  expr_steps (Expr-F.Unary op place p) =
      expr_lift (Expr-F.Unary op place p.0) (expr_step texts scope (Expr-F.Unary op place (expression texts scope p.0)))
      (fold-roll-Expr (Name → Reading) Reading (attribute_step scope) (expr_step texts scope) (Expr-F.Unary op place p.0))
      (unary_settles (prefix op) place p)
  expr_steps (Expr-F.Binary op p q) =
      expr_lift (Expr-F.Binary op p.0 q.0) (expr_step texts scope (Expr-F.Binary op (expression texts scope p.0) (expression texts scope q.0)))
      (fold-roll-Expr (Name → Reading) Reading (attribute_step scope) (expr_step texts scope) (Expr-F.Binary op p.0 q.0))
      (binary_settles (infix_of op) p q)

  pub reading_settles : (e : Expr) → ExprSettles e
  reading_settles =
      ind-Expr AttributeSettles ExprSettles
      (λ x y is. subst (λ (z : Attribute-F Attribute Expr). AttributeSettles (roll-Attribute z)) is (attribute_steps y))
      (λ x y is. subst (λ (z : Expr-F Attribute Expr). ExprSettles (roll-Expr z)) is (expr_steps y))

  -- ---- values that are asked

  value_asked : (place : Place) (k : Kind) (v : StaticValue) (n : Notes) → IsSettled k v → OnKnown (λ w. FitsValue objects k (Some w)) v → HasNoFaults (asked_value place k v n).0
      → IfSome (asked_value place k v n).1 (HasValue objects)
  value_asked place (Of k) (Known v) n h g f = g
  value_asked place (Of k) Faulty n h g f = tt
  value_asked place (Of k) Later n h g f = absurd h
  value_asked place (Of k) Changing n h g f = absurd h
  value_asked place Vector v n h g f = absurd h

  asked_of : (o : Option Typed) (n : Notes) → IfSome o HasSettledValue → IfSome o (HasSoundValue objects) → HasNoFaults (asked o n).0 → IfSome (asked o n).1 (HasValue objects)
  asked_of (Some t) n h g f = value_asked t.place t.kind t.value n h g f
  asked_of None n h g f = tt

  pub static_asked : (x : Expr) (c : Context) (n : Notes) → HasNoFaults (static texts scope x c n).0 → IfSome (static texts scope x c n).1 (HasValue objects)
  static_asked x c n f =
      let found = expression texts scope x (static_in c) n in
      asked_of found.1 found.0 (reading_settles x (static_in c) n refl (faults_before found.0 (asked found.1 found.0).0 (grows_asked found.1 found.0) f))
      (known_values_are_of_their_types objects variables parameters texts scope x (static_in c) n holds.fits) f

  part_asked : (o : Option Asked) → IfSome o (HasValue objects) → OnKept (HasValue objects) (part_of o)
  part_asked (Some a) h = h
  part_asked None h = tt

  pub static_keeps : (x : Expr) (n : Notes) → KeepsPart Asked HasNoFaults (HasValue objects) n (static_part texts scope x n)
  static_keeps x n =
      let found = expression texts scope x (static_in declaring) n in
      record {
        grows = grows_on n found.0 (asked found.1 found.0).0 (reading_adds_notes texts scope x (static_in declaring) n) (grows_asked found.1 found.0);
        right = λ f. part_asked (static texts scope x declaring n).1 (static_asked x declaring n f);
      }

pub asked_values_are_known : AskedValuesAreKnown
asked_values_are_known = record {
  settled = λ objects variables parameters texts scope x c n holds is f. reading_settles objects variables parameters texts scope holds x c n is f;
  asked = λ objects variables parameters texts scope x c n holds f. static_asked objects variables parameters texts scope holds x c n f;
  parts = λ objects variables parameters texts scope x n holds. static_keeps objects variables parameters texts scope holds x n;
}
