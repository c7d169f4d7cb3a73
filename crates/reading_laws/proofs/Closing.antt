-- What holds of each expression that is read, by induction on the tree.
use Rattle.std.proofs.Common.{◌≡◌, ℕ, zero, suc, arith, Bool, List, [], ◌∷◌, map, Option, Some, None, IfSome, sym, subst}
use Rattle.std.specs.Prelude.{◌&&◌}
use Rattle.std.specs.List.{All}
use Rattle.std.proofs.lemmas.List.Elements.{All-append, All-nil}
use Rattle.ams_token.specs.declared.token.Place.{Place}
use Rattle.ams_tree.specs.declared.expression.Name.{Name}
use Rattle.ams_tree.specs.declared.expression.Number.{Number}
use Rattle.ams_tree.specs.declared.expression.Literal.{Literal}
use Rattle.ams_tree.specs.declared.expression.Attribute.{Attribute}
use Rattle.ams_tree.specs.declared.expression.Attribute.TheViews.{roll-Expr, roll-Attribute}
use Rattle.ams_tree.specs.declared.expression.Attribute.TheOpen.{Expr-F, Attribute-F}
use Rattle.ams_tree.specs.declared.expression.Attribute.TheFolds.{map-Expr, map-Attribute, fold-roll-Expr, fold-roll-Attribute, ind-Expr}
use Rattle.ams_tree.specs.declared.expression.Expr.{Expr}
use Rattle.ams_value.specs.declared.op.UnaryOperator.{UnaryOperator}
use Rattle.ams_value.specs.declared.op.BinaryOperator.{BinaryOperator}
use Rattle.name_scope.specs.declared.scope.Scope.{Scope}
use Rattle.name_scope.specs.Scopes.{lookup}
use Rattle.elab_meaning.specs.declared.fault.Notes.{Notes}
use Rattle.elab_meaning.specs.declared.typed.Asked.{Asked}
use Rattle.elab_meaning.specs.declared.typed.Context.{Context}
use Rattle.elab_meaning.specs.declared.typed.Typed.{Typed}
use Rattle.elab_meaning.specs.Notes.{Found, changing}
use Rattle.elab_meaning.specs.Literals.{number_at, literal_at}
use Rattle.elab_meaning.specs.Names.{named, call_at, missing, event_in, dot_at, reference_at, above_at, ramp_at}
use Rattle.elab_meaning.specs.Expressions.{Reading, prefix, infix_of, unary_at, binary_at, parenthesized, asked, is_fine, static_in, put, arguments, time_of, attribute_step, expr_step, expression, attribute}
use Rattle.reading_laws.specs.Growing.{Grows}
use Rattle.reading_laws.proofs.Growing.{grows_same, grows_on, grows_changing, grows_number, grows_literal, grows_named, grows_call, grows_missing, grows_event, grows_dot, grows_reference, grows_above, grows_ramp, grows_asked, grows_unary, grows_binary, grows_paren}

-- a rule `T` of expressions that each step of reading keeps, where the notes behind it keep `K`
pub record IsClosed (texts : List (List ℕ)) (scope : Scope) (K : Notes → Type 0) (T : Typed → Type 0) : Type 0 where
  pub down : (a b : Notes) → Grows a b → K b → K a
  pub number : (x : Number) (unit : Option Name) (n : Notes) → IfSome (number_at texts (lookup scope) x.place x.value unit n).1 T
  pub literal : (x : Literal) (n : Notes) → IfSome (literal_at texts x.place x.value n).1 T
  pub name : (c : Context) (x : Name) (n : Notes) → IfSome (named c x (lookup scope x.number) n).1 T
  pub call : (c : Context) (x : Name) (all : Option (List Typed)) (n : Notes) → IfSome all (All T) → IfSome (call_at c x (lookup scope x.number) all n).1 T
  pub event : (c : Context) (x : Name) (n : Notes) → IfSome (event_in c c.surrounding x (lookup scope x.number) n).1 T
  pub dot : (c : Context) (x : Name) (n : Notes) → K (dot_at c x (lookup scope x.number) n).0 → IfSome (dot_at c x (lookup scope x.number) n).1 T
  pub reference : (c : Context) (x : Name) (n : Notes) → IfSome (reference_at c x (lookup scope x.number) n).1 T
  pub above : (x : Name) (level : Option Asked) (n : Notes) → K (above_at x (lookup scope x.number) level n).0 → IfSome (above_at x (lookup scope x.number) level n).1 T
  pub ramp : (x : Name) (fine : Bool) (n : Notes) → IfSome (ramp_at x (lookup scope x.number) fine n).1 T
  pub paren : (place : Place) (a : Option Typed) (n : Notes) → IfSome a T → IfSome (parenthesized place a n).1 T
  pub unary : (op : UnaryOperator) (place : Place) (a : Option Typed) (n : Notes) → IfSome a T → IfSome (unary_at op place a n).1 T
  pub binary : (op : BinaryOperator) (a b : Option Typed) (n : Notes) → IfSome a T → IfSome b T → IfSome (binary_at op a b n).1 T

-- what is shown of a reading from these notes
pub record Keeps (K : Notes → Type 0) (T : Typed → Type 0) (n : Notes) (f : Found) : Type 0 where
  pub grows : Grows n f.0
  pub right : K f.0 → IfSome f.1 T

module _ (texts : List (List ℕ)) (scope : Scope) (K : Notes → Type 0) (T : Typed → Type 0) (closed : IsClosed texts scope K T) where
  abbrev ExprKeeps : Expr → Type 0
  ExprKeeps e = (c : Context) (n : Notes) → Keeps K T n (expression texts scope e c n)

  abbrev AttributeKeeps : Attribute → Type 0
  AttributeKeeps a = (x : Name) (c : Context) (n : Notes) → Keeps K T n (attribute texts scope a x c n)

  abbrev ExprPart : Type 0
  ExprPart = (e : Expr) × ExprKeeps e

  abbrev AttributePart : Type 0
  AttributePart = (a : Attribute) × AttributeKeeps a

  -- ---- lists of arguments

  abbrev readings : List ExprPart → List Reading
  readings all = map (expression texts scope) (map (λ (p : ExprPart). p.0) all)

  grows_arguments : (c : Context) (all : List ExprPart) (so_far : Option (List Typed)) (n : Notes) → Grows n (arguments c so_far (readings all) n).0
  grows_arguments c [] so_far n = grows_same n
  grows_arguments c (p ∷ more) so_far n =
      let found = expression texts scope p.0 c n in
      grows_on n found.0 (arguments c (put so_far found.1) (readings more) found.0).0 (p.1 c n).grows (grows_arguments c more (put so_far found.1) found.0)

  one_typed : (a : Typed) → T a → All T (a ∷ [])
  one_typed a h zero d lt = h
  one_typed a h (suc k) d lt = absurd (omega arith)

  put_right : (so_far : Option (List Typed)) (a : Option Typed) → IfSome so_far (All T) → IfSome a T → IfSome (put so_far a) (All T)
  put_right (Some all) (Some a) h k = All-append T all (a ∷ []) h (one_typed a k)
  put_right (Some all) None h k = tt
  put_right None (Some a) h k = tt
  put_right None None h k = tt

  right_arguments : (c : Context) (all : List ExprPart) (so_far : Option (List Typed)) (n : Notes) → (K n → IfSome so_far (All T))
      → K (arguments c so_far (readings all) n).0 → IfSome (arguments c so_far (readings all) n).1 (All T)
  right_arguments c [] so_far n h k = h k
  right_arguments c (p ∷ more) so_far n h k =
      let found = expression texts scope p.0 c n in
      right_arguments c more (put so_far found.1) found.0 (λ here. put_right so_far found.1 (h (closed.down n found.0 (p.1 c n).grows here)) ((p.1 c n).right here)) k

  -- ---- attributes

  above_keeps : (x : Name) (p : ExprPart) (c : Context) (n : Notes) → Keeps K T n (attribute_step scope (Attribute-F.Above (expression texts scope p.0)) x c n)
  above_keeps x p c n =
      let found = expression texts scope p.0 (static_in c) n in
      let level = asked found.1 found.0 in
      let here = changing c x.place level.0 in
      record {
        grows =
            grows_on n found.0 (above_at x (lookup scope x.number) level.1 here).0 (p.1 (static_in c) n).grows
            (grows_on found.0 level.0 (above_at x (lookup scope x.number) level.1 here).0 (grows_asked found.1 found.0)
            (grows_on level.0 here (above_at x (lookup scope x.number) level.1 here).0 (grows_changing c x.place level.0) (grows_above x (lookup scope x.number) level.1 here)));
        right = λ k. closed.above x level.1 here k;
      }

  abbrev time_reading : Option ExprPart → Option Reading
  time_reading (Some p) = Some (expression texts scope p.0)
  time_reading None = None

  grows_time : (c : Context) (p : Option ExprPart) (n : Notes) → Grows n (time_of c (time_reading p) n).0
  grows_time c None n = grows_same n
  grows_time c (Some p) n =
      let found = expression texts scope p.0 (static_in c) n in
      grows_on n found.0 (is_fine found.1 found.0).0 (p.1 (static_in c) n).grows (grows_asked found.1 found.0)

  ramp_keeps : (x : Name) (rise fall : Option ExprPart) (c : Context) (n : Notes) → Keeps K T n (attribute_step scope (Attribute-F.Ramp (time_reading rise) (time_reading fall)) x c n)
  ramp_keeps x rise fall c n =
      let a = time_of c (time_reading rise) n in
      let b = time_of c (time_reading fall) a.0 in
      let here = changing c x.place b.0 in
      let found = ramp_at x (lookup scope x.number) (a.1 && b.1) here in
      record {
        grows =
            grows_on n a.0 found.0 (grows_time c rise n)
            (grows_on a.0 b.0 found.0 (grows_time c fall a.0) (grows_on b.0 here found.0 (grows_changing c x.place b.0) (grows_ramp x (lookup scope x.number) (a.1 && b.1) here)));
        right = λ k. closed.ramp x (a.1 && b.1) here;
      }

  abbrev attribute_of : Attribute-F AttributePart ExprPart → Attribute
  attribute_of y = roll-Attribute (map-Attribute AttributePart ExprPart Attribute Expr (λ p. p.0) (λ p. p.0) y)

  attribute_lift : (y : Attribute-F Attribute Expr) (f : Name → Reading) → attribute texts scope (roll-Attribute y) ≡ f → ((x : Name) (c : Context) (n : Notes) → Keeps K T n (f x c n)) → AttributeKeeps (roll-Attribute y)
  attribute_lift y f e h = subst (λ (g : Name → Reading). (x : Name) (c : Context) (n : Notes) → Keeps K T n (g x c n)) (sym e) h

  ramp_step : (rise fall : Option ExprPart) → AttributeKeeps (attribute_of (Attribute-F.Ramp rise fall))
  ramp_step None None =
      attribute_lift (Attribute-F.Ramp None None) (attribute_step scope (Attribute-F.Ramp None None))
      (fold-roll-Attribute (Name → Reading) Reading (attribute_step scope) (expr_step texts scope) (Attribute-F.Ramp None None)) (λ x. ramp_keeps x None None)
  ramp_step None (Some b) =
      attribute_lift (Attribute-F.Ramp None (Some b.0)) (attribute_step scope (Attribute-F.Ramp None (time_reading (Some b))))
      (fold-roll-Attribute (Name → Reading) Reading (attribute_step scope) (expr_step texts scope) (Attribute-F.Ramp None (Some b.0))) (λ x. ramp_keeps x None (Some b))
  ramp_step (Some a) None =
      attribute_lift (Attribute-F.Ramp (Some a.0) None) (attribute_step scope (Attribute-F.Ramp (time_reading (Some a)) None))
      (fold-roll-Attribute (Name → Reading) Reading (attribute_step scope) (expr_step texts scope) (Attribute-F.Ramp (Some a.0) None)) (λ x. ramp_keeps x (Some a) None)
  ramp_step (Some a) (Some b) =
      attribute_lift (Attribute-F.Ramp (Some a.0) (Some b.0)) (attribute_step scope (Attribute-F.Ramp (time_reading (Some a)) (time_reading (Some b))))
      (fold-roll-Attribute (Name → Reading) Reading (attribute_step scope) (expr_step texts scope) (Attribute-F.Ramp (Some a.0) (Some b.0))) (λ x. ramp_keeps x (Some a) (Some b))

  attribute_steps : (y : Attribute-F AttributePart ExprPart) → AttributeKeeps (attribute_of y)
  attribute_steps Attribute-F.Event =
      attribute_lift Attribute-F.Event (attribute_step scope Attribute-F.Event)
      (fold-roll-Attribute (Name → Reading) Reading (attribute_step scope) (expr_step texts scope) Attribute-F.Event)
      (λ x c n. record { grows = grows_event c c.surrounding x (lookup scope x.number) n; right = λ k. closed.event c x n })
  attribute_steps Attribute-F.Dot =
      attribute_lift Attribute-F.Dot (attribute_step scope Attribute-F.Dot)
      (fold-roll-Attribute (Name → Reading) Reading (attribute_step scope) (expr_step texts scope) Attribute-F.Dot)
      (λ x c n. record { grows = grows_dot c x (lookup scope x.number) n; right = λ k. closed.dot c x n k })
  attribute_steps Attribute-F.Reference =
      attribute_lift Attribute-F.Reference (attribute_step scope Attribute-F.Reference)
      (fold-roll-Attribute (Name → Reading) Reading (attribute_step scope) (expr_step texts scope) Attribute-F.Reference)
      (λ x c n. record { grows = grows_reference c x (lookup scope x.number) n; right = λ k. closed.reference c x n })
  attribute_steps (Attribute-F.Above p) =
      attribute_lift (Attribute-F.Above p.0) (attribute_step scope (Attribute-F.Above (expression texts scope p.0)))
      (fold-roll-Attribute (Name → Reading) Reading (attribute_step scope) (expr_step texts scope) (Attribute-F.Above p.0))
      (λ x. above_keeps x p)
  attribute_steps (Attribute-F.Ramp rise fall) = ramp_step rise fall

  -- ---- expressions

  abbrev expr_of : Expr-F AttributePart ExprPart → Expr
  expr_of y = roll-Expr (map-Expr AttributePart ExprPart Attribute Expr (λ p. p.0) (λ p. p.0) y)

  expr_lift : (y : Expr-F Attribute Expr) (f : Reading) → expression texts scope (roll-Expr y) ≡ f → ((c : Context) (n : Notes) → Keeps K T n (f c n)) → ExprKeeps (roll-Expr y)
  expr_lift y f e h = subst (λ (g : Reading). (c : Context) (n : Notes) → Keeps K T n (g c n)) (sym e) h

  call_keeps : (x : Name) (all : List ExprPart) (c : Context) (n : Notes) → Keeps K T n (expr_step texts scope (Expr-F.Call x (readings all)) c n)
  call_keeps x all c n =
      let start = missing x (lookup scope x.number) n in
      let read = arguments c (Some []) (readings all) start in
      let found = call_at c x (lookup scope x.number) read.1 read.0 in
      record {
        grows =
            grows_on n start found.0 (grows_missing x (lookup scope x.number) n)
            (grows_on start read.0 found.0 (grows_arguments c all (Some []) start) (grows_call c x (lookup scope x.number) read.1 read.0));
        right = λ k.
            closed.call c x read.1 read.0
            (right_arguments c all (Some []) start (λ here. All-nil T) (closed.down read.0 found.0 (grows_call c x (lookup scope x.number) read.1 read.0) k));
      }

  paren_keeps : (place : Place) (p : ExprPart) (c : Context) (n : Notes) → Keeps K T n (expr_step texts scope (Expr-F.Paren place (expression texts scope p.0)) c n)
  paren_keeps place p c n =
      let inner = expression texts scope p.0 c n in
      let found = parenthesized place inner.1 inner.0 in
      let goes : Grows inner.0 found.0 = grows_paren place inner.1 inner.0 in
      record {
        grows = grows_on n inner.0 found.0 (p.1 c n).grows goes;
        right = λ k. closed.paren place inner.1 inner.0 ((p.1 c n).right (closed.down inner.0 found.0 goes k));
      }

  unary_keeps : (op : UnaryOperator) (place : Place) (p : ExprPart) (c : Context) (n : Notes)
      → Keeps K T n (unary_at op place (expression texts scope p.0 c n).1 (expression texts scope p.0 c n).0)
  unary_keeps op place p c n =
      let inner = expression texts scope p.0 c n in
      let found = unary_at op place inner.1 inner.0 in
      let goes : Grows inner.0 found.0 = grows_unary op place inner.1 inner.0 in
      record {
        grows = grows_on n inner.0 found.0 (p.1 c n).grows goes;
        right = λ k. closed.unary op place inner.1 inner.0 ((p.1 c n).right (closed.down inner.0 found.0 goes k));
      }

  binary_keeps : (op : BinaryOperator) (p q : ExprPart) (c : Context) (n : Notes)
      → Keeps K T n (binary_at op (expression texts scope p.0 c n).1 (expression texts scope q.0 c (expression texts scope p.0 c n).0).1 (expression texts scope q.0 c (expression texts scope p.0 c n).0).0)
  binary_keeps op p q c n =
      let left = expression texts scope p.0 c n in
      let right = expression texts scope q.0 c left.0 in
      let found = binary_at op left.1 right.1 right.0 in
      let goes : Grows right.0 found.0 = grows_binary op left.1 right.1 right.0 in
      let on : Grows left.0 right.0 = (q.1 c left.0).grows in
      record {
        grows = grows_on n left.0 found.0 (p.1 c n).grows (grows_on left.0 right.0 found.0 on goes);
        right = λ k.
            let here : K right.0 = closed.down right.0 found.0 goes k in
            closed.binary op left.1 right.1 right.0 ((p.1 c n).right (closed.down left.0 right.0 on here)) ((q.1 c left.0).right here);
      }

  expr_steps : (y : Expr-F AttributePart ExprPart) → ExprKeeps (expr_of y)
  expr_steps (Expr-F.Number x unit) =
      expr_lift (Expr-F.Number x unit) (expr_step texts scope (Expr-F.Number x unit))
      (fold-roll-Expr (Name → Reading) Reading (attribute_step scope) (expr_step texts scope) (Expr-F.Number x unit))
      (λ c n. record { grows = grows_number texts (lookup scope) x.place x.value unit n; right = λ k. closed.number x unit n })
  expr_steps (Expr-F.Literal x) =
      expr_lift (Expr-F.Literal x) (expr_step texts scope (Expr-F.Literal x))
      (fold-roll-Expr (Name → Reading) Reading (attribute_step scope) (expr_step texts scope) (Expr-F.Literal x))
      (λ c n. record { grows = grows_literal texts x.place x.value n; right = λ k. closed.literal x n })
  expr_steps (Expr-F.Name x) =
      expr_lift (Expr-F.Name x) (expr_step texts scope (Expr-F.Name x))
      (fold-roll-Expr (Name → Reading) Reading (attribute_step scope) (expr_step texts scope) (Expr-F.Name x))
      (λ c n. record { grows = grows_named c x (lookup scope x.number) n; right = λ k. closed.name c x n })
  expr_steps (Expr-F.Call x all) =
      expr_lift (Expr-F.Call x (map (λ (p : ExprPart). p.0) all)) (expr_step texts scope (Expr-F.Call x (readings all)))
      (fold-roll-Expr (Name → Reading) Reading (attribute_step scope) (expr_step texts scope) (Expr-F.Call x (map (λ (p : ExprPart). p.0) all)))
      (call_keeps x all)
  expr_steps (Expr-F.Attribute x a) =
      expr_lift (Expr-F.Attribute x a.0) (expr_step texts scope (Expr-F.Attribute x (attribute texts scope a.0)))
      (fold-roll-Expr (Name → Reading) Reading (attribute_step scope) (expr_step texts scope) (Expr-F.Attribute x a.0))
      (λ c n. a.1 x c n)
  expr_steps (Expr-F.Paren place p) =
      expr_lift (Expr-F.Paren place p.0) (expr_step texts scope (Expr-F.Paren place (expression texts scope p.0)))
      (fold-roll-Expr (Name → Reading) Reading (attribute_step scope) (expr_step texts scope) (Expr-F.Paren place p.0))
      (paren_keeps place p)
  expr_steps (Expr-F.Unary op place p) =
      expr_lift (Expr-F.Unary op place p.0) (expr_step texts scope (Expr-F.Unary op place (expression texts scope p.0)))
      (fold-roll-Expr (Name → Reading) Reading (attribute_step scope) (expr_step texts scope) (Expr-F.Unary op place p.0))
      (unary_keeps (prefix op) place p)
  expr_steps (Expr-F.Binary op p q) =
      expr_lift (Expr-F.Binary op p.0 q.0) (expr_step texts scope (Expr-F.Binary op (expression texts scope p.0) (expression texts scope q.0)))
      (fold-roll-Expr (Name → Reading) Reading (attribute_step scope) (expr_step texts scope) (Expr-F.Binary op p.0 q.0))
      (binary_keeps (infix_of op) p q)

  pub reading_keeps : (e : Expr) → ExprKeeps e
  reading_keeps =
      ind-Expr AttributeKeeps ExprKeeps
      (λ x y is. subst (λ (z : Attribute-F Attribute Expr). AttributeKeeps (roll-Attribute z)) is (attribute_steps y))
      (λ x y is. subst (λ (z : Expr-F Attribute Expr). ExprKeeps (roll-Expr z)) is (expr_steps y))
