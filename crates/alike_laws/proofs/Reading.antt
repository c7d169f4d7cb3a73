-- One expression in alike scopes, by induction on the tree.
use Rattle.std.proofs.Common.{◌≡◌, ℕ, Bool, true, false, List, [], ◌∷◌, map, Option, Some, None, IsSome, refl, sym, subst}
use Rattle.std.specs.Prelude.{◌&&◌}
use Rattle.ams_token.specs.declared.token.Place.{Place}
use Rattle.ams_tree.specs.declared.expression.Name.{Name}
use Rattle.ams_tree.specs.declared.expression.Attribute.{Attribute}
use Rattle.ams_tree.specs.declared.expression.Attribute.TheViews.{roll-Expr, roll-Attribute}
use Rattle.ams_tree.specs.declared.expression.Attribute.TheOpen.{Expr-F, Attribute-F}
use Rattle.ams_tree.specs.declared.expression.Attribute.TheFolds.{map-Expr, map-Attribute, fold-roll-Expr, fold-roll-Attribute, ind-Expr}
use Rattle.ams_tree.specs.declared.expression.Expr.{Expr}
use Rattle.ams_value.specs.declared.op.UnaryOperator.{UnaryOperator}
use Rattle.ams_value.specs.declared.op.BinaryOperator.{BinaryOperator}
use Rattle.name_scope.specs.declared.thing.Thing.{Thing}
use Rattle.name_scope.specs.declared.scope.Scope.{Scope}
use Rattle.name_scope.specs.Scopes.{lookup}
use Rattle.elab_meaning.specs.declared.fault.Cause.TheVariants.{Unknown}
use Rattle.elab_meaning.specs.declared.fault.Notes.{Notes}
use Rattle.elab_meaning.specs.declared.typed.Context.{Context}
use Rattle.elab_meaning.specs.declared.typed.Typed.{Typed}
use Rattle.elab_meaning.specs.Notes.{changing}
use Rattle.elab_meaning.specs.Names.{call_at, missing}
use Rattle.elab_meaning.specs.Expressions.{Reading, prefix, infix_of, unary_at, binary_at, parenthesized, static_in, put, arguments, time_of, attribute_step, expr_step, expression, attribute}
use Rattle.alike_laws.specs.Alike.{HasNoFaults, Reads, AlikeFound, AlikeScopes}
use Rattle.alike_laws.proofs.Notes.{no_fault, follows_same, follows_on, reads_of, reads_never, reads_then, changing_before}
use Rattle.alike_laws.proofs.Steps.{Both, literal_reads, number_reads, name_reads, call_clean, call_before, told_call}
use Rattle.alike_laws.proofs.Attributes.{event_reads, dot_reads, reference_reads, above_reads, asked_passes, never_ramp, ramp_before, unary_passes, told_unary, paren_passes, told_paren, binary_before, binary_there, told_binary}

-- ---- calls

put_some : (so_far : Option (List Typed)) (a : Option Typed) → IsSome so_far → IsSome a → IsSome (put so_far a)
put_some (Some all) (Some a) h k = refl
put_some (Some all) None h k = absurd (cc)
put_some None a h k = absurd (cc)

never_missing : (k : Context) (x : Name) (all : Option (List Typed)) (n : Notes) (on : Notes) → (HasNoFaults on → HasNoFaults (missing x None n)) → HasNoFaults (call_at k x None all on).0 → ⊥
never_missing k x all n on h g = no_fault x.place (Unknown x.number) n (h g)

module _ (natures : List ℕ) (texts : List (List ℕ)) (a b : Scope) (alike : AlikeScopes natures a b) where
  abbrev ExprReads : Expr → Type 0
  ExprReads x = (k : Context) (c i : Notes) → Both c (expression texts a x k c) i (expression texts b x k i)

  abbrev AttributeReads : Attribute → Type 0
  AttributeReads y = (x : Name) (k : Context) (c i : Notes) → Both c (attribute texts a y x k c) i (attribute texts b y x k i)

  abbrev ExprPart : Type 0
  ExprPart = (x : Expr) × ExprReads x

  abbrev AttributePart : Type 0
  AttributePart = (y : Attribute) × AttributeReads y

  -- ---- lists of arguments

  abbrev readings : Scope → List ExprPart → List Reading
  readings scope all = map (expression texts scope) (map (λ (p : ExprPart). p.0) all)

  list_reads : (k : Context) (all : List ExprPart) (o p : Option (List Typed)) (c i : Notes)
      → Reads (Option (List Typed)) (Option (List Typed)) (λ q. IsSome o → IsSome q) c (arguments k o (readings a all) c) i (arguments k p (readings b all) i)
  list_reads k [] o p c i = record { notes = follows_same c i; right = λ h there. there }
  list_reads k (y ∷ more) o p c i =
      let f = expression texts a y.0 k c in
      let g = expression texts b y.0 k i in
      let first : Both c f i g = y.1 k c i in
      let rest = list_reads k more (put o f.1) (put p g.1) f.0 g.0 in
      record {
        notes = follows_on c f.0 (arguments k (put o f.1) (readings a more) f.0).0 i g.0 (arguments k (put p g.1) (readings b more) g.0).0 first.notes rest.notes;
        right = λ h there. rest.right h (put_some o f.1 there (first.right (rest.notes.before h)));
      }

  -- ---- attributes

  abbrev time_reading : Scope → Option ExprPart → Option Reading
  time_reading scope (Some p) = Some (expression texts scope p.0)
  time_reading scope None = None

  -- a time of a ramp that breaks no rule is fine
  fine_time : (k : Context) (p : Option ExprPart) (c : Notes) → HasNoFaults (time_of k (time_reading a p) c).0 → HasNoFaults c × ((time_of k (time_reading a p) c).1 ≡ true)
  fine_time k None c h = (h, refl)
  fine_time k (Some p) c h =
      let f = expression texts a p.0 (static_in k) c in
      let r : Both c f c (expression texts b p.0 (static_in k) c) = p.1 (static_in k) c c in
      let s = asked_passes f.1 f.0 h in
      (r.notes.before s.0, s.1 (r.right s.0))

  true_both : (x y : Bool) → x ≡ true → y ≡ true → (x && y) ≡ true
  true_both true y h k = k
  true_both false y h k = absurd (cc)

  ramp_never : (x : Name) (rise fall : Option ExprPart) (k : Context) (c : Notes)
      → HasNoFaults (attribute_step a (Attribute-F.Ramp (time_reading a rise) (time_reading a fall)) x k c).0 → ⊥
  ramp_never x rise fall k c h =
      let s = time_of k (time_reading a rise) c in
      let t = time_of k (time_reading a fall) s.0 in
      let later = fine_time k fall s.0 (changing_before k x.place t.0 (ramp_before x (lookup a x.number) (s.1 && t.1) (changing k x.place t.0) h)) in
      never_ramp natures x (lookup a x.number) (lookup b x.number) (s.1 && t.1) (changing k x.place t.0) (alike.seen x.number) (true_both s.1 t.1 (fine_time k rise c later.0).1 later.1) h

  ramp_reads : (x : Name) (rise fall : Option ExprPart) (k : Context) (c i : Notes)
      → Both c (attribute_step a (Attribute-F.Ramp (time_reading a rise) (time_reading a fall)) x k c) i (attribute_step b (Attribute-F.Ramp (time_reading b rise) (time_reading b fall)) x k i)
  ramp_reads x rise fall k c i =
      reads_never (Option Typed) (Option Typed) IsSome c (attribute_step a (Attribute-F.Ramp (time_reading a rise) (time_reading a fall)) x k c)
      i (attribute_step b (Attribute-F.Ramp (time_reading b rise) (time_reading b fall)) x k i) (ramp_never x rise fall k c)

  abbrev attribute_of : Attribute-F AttributePart ExprPart → Attribute
  attribute_of y = roll-Attribute (map-Attribute AttributePart ExprPart Attribute Expr (λ p. p.0) (λ p. p.0) y)

  attribute_lift : (y : Attribute-F Attribute Expr) (f g : Name → Reading) → attribute texts a (roll-Attribute y) ≡ f → attribute texts b (roll-Attribute y) ≡ g
      → ((x : Name) (k : Context) (c i : Notes) → Both c (f x k c) i (g x k i)) → AttributeReads (roll-Attribute y)
  attribute_lift y f g e d h =
      subst (λ (r : Name → Reading). (x : Name) (k : Context) (c i : Notes) → Both c (r x k c) i (attribute texts b (roll-Attribute y) x k i)) (sym e)
      (subst (λ (r : Name → Reading). (x : Name) (k : Context) (c i : Notes) → Both c (f x k c) i (r x k i)) (sym d) h)

  rolled : (scope : Scope) (y : Attribute-F Attribute Expr) → attribute texts scope (roll-Attribute y) ≡ attribute_step scope (map-Attribute Attribute Expr (Name → Reading) Reading (attribute texts scope) (expression texts scope) y)
  rolled scope y = fold-roll-Attribute (Name → Reading) Reading (attribute_step scope) (expr_step texts scope) y

  ramp_step : (rise fall : Option ExprPart) → AttributeReads (attribute_of (Attribute-F.Ramp rise fall))
  ramp_step None None =
      attribute_lift (Attribute-F.Ramp None None) (attribute_step a (Attribute-F.Ramp None None)) (attribute_step b (Attribute-F.Ramp None None))
      (rolled a (Attribute-F.Ramp None None)) (rolled b (Attribute-F.Ramp None None)) (λ x. ramp_reads x None None)
  ramp_step None (Some q) =
      attribute_lift (Attribute-F.Ramp None (Some q.0)) (attribute_step a (Attribute-F.Ramp None (time_reading a (Some q)))) (attribute_step b (Attribute-F.Ramp None (time_reading b (Some q))))
      (rolled a (Attribute-F.Ramp None (Some q.0))) (rolled b (Attribute-F.Ramp None (Some q.0))) (λ x. ramp_reads x None (Some q))
  ramp_step (Some p) None =
      attribute_lift (Attribute-F.Ramp (Some p.0) None) (attribute_step a (Attribute-F.Ramp (time_reading a (Some p)) None)) (attribute_step b (Attribute-F.Ramp (time_reading b (Some p)) None))
      (rolled a (Attribute-F.Ramp (Some p.0) None)) (rolled b (Attribute-F.Ramp (Some p.0) None)) (λ x. ramp_reads x (Some p) None)
  ramp_step (Some p) (Some q) =
      attribute_lift (Attribute-F.Ramp (Some p.0) (Some q.0)) (attribute_step a (Attribute-F.Ramp (time_reading a (Some p)) (time_reading a (Some q))))
      (attribute_step b (Attribute-F.Ramp (time_reading b (Some p)) (time_reading b (Some q))))
      (rolled a (Attribute-F.Ramp (Some p.0) (Some q.0))) (rolled b (Attribute-F.Ramp (Some p.0) (Some q.0))) (λ x. ramp_reads x (Some p) (Some q))

  attribute_steps : (y : Attribute-F AttributePart ExprPart) → AttributeReads (attribute_of y)
  attribute_steps Attribute-F.Event =
      attribute_lift Attribute-F.Event (attribute_step a Attribute-F.Event) (attribute_step b Attribute-F.Event) (rolled a Attribute-F.Event) (rolled b Attribute-F.Event)
      (λ x k c i. event_reads natures k k.surrounding x (lookup a x.number) (lookup b x.number) c i (alike.seen x.number))
  attribute_steps Attribute-F.Dot =
      attribute_lift Attribute-F.Dot (attribute_step a Attribute-F.Dot) (attribute_step b Attribute-F.Dot) (rolled a Attribute-F.Dot) (rolled b Attribute-F.Dot)
      (λ x k c i. dot_reads natures k x (lookup a x.number) (lookup b x.number) c i (alike.seen x.number))
  attribute_steps Attribute-F.Reference =
      attribute_lift Attribute-F.Reference (attribute_step a Attribute-F.Reference) (attribute_step b Attribute-F.Reference) (rolled a Attribute-F.Reference) (rolled b Attribute-F.Reference)
      (λ x k c i. reference_reads natures k x (lookup a x.number) (lookup b x.number) c i (alike.seen x.number))
  attribute_steps (Attribute-F.Above p) =
      attribute_lift (Attribute-F.Above p.0) (attribute_step a (Attribute-F.Above (expression texts a p.0))) (attribute_step b (Attribute-F.Above (expression texts b p.0)))
      (rolled a (Attribute-F.Above p.0)) (rolled b (Attribute-F.Above p.0))
      (λ x k c i.
      above_reads natures k x (lookup a x.number) (lookup b x.number) c (expression texts a p.0 (static_in k) c) i (expression texts b p.0 (static_in k) i) (alike.seen x.number) (p.1 (static_in k) c i))
  attribute_steps (Attribute-F.Ramp rise fall) = ramp_step rise fall

  -- ---- expressions

  abbrev expr_of : Expr-F AttributePart ExprPart → Expr
  expr_of y = roll-Expr (map-Expr AttributePart ExprPart Attribute Expr (λ p. p.0) (λ p. p.0) y)

  expr_lift : (y : Expr-F Attribute Expr) (f g : Reading) → expression texts a (roll-Expr y) ≡ f → expression texts b (roll-Expr y) ≡ g
      → ((k : Context) (c i : Notes) → Both c (f k c) i (g k i)) → ExprReads (roll-Expr y)
  expr_lift y f g e d h =
      subst (λ (r : Reading). (k : Context) (c i : Notes) → Both c (r k c) i (expression texts b (roll-Expr y) k i)) (sym e)
      (subst (λ (r : Reading). (k : Context) (c i : Notes) → Both c (f k c) i (r k i)) (sym d) h)

  turned : (scope : Scope) (y : Expr-F Attribute Expr) → expression texts scope (roll-Expr y) ≡ expr_step texts scope (map-Expr Attribute Expr (Name → Reading) Reading (attribute texts scope) (expression texts scope) y)
  turned scope y = fold-roll-Expr (Name → Reading) Reading (attribute_step scope) (expr_step texts scope) y

  call_found : (k : Context) (x : Name) (all : List ExprPart) (o p : Option Thing) (c i : Notes) → AlikeFound natures o p
      → (let r = arguments k (Some []) (readings a all) (missing x o c) in
      let s = arguments k (Some []) (readings b all) (missing x p i) in
      Both c (call_at k x o r.1 r.0) i (call_at k x p s.1 s.0))
  call_found k x all (Some t) (Some u) c i h =
      let r = arguments k (Some []) (readings a all) c in
      let s = arguments k (Some []) (readings b all) i in
      let list = list_reads k all (Some []) (Some []) c i in
      reads_of (Option Typed) (Option Typed) IsSome c (call_at k x (Some t) r.1 r.0) i (call_at k x (Some u) s.1 s.0)
      (λ g.
      let on = call_before k x t r.1 r.0 h.whole g in
      (list.notes.before on, (call_clean k x t r.1 r.0 h.whole (list.right on refl)).there g))
      (λ g o.
      let on = call_before k x t r.1 r.0 h.whole g in
      told_call k x u s.1 s.0 (λ is. (call_clean k x t r.1 r.0 h.whole (list.right on refl)).still g (h.changing is)) (list.notes.told on o))
  call_found k x all None None c i h =
      let r = arguments k (Some []) (readings a all) (missing x None c) in
      let s = arguments k (Some []) (readings b all) (missing x None i) in
      reads_never (Option Typed) (Option Typed) IsSome c (call_at k x None r.1 r.0) i (call_at k x None s.1 s.0)
      (never_missing k x r.1 c r.0 (list_reads k all (Some []) (Some []) (missing x None c) (missing x None i)).notes.before)
  call_found k x all (Some t) None c i h = absurd h
  call_found k x all None (Some u) c i h = absurd h

  binary_reads : (op : BinaryOperator) (p q : ExprPart) (k : Context) (c i : Notes)
      → (let l = expression texts a p.0 k c in
      let r = expression texts a q.0 k l.0 in
      let m = expression texts b p.0 k i in
      let s = expression texts b q.0 k m.0 in
      Both c (binary_at op l.1 r.1 r.0) i (binary_at op m.1 s.1 s.0))
  binary_reads op p q k c i =
      let l = expression texts a p.0 k c in
      let r = expression texts a q.0 k l.0 in
      let m = expression texts b p.0 k i in
      let s = expression texts b q.0 k m.0 in
      let left : Both c l i m = p.1 k c i in
      let right : Both l.0 r m.0 s = q.1 k l.0 m.0 in
      reads_of (Option Typed) (Option Typed) IsSome c (binary_at op l.1 r.1 r.0) i (binary_at op m.1 s.1 s.0)
      (λ h.
      let on = binary_before op l.1 r.1 r.0 h in
      let back = right.notes.before on in
      (left.notes.before back, binary_there op l.1 r.1 r.0 h (left.right back) (right.right on)))
      (λ h o.
      let on = binary_before op l.1 r.1 r.0 h in
      told_binary op m.1 s.1 s.0 (right.notes.told on (left.notes.told (right.notes.before on) o)))

  unary_reads : (op : UnaryOperator) (place : Place) (p : ExprPart) (k : Context) (c i : Notes)
      → Both c (unary_at op place (expression texts a p.0 k c).1 (expression texts a p.0 k c).0) i (unary_at op place (expression texts b p.0 k i).1 (expression texts b p.0 k i).0)
  unary_reads op place p k c i =
      let l = expression texts a p.0 k c in
      let m = expression texts b p.0 k i in
      reads_then (Option Typed) (Option Typed) IsSome c l i m (Option Typed) (Option Typed) IsSome (unary_at op place l.1 l.0) (unary_at op place m.1 m.0) (p.1 k c i)
      (unary_passes op place l.1 l.0) (λ h. told_unary op place m.1 m.0)

  paren_reads : (place : Place) (p : ExprPart) (k : Context) (c i : Notes)
      → Both c (parenthesized place (expression texts a p.0 k c).1 (expression texts a p.0 k c).0) i (parenthesized place (expression texts b p.0 k i).1 (expression texts b p.0 k i).0)
  paren_reads place p k c i =
      let l = expression texts a p.0 k c in
      let m = expression texts b p.0 k i in
      reads_then (Option Typed) (Option Typed) IsSome c l i m (Option Typed) (Option Typed) IsSome (parenthesized place l.1 l.0) (parenthesized place m.1 m.0) (p.1 k c i)
      (paren_passes place l.1 l.0) (λ h. told_paren place m.1 m.0)

  expr_steps : (y : Expr-F AttributePart ExprPart) → ExprReads (expr_of y)
  expr_steps (Expr-F.Number x unit) =
      expr_lift (Expr-F.Number x unit) (expr_step texts a (Expr-F.Number x unit)) (expr_step texts b (Expr-F.Number x unit)) (turned a (Expr-F.Number x unit)) (turned b (Expr-F.Number x unit))
      (λ k. number_reads texts (lookup a) (lookup b) x.place x.value unit)
  expr_steps (Expr-F.Literal x) =
      expr_lift (Expr-F.Literal x) (expr_step texts a (Expr-F.Literal x)) (expr_step texts b (Expr-F.Literal x)) (turned a (Expr-F.Literal x)) (turned b (Expr-F.Literal x))
      (λ k. literal_reads texts x.place x.value)
  expr_steps (Expr-F.Name x) =
      expr_lift (Expr-F.Name x) (expr_step texts a (Expr-F.Name x)) (expr_step texts b (Expr-F.Name x)) (turned a (Expr-F.Name x)) (turned b (Expr-F.Name x))
      (λ k c i. name_reads natures k x (lookup a x.number) (lookup b x.number) c i (alike.seen x.number))
  expr_steps (Expr-F.Call x all) =
      expr_lift (Expr-F.Call x (map (λ (p : ExprPart). p.0) all)) (expr_step texts a (Expr-F.Call x (readings a all))) (expr_step texts b (Expr-F.Call x (readings b all)))
      (turned a (Expr-F.Call x (map (λ (p : ExprPart). p.0) all))) (turned b (Expr-F.Call x (map (λ (p : ExprPart). p.0) all)))
      (λ k c i. call_found k x all (lookup a x.number) (lookup b x.number) c i (alike.seen x.number))
  expr_steps (Expr-F.Attribute x y) =
      expr_lift (Expr-F.Attribute x y.0) (expr_step texts a (Expr-F.Attribute x (attribute texts a y.0))) (expr_step texts b (Expr-F.Attribute x (attribute texts b y.0)))
      (turned a (Expr-F.Attribute x y.0)) (turned b (Expr-F.Attribute x y.0)) (λ k c i. y.1 x k c i)
  expr_steps (Expr-F.Paren place p) =
      expr_lift (Expr-F.Paren place p.0) (expr_step texts a (Expr-F.Paren place (expression texts a p.0))) (expr_step texts b (Expr-F.Paren place (expression texts b p.0)))
      (turned a (Expr-F.Paren place p.0)) (turned b (Expr-F.Paren place p.0)) (paren_reads place p)
  expr_steps (Expr-F.Unary op place p) =
      expr_lift (Expr-F.Unary op place p.0) (expr_step texts a (Expr-F.Unary op place (expression texts a p.0))) (expr_step texts b (Expr-F.Unary op place (expression texts b p.0)))
      (turned a (Expr-F.Unary op place p.0)) (turned b (Expr-F.Unary op place p.0)) (unary_reads (prefix op) place p)
  expr_steps (Expr-F.Binary op p q) =
      expr_lift (Expr-F.Binary op p.0 q.0) (expr_step texts a (Expr-F.Binary op (expression texts a p.0) (expression texts a q.0))) (expr_step texts b (Expr-F.Binary op (expression texts b p.0) (expression texts b q.0)))
      (turned a (Expr-F.Binary op p.0 q.0)) (turned b (Expr-F.Binary op p.0 q.0)) (binary_reads (infix_of op) p q)

  pub expression_follows : (x : Expr) → ExprReads x
  expression_follows =
      ind-Expr AttributeReads ExprReads
      (λ x y is. subst (λ (z : Attribute-F Attribute Expr). AttributeReads (roll-Attribute z)) is (attribute_steps y))
      (λ x y is. subst (λ (z : Expr-F Attribute Expr). ExprReads (roll-Expr z)) is (expr_steps y))
