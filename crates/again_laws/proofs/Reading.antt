-- What two readings of one expression break, by induction on the tree.
use Rattle.std.proofs.Common.{◌≡◌, ℕ, Bool, true, false, if◌then◌else◌, List, [], ◌∷◌, ◌++◌, map, Option, Some, None, is_some, refl, sym, ap, subst}
use Rattle.std.specs.Prelude.{◌&&◌}
use Rattle.ams_token.specs.declared.token.Place.{Place}
use Rattle.ams_tree.specs.declared.expression.Name.{Name}
use Rattle.ams_tree.specs.declared.expression.Attribute.{Attribute}
use Rattle.ams_tree.specs.declared.expression.Attribute.TheViews.{roll-Expr, roll-Attribute}
use Rattle.ams_tree.specs.declared.expression.Attribute.TheOpen.{Expr-F, Attribute-F}
use Rattle.ams_tree.specs.declared.expression.Attribute.TheFolds.{map-Expr, map-Attribute, fold-roll-Expr, fold-roll-Attribute, ind-Expr}
use Rattle.ams_tree.specs.declared.expression.Expr.{Expr}
use Rattle.ams_value.specs.declared.op.UnaryOperator.{UnaryOperator}
use Rattle.ams_value.specs.declared.op.BinaryOperator.{BinaryOperator}
use Rattle.ams_value.specs.declared.value_type.ValueType.TheVariants as kind
use Rattle.flat_expr.specs.declared.expr.FlatExpr.TheVariants as e
use Rattle.flat_expr.specs.declared.expr.SignalName.TheVariants as signal
use Rattle.flat_expr.specs.declared.expr.Unknown.TheVariants as unknown
use Rattle.flat_design.specs.Lists.{number_of_dot, number_of_threshold}
use Rattle.flat_design.specs.declared.objects.Threshold.{Threshold}
use Rattle.name_scope.specs.declared.thing.Kind.TheVariants.{Of}
use Rattle.name_scope.specs.declared.thing.Thing.{Thing}
use Rattle.name_scope.specs.declared.thing.Thing.TheVariants as thing
use Rattle.name_scope.specs.declared.scope.Scope.{Scope}
use Rattle.name_scope.specs.Scopes.{lookup}
use Rattle.elab_meaning.specs.declared.fault.Cause.{Cause}
use Rattle.elab_meaning.specs.declared.fault.Cause.TheVariants.{Unknown, WrongType}
use Rattle.elab_meaning.specs.declared.fault.Notes.{Notes}
use Rattle.elab_meaning.specs.declared.typed.Asked.{Asked}
use Rattle.elab_meaning.specs.declared.typed.Context.{Context}
use Rattle.elab_meaning.specs.declared.typed.Typed.{Typed}
use Rattle.elab_meaning.specs.Kinds.{same_kind}
use Rattle.elab_meaning.specs.Notes.{Found, noted, changing, dotted}
use Rattle.elab_meaning.specs.Names.{call_at, missing, dot, dot_at, threshold, above, above_at, ramp_at}
use Rattle.elab_meaning.specs.Expressions.{Reading, prefix, infix_of, unary_at, binary_at, parenthesized, asked, is_fine, static_in, put, arguments, time_of, attribute_step, expr_step, expression, attribute, static}
use Rattle.again_laws.specs.Again.{BreaksAlike, ExpressionsBreakAlike}
use Rattle.again_laws.proofs.Breaks.{breaks_same, breaks_noted, breaks_changing, breaks_on, breaks_dotted, breaks_watched}
use Rattle.again_laws.proofs.Steps.{LikeTyped, Like, LikeAll, LikeList, Quiet, quiet_number, quiet_literal, quiet_named, quiet_call, breaks_missing, quiet_event, quiet_reference, quiet_ramp, same_asked, quiet_unary, quiet_binary, quiet_paren}

-- ---- two readings

-- they break the same, and find the same but for the numbers of dots and thresholds
pub record ReadsLike (n m : Notes) (f g : Found) : Type 0 where
  pub notes : BreaksAlike n m f.0 g.0
  pub like : Like f.1 g.1

module _ (texts : List (List ℕ)) (scope : Scope) where
  abbrev ExprLike : Expr → Type 0
  ExprLike x = (c : Context) (n m : Notes) → ReadsLike n m (expression texts scope x c n) (expression texts scope x c m)

  abbrev AttributeLike : Attribute → Type 0
  AttributeLike a = (x : Name) (c : Context) (n m : Notes) → ReadsLike n m (attribute texts scope a x c n) (attribute texts scope a x c m)

  abbrev ExprPart : Type 0
  ExprPart = (x : Expr) × ExprLike x

  abbrev AttributePart : Type 0
  AttributePart = (a : Attribute) × AttributeLike a

  quietly : (n m : Notes) (f g : Found) → Quiet n m f g → ReadsLike n m f g
  quietly n m f g q = record { notes = q.same; like = q.like }

  -- a step behind a reading
  behind : (n m on to : Notes) (f g : Found) → BreaksAlike n m on to → ReadsLike on to f g → ReadsLike n m f g
  behind n m on to f g h k = record { notes = breaks_on n m on to f.0 g.0 h k.notes; like = k.like }

  -- ---- dots

  dot_like : (c : Context) (x : Name) (q : ℕ) (n m : Notes) → ReadsLike n m (dot c x q n) (dot c x q m)
  unfolding dot
  dot_like c x q n m =
      record {
        notes = breaks_on n m (changing c x.place n) (changing c x.place m) (dotted q (changing c x.place n)) (dotted q (changing c x.place m)) (breaks_changing c x.place n m) (breaks_dotted q (changing c x.place n) (changing c x.place m));
        like = (e.Unknown (unknown.Dot (number_of_dot q m.dots)), refl);
      }

  wrong_like : (place : Place) (cause : Cause) (n m : Notes) → ReadsLike n m (noted place cause n, None) (noted place cause m, None)
  wrong_like place cause n m = record { notes = breaks_noted place cause n m; like = tt }

  none_like : (n m : Notes) → ReadsLike n m (n, None) (m, None)
  none_like n m = record { notes = breaks_same n m; like = tt }

  dot_at_like : (c : Context) (x : Name) (found : Option Thing) (n m : Notes) → ReadsLike n m (dot_at c x found n) (dot_at c x found m)
  dot_at_like c x None n m = wrong_like x.place (Unknown x.number) n m
  dot_at_like c x (Some (thing.Quantity q k)) n m = dot_like c x q n m
  dot_at_like c x (Some thing.Faulty) n m = none_like n m
  dot_at_like c x (Some _) n m = wrong_like x.place WrongType n m

  -- ---- thresholds

  above_like : (place : Place) (h : Threshold) (n m : Notes) → ReadsLike n m (above place h n) (above place h m)
  unfolding above
  above_like place h n m =
      record { notes = breaks_watched h n m; like = (e.Signal (signal.Threshold (number_of_threshold h m.thresholds)) kind.Boolean, refl) }

  level_like : (b : Bool) (place : Place) (h : Threshold) (n m : Notes)
      → ReadsLike n m (if b then above place h n else (noted place WrongType n, None)) (if b then above place h m else (noted place WrongType m, None))
  level_like true place h n m = above_like place h n m
  level_like false place h n m = wrong_like place WrongType n m

  above_some : (x : Name) (t : Thing) (level : Asked) (n m : Notes) → ReadsLike n m (above_at x (Some t) (Some level) n) (above_at x (Some t) (Some level) m)
  above_some x (thing.Quantity q k) level n m = level_like (same_kind level.kind (Of kind.Real)) x.place (threshold q level) n m
  above_some x thing.Faulty level n m = none_like n m
  above_some x _ level n m = wrong_like x.place WrongType n m

  above_none : (x : Name) (t : Thing) (n m : Notes) → ReadsLike n m (above_at x (Some t) None n) (above_at x (Some t) None m)
  above_none x thing.Faulty n m = none_like n m
  above_none x _ n m = none_like n m

  above_at_like : (x : Name) (found : Option Thing) (level : Option Asked) (n m : Notes)
      → ReadsLike n m (above_at x found level n) (above_at x found level m)
  above_at_like x None level n m = wrong_like x.place (Unknown x.number) n m
  above_at_like x (Some t) (Some level) n m = above_some x t level n m
  above_at_like x (Some t) None n m = above_none x t n m

  -- ---- what is asked

  asked_notes : (a b : Option Typed) (n m : Notes) → Like a b → BreaksAlike n m (asked a n).0 (asked b m).0
  asked_notes a b n m h = (same_asked a b n m h).same

  -- ---- attributes

  above_keeps : (x : Name) (p : ExprPart) (c : Context) (n m : Notes)
      → ReadsLike n m (attribute_step scope (Attribute-F.Above (expression texts scope p.0)) x c n) (attribute_step scope (Attribute-F.Above (expression texts scope p.0)) x c m)
  above_keeps x p c n m =
      let found = expression texts scope p.0 (static_in c) n in
      let again = expression texts scope p.0 (static_in c) m in
      let inner : ReadsLike n m found again = p.1 (static_in c) n m in
      let level = asked found.1 found.0 in
      let other = asked again.1 again.0 in
      let same : level.1 ≡ other.1 = (same_asked found.1 again.1 found.0 again.0 inner.like).asked_is in
      let here = changing c x.place level.0 in
      let there = changing c x.place other.0 in
      let last : ReadsLike here there (above_at x (lookup scope x.number) level.1 here) (above_at x (lookup scope x.number) other.1 there) =
      subst (λ (o : Option Asked). ReadsLike here there (above_at x (lookup scope x.number) level.1 here) (above_at x (lookup scope x.number) o there)) same
      (above_at_like x (lookup scope x.number) level.1 here there) in
      behind n m found.0 again.0 (above_at x (lookup scope x.number) level.1 here) (above_at x (lookup scope x.number) other.1 there) inner.notes
      (behind found.0 again.0 level.0 other.0 (above_at x (lookup scope x.number) level.1 here) (above_at x (lookup scope x.number) other.1 there) (asked_notes found.1 again.1 found.0 again.0 inner.like)
      (behind level.0 other.0 here there (above_at x (lookup scope x.number) level.1 here) (above_at x (lookup scope x.number) other.1 there) (breaks_changing c x.place level.0 other.0) last))

  abbrev time_reading : Option ExprPart → Option Reading
  time_reading (Some p) = Some (expression texts scope p.0)
  time_reading None = None

  -- two readings of a time
  record TimesLike (n m : Notes) (f g : Notes × Bool) : Type 0 where
    notes : BreaksAlike n m f.0 g.0
    fine : f.1 ≡ g.1

  fine_like : (a b : Option Typed) (n m : Notes) → Like a b → TimesLike n m (is_fine a n) (is_fine b m)
  fine_like a b n m h = record { notes = asked_notes a b n m h; fine = ap (λ (o : Option Asked). is_some o) (same_asked a b n m h).asked_is }

  time_like : (p : Option ExprPart) (c : Context) (n m : Notes) → TimesLike n m (time_of c (time_reading p) n) (time_of c (time_reading p) m)
  time_like None c n m = record { notes = breaks_same n m; fine = refl }
  time_like (Some p) c n m =
      let found = expression texts scope p.0 (static_in c) n in
      let again = expression texts scope p.0 (static_in c) m in
      let inner : ReadsLike n m found again = p.1 (static_in c) n m in
      let last : TimesLike found.0 again.0 (is_fine found.1 found.0) (is_fine again.1 again.0) = fine_like found.1 again.1 found.0 again.0 inner.like in
      record { notes = breaks_on n m found.0 again.0 (is_fine found.1 found.0).0 (is_fine again.1 again.0).0 inner.notes last.notes; fine = last.fine }

  ramp_keeps : (x : Name) (rise fall : Option ExprPart) (c : Context) (n m : Notes)
      → ReadsLike n m (attribute_step scope (Attribute-F.Ramp (time_reading rise) (time_reading fall)) x c n) (attribute_step scope (Attribute-F.Ramp (time_reading rise) (time_reading fall)) x c m)
  ramp_keeps x rise fall c n m =
      let a = time_of c (time_reading rise) n in
      let b = time_of c (time_reading fall) a.0 in
      let u = time_of c (time_reading rise) m in
      let v = time_of c (time_reading fall) u.0 in
      let first : TimesLike n m a u = time_like rise c n m in
      let second : TimesLike a.0 u.0 b v = time_like fall c a.0 u.0 in
      let here = changing c x.place b.0 in
      let there = changing c x.place v.0 in
      let f = ramp_at x (lookup scope x.number) (a.1 && b.1) here in
      let g = ramp_at x (lookup scope x.number) (u.1 && v.1) there in
      let same : (a.1 && b.1) ≡ (u.1 && v.1) = both_same a.1 b.1 u.1 v.1 first.fine second.fine in
      let last : ReadsLike here there f g =
      subst (λ (z : Bool). ReadsLike here there f (ramp_at x (lookup scope x.number) z there)) same
      (quietly here there f (ramp_at x (lookup scope x.number) (a.1 && b.1) there)
      (quiet_ramp x (lookup scope x.number) (a.1 && b.1) here there)) in
      behind n m a.0 u.0 f g first.notes (behind a.0 u.0 b.0 v.0 f g second.notes (behind b.0 v.0 here there f g (breaks_changing c x.place b.0 v.0) last))
    where
      both_same : (a b u v : Bool) → a ≡ u → b ≡ v → (a && b) ≡ (u && v)
      both_same a b u v h g = subst (λ (z : Bool). (a && b) ≡ (z && v)) h (subst (λ (z : Bool). (a && b) ≡ (a && z)) g refl)

  abbrev attribute_of : Attribute-F AttributePart ExprPart → Attribute
  attribute_of y = roll-Attribute (map-Attribute AttributePart ExprPart Attribute Expr (λ p. p.0) (λ p. p.0) y)

  attribute_lift : (y : Attribute-F Attribute Expr) (f : Name → Reading) → attribute texts scope (roll-Attribute y) ≡ f
      → ((x : Name) (c : Context) (n m : Notes) → ReadsLike n m (f x c n) (f x c m)) → AttributeLike (roll-Attribute y)
  attribute_lift y f e h = subst (λ (g : Name → Reading). (x : Name) (c : Context) (n m : Notes) → ReadsLike n m (g x c n) (g x c m)) (sym e) h

  ramp_step : (rise fall : Option ExprPart) → AttributeLike (attribute_of (Attribute-F.Ramp rise fall))
  ramp_step None None =
      attribute_lift (Attribute-F.Ramp None None) (attribute_step scope (Attribute-F.Ramp None None))
      (fold-roll-Attribute (Name → Reading) Reading (attribute_step scope) (expr_step texts scope) (Attribute-F.Ramp None None)) (λ x. ramp_keeps x None None)
  ramp_step None (Some b) =
      attribute_lift (Attribute-F.Ramp None (Some b.0)) (attribute_step scope (Attribute-F.Ramp None (time_reading (Some b))))
      (fold-roll-Attribute (Name → Reading) Reading (attribute_step scope) (expr_step texts scope) (Attribute-F.Ramp None (Some b.0))) (λ x. ramp_keeps x None (Some b))
  ramp_step (Some a) None =
      attribute_lift (Attribute-F.Ramp (Some a.0) None) (attribute_step scope (Attribute-F.Ramp (time_reading (Some a)) None))
      (fold-roll-Attribute (Name → Reading) Reading (attribute_step scope) (expr_step texts scope) (Attribute-F.Ramp (Some a.0) None)) (λ x. ramp_keeps x (Some a) None)
  ramp_step (Some a) (Some b) =
      attribute_lift (Attribute-F.Ramp (Some a.0) (Some b.0)) (attribute_step scope (Attribute-F.Ramp (time_reading (Some a)) (time_reading (Some b))))
      (fold-roll-Attribute (Name → Reading) Reading (attribute_step scope) (expr_step texts scope) (Attribute-F.Ramp (Some a.0) (Some b.0))) (λ x. ramp_keeps x (Some a) (Some b))

  attribute_steps : (y : Attribute-F AttributePart ExprPart) → AttributeLike (attribute_of y)
  attribute_steps Attribute-F.Event =
      attribute_lift Attribute-F.Event (attribute_step scope Attribute-F.Event)
      (fold-roll-Attribute (Name → Reading) Reading (attribute_step scope) (expr_step texts scope) Attribute-F.Event)
      (λ x c n m. quietly n m _ _ (quiet_event c c.surrounding x (lookup scope x.number) n m))
  attribute_steps Attribute-F.Dot =
      attribute_lift Attribute-F.Dot (attribute_step scope Attribute-F.Dot)
      (fold-roll-Attribute (Name → Reading) Reading (attribute_step scope) (expr_step texts scope) Attribute-F.Dot)
      (λ x c n m. dot_at_like c x (lookup scope x.number) n m)
  attribute_steps Attribute-F.Reference =
      attribute_lift Attribute-F.Reference (attribute_step scope Attribute-F.Reference)
      (fold-roll-Attribute (Name → Reading) Reading (attribute_step scope) (expr_step texts scope) Attribute-F.Reference)
      (λ x c n m. quietly n m _ _ (quiet_reference c x (lookup scope x.number) n m))
  attribute_steps (Attribute-F.Above p) =
      attribute_lift (Attribute-F.Above p.0) (attribute_step scope (Attribute-F.Above (expression texts scope p.0)))
      (fold-roll-Attribute (Name → Reading) Reading (attribute_step scope) (expr_step texts scope) (Attribute-F.Above p.0))
      (λ x. above_keeps x p)
  attribute_steps (Attribute-F.Ramp rise fall) = ramp_step rise fall

  -- ---- lists of arguments

  abbrev readings : List ExprPart → List Reading
  readings all = map (expression texts scope) (map (λ (p : ExprPart). p.0) all)

  put_all : (all more : List Typed) (a b : Typed) → LikeAll all more → LikeTyped a b → LikeAll (all ++ a ∷ []) (more ++ b ∷ [])
  put_all [] [] a b h k = (k, tt)
  put_all (x ∷ all) (y ∷ more) a b h k = (h.0, put_all all more a b h.1 k)
  put_all [] (y ∷ more) a b h k = absurd h
  put_all (x ∷ all) [] a b h k = absurd h

  put_like : (all more : Option (List Typed)) (a b : Option Typed) → LikeList all more → Like a b → LikeList (put all a) (put more b)
  put_like (Some all) (Some more) (Some a) (Some b) h k = put_all all more a b h k
  put_like (Some all) (Some more) None None h k = tt
  put_like None None (Some a) (Some b) h k = tt
  put_like None None None None h k = tt
  put_like (Some all) None a b h k = absurd h
  put_like None (Some more) a b h k = absurd h
  put_like (Some all) (Some more) (Some a) None h k = absurd k
  put_like (Some all) (Some more) None (Some b) h k = absurd k
  put_like None None (Some a) None h k = absurd k
  put_like None None None (Some b) h k = absurd k

  -- two readings of arguments
  record ListsLike (n m : Notes) (f g : Notes × Option (List Typed)) : Type 0 where
    notes : BreaksAlike n m f.0 g.0
    like : LikeList f.1 g.1

  arguments_like : (c : Context) (all : List ExprPart) (so_far more : Option (List Typed)) (n m : Notes) → LikeList so_far more
      → ListsLike n m (arguments c so_far (readings all) n) (arguments c more (readings all) m)
  arguments_like c [] so_far more n m h = record { notes = breaks_same n m; like = h }
  arguments_like c (p ∷ rest) so_far more n m h =
      let found = expression texts scope p.0 c n in
      let again = expression texts scope p.0 c m in
      let inner : ReadsLike n m found again = p.1 c n m in
      let others : ListsLike found.0 again.0 (arguments c (put so_far found.1) (readings rest) found.0) (arguments c (put more again.1) (readings rest) again.0) =
      arguments_like c rest (put so_far found.1) (put more again.1) found.0 again.0 (put_like so_far more found.1 again.1 h inner.like) in
      record {
        notes = breaks_on n m found.0 again.0 (arguments c (put so_far found.1) (readings rest) found.0).0 (arguments c (put more again.1) (readings rest) again.0).0 inner.notes others.notes;
        like = others.like;
      }

  -- ---- expressions

  abbrev expr_of : Expr-F AttributePart ExprPart → Expr
  expr_of y = roll-Expr (map-Expr AttributePart ExprPart Attribute Expr (λ p. p.0) (λ p. p.0) y)

  expr_lift : (y : Expr-F Attribute Expr) (f : Reading) → expression texts scope (roll-Expr y) ≡ f → ((c : Context) (n m : Notes) → ReadsLike n m (f c n) (f c m)) → ExprLike (roll-Expr y)
  expr_lift y f e h = subst (λ (g : Reading). (c : Context) (n m : Notes) → ReadsLike n m (g c n) (g c m)) (sym e) h

  call_keeps : (x : Name) (all : List ExprPart) (c : Context) (n m : Notes) → ReadsLike n m (expr_step texts scope (Expr-F.Call x (readings all)) c n) (expr_step texts scope (Expr-F.Call x (readings all)) c m)
  call_keeps x all c n m =
      let start = missing x (lookup scope x.number) n in
      let begin = missing x (lookup scope x.number) m in
      let read = arguments c (Some []) (readings all) start in
      let again = arguments c (Some []) (readings all) begin in
      let f = call_at c x (lookup scope x.number) read.1 read.0 in
      let g = call_at c x (lookup scope x.number) again.1 again.0 in
      let inner : ListsLike start begin read again = arguments_like c all (Some []) (Some []) start begin tt in
      behind n m start begin f g
      (breaks_missing x (lookup scope x.number) n m)
      (behind start begin read.0 again.0 f g inner.notes
      (quietly read.0 again.0 f g
      (quiet_call c x (lookup scope x.number) read.1 again.1 read.0 again.0 inner.like)))

  paren_keeps : (place : Place) (p : ExprPart) (c : Context) (n m : Notes)
      → ReadsLike n m (expr_step texts scope (Expr-F.Paren place (expression texts scope p.0)) c n) (expr_step texts scope (Expr-F.Paren place (expression texts scope p.0)) c m)
  paren_keeps place p c n m =
      let a = expression texts scope p.0 c n in
      let b = expression texts scope p.0 c m in
      let inner : ReadsLike n m a b = p.1 c n m in
      behind n m a.0 b.0 (parenthesized place a.1 a.0) (parenthesized place b.1 b.0) inner.notes
      (quietly a.0 b.0 (parenthesized place a.1 a.0) (parenthesized place b.1 b.0) (quiet_paren place a.1 b.1 a.0 b.0 inner.like))

  unary_keeps : (op : UnaryOperator) (place : Place) (p : ExprPart) (c : Context) (n m : Notes)
      → ReadsLike n m (unary_at op place (expression texts scope p.0 c n).1 (expression texts scope p.0 c n).0) (unary_at op place (expression texts scope p.0 c m).1 (expression texts scope p.0 c m).0)
  unary_keeps op place p c n m =
      let a = expression texts scope p.0 c n in
      let b = expression texts scope p.0 c m in
      let inner : ReadsLike n m a b = p.1 c n m in
      behind n m a.0 b.0 (unary_at op place a.1 a.0) (unary_at op place b.1 b.0) inner.notes
      (quietly a.0 b.0 (unary_at op place a.1 a.0) (unary_at op place b.1 b.0) (quiet_unary op place a.1 b.1 a.0 b.0 inner.like))

  binary_keeps : (op : BinaryOperator) (p q : ExprPart) (c : Context) (n m : Notes)
      → ReadsLike n m
      (binary_at op (expression texts scope p.0 c n).1 (expression texts scope q.0 c (expression texts scope p.0 c n).0).1 (expression texts scope q.0 c (expression texts scope p.0 c n).0).0)
      (binary_at op (expression texts scope p.0 c m).1 (expression texts scope q.0 c (expression texts scope p.0 c m).0).1 (expression texts scope q.0 c (expression texts scope p.0 c m).0).0)
  binary_keeps op p q c n m =
      let a = expression texts scope p.0 c n in
      let b = expression texts scope q.0 c a.0 in
      let u = expression texts scope p.0 c m in
      let v = expression texts scope q.0 c u.0 in
      let first : ReadsLike n m a u = p.1 c n m in
      let second : ReadsLike a.0 u.0 b v = q.1 c a.0 u.0 in
      let f = binary_at op a.1 b.1 b.0 in
      let g = binary_at op u.1 v.1 v.0 in
      behind n m a.0 u.0 f g first.notes
      (behind a.0 u.0 b.0 v.0 f g second.notes
      (quietly b.0 v.0 f g (quiet_binary op a.1 b.1 u.1 v.1 b.0 v.0 first.like second.like)))

  expr_steps : (y : Expr-F AttributePart ExprPart) → ExprLike (expr_of y)
  expr_steps (Expr-F.Number x unit) =
      expr_lift (Expr-F.Number x unit) (expr_step texts scope (Expr-F.Number x unit))
      (fold-roll-Expr (Name → Reading) Reading (attribute_step scope) (expr_step texts scope) (Expr-F.Number x unit))
      (λ c n m. quietly n m _ _ (quiet_number texts (lookup scope) x.place x.value unit n m))
  expr_steps (Expr-F.Literal x) =
      expr_lift (Expr-F.Literal x) (expr_step texts scope (Expr-F.Literal x))
      (fold-roll-Expr (Name → Reading) Reading (attribute_step scope) (expr_step texts scope) (Expr-F.Literal x))
      (λ c n m. quietly n m _ _ (quiet_literal texts x.place x.value n m))
  expr_steps (Expr-F.Name x) =
      expr_lift (Expr-F.Name x) (expr_step texts scope (Expr-F.Name x))
      (fold-roll-Expr (Name → Reading) Reading (attribute_step scope) (expr_step texts scope) (Expr-F.Name x))
      (λ c n m. quietly n m _ _ (quiet_named c x (lookup scope x.number) n m))
  expr_steps (Expr-F.Call x all) =
      expr_lift (Expr-F.Call x (map (λ (p : ExprPart). p.0) all)) (expr_step texts scope (Expr-F.Call x (readings all)))
      (fold-roll-Expr (Name → Reading) Reading (attribute_step scope) (expr_step texts scope) (Expr-F.Call x (map (λ (p : ExprPart). p.0) all)))
      (call_keeps x all)
  expr_steps (Expr-F.Attribute x a) =
      expr_lift (Expr-F.Attribute x a.0) (expr_step texts scope (Expr-F.Attribute x (attribute texts scope a.0)))
      (fold-roll-Expr (Name → Reading) Reading (attribute_step scope) (expr_step texts scope) (Expr-F.Attribute x a.0))
      (λ c n m. a.1 x c n m)
  expr_steps (Expr-F.Paren place p) =
      expr_lift (Expr-F.Paren place p.0) (expr_step texts scope (Expr-F.Paren place (expression texts scope p.0)))
      (fold-roll-Expr (Name → Reading) Reading (attribute_step scope) (expr_step texts scope) (Expr-F.Paren place p.0))
      (paren_keeps place p)
  expr_steps (Expr-F.Unary op place p) =
      expr_lift (Expr-F.Unary op place p.0) (expr_step texts scope (Expr-F.Unary op place (expression texts scope p.0)))
      (fold-roll-Expr (Name → Reading) Reading (attribute_step scope) (expr_step texts scope) (Expr-F.Unary op place p.0))
      (unary_keeps (prefix op) place p)
  expr_steps (Expr-F.Binary op p q) =
      expr_lift (Expr-F.Binary op p.0 q.0) (expr_step texts scope (Expr-F.Binary op (expression texts scope p.0) (expression texts scope q.0)))
      (fold-roll-Expr (Name → Reading) Reading (attribute_step scope) (expr_step texts scope) (Expr-F.Binary op p.0 q.0))
      (binary_keeps (infix_of op) p q)

  pub expression_like : (x : Expr) → ExprLike x
  expression_like =
      ind-Expr AttributeLike ExprLike
      (λ x y is. subst (λ (z : Attribute-F Attribute Expr). AttributeLike (roll-Attribute z)) is (attribute_steps y))
      (λ x y is. subst (λ (z : Expr-F Attribute Expr). ExprLike (roll-Expr z)) is (expr_steps y))

  -- ---- values that are asked before the run

  -- two readings of a value: the same is found
  pub record StaticLike (n m : Notes) (f g : Notes × Option Asked) : Type 0 where
    pub notes : BreaksAlike n m f.0 g.0
    pub asked_is : f.1 ≡ g.1

  pub static_like : (x : Expr) (c : Context) (n m : Notes) → StaticLike n m (static texts scope x c n) (static texts scope x c m)
  static_like x c n m =
      let found = expression texts scope x (static_in c) n in
      let again = expression texts scope x (static_in c) m in
      let inner : ReadsLike n m found again = expression_like x (static_in c) n m in
      record {
        notes = breaks_on n m found.0 again.0 (asked found.1 found.0).0 (asked again.1 again.0).0 inner.notes (asked_notes found.1 again.1 found.0 again.0 inner.like);
        asked_is = (same_asked found.1 again.1 found.0 again.0 inner.like).asked_is;
      }

pub expressions_break_alike : ExpressionsBreakAlike
expressions_break_alike texts scope x c n m = (expression_like texts scope x c n m).notes
