-- What two readings of one expression break, by induction on the tree.
use Rattle.std.proofs.Common.{◌≡◌, ℕ, Bool, true, false, List, [], ◌∷◌, ◌++◌, map, Option, Some, None, is_some, IfSome, refl, sym, ap, subst, ◌∙◌}
use Rattle.std.specs.Prelude.{◌&&◌}
use Rattle.ams_token.specs.declared.token.Place.{Place}
use Rattle.ams_tree.specs.declared.expression.Name.{Name}
use Rattle.ams_tree.specs.declared.expression.Attribute.{Attribute}
use Rattle.ams_tree.specs.declared.expression.Attribute.TheViews.{roll-Expr, roll-Attribute}
use Rattle.ams_tree.specs.declared.expression.Attribute.TheOpen.{Expr-F, Attribute-F}
use Rattle.ams_tree.specs.declared.expression.Attribute.TheFolds.{map-Expr, map-Attribute, fold-roll-Expr, fold-roll-Attribute, ind-Expr}
use Rattle.ams_tree.specs.declared.expression.Expr.{Expr}
use Rattle.ams_value.specs.declared.op.UnaryOperator.{UnaryOperator}
use Rattle.ams_value.specs.declared.op.BinaryOperator.{BinaryOperator}
use Rattle.name_scope.specs.declared.scope.Scope.{Scope}
use Rattle.name_scope.specs.Scopes.{lookup}
use Rattle.elab_meaning.specs.declared.fault.Fault.{Fault}
use Rattle.elab_meaning.specs.declared.fault.Notes.{Notes}
use Rattle.elab_meaning.specs.declared.typed.Asked.{Asked}
use Rattle.elab_meaning.specs.declared.typed.Context.{Context}
use Rattle.elab_meaning.specs.declared.typed.Typed.{Typed}
use Rattle.elab_meaning.specs.Notes.{Found, changing}
use Rattle.elab_meaning.specs.Names.{call_at, missing, above_at, ramp_at}
use Rattle.elab_meaning.specs.Expressions.{Reading, prefix, infix_of, unary_at, binary_at, parenthesized, asked, is_fine, static_in, put, arguments, time_of, attribute_step, expr_step, expression, attribute, static}
use Rattle.kept_laws.specs.Kept.{BreaksAlike, IsThere, NamesAreFaultless, ReadingsKeep}
use Rattle.kept_laws.proofs.Alike.{both_empty, none_more, alike_none, alike_on, alike_changing, LikeTyped, Like, Alike, behind, weaker}
use Rattle.kept_laws.proofs.Steps.{IfThing, number_alike, literal_alike, named_alike, LikeAll, LikeList, Callable, call_alike, missing_alike, not_missing, event_alike, dot_at_alike, reference_alike, IsMarked, above_at_alike, ramp_alike, AskedAlike, asked_alike, unary_alike, binary_alike, paren_alike}

module _ (texts : List (List ℕ)) (scope : Scope) where
  abbrev pub Sound : Type 0
  Sound = NamesAreFaultless scope

  abbrev ExprAlike : Expr → Type 0
  ExprAlike x = (c : Context) (n m : Notes) → Alike Sound n m (expression texts scope x c n) (expression texts scope x c m)

  abbrev AttributeAlike : Attribute → Type 0
  AttributeAlike a = (x : Name) (c : Context) (n m : Notes) → Alike Sound n m (attribute texts scope a x c n) (attribute texts scope a x c m)

  abbrev ExprPart : Type 0
  ExprPart = (x : Expr) × ExprAlike x

  abbrev AttributePart : Type 0
  AttributePart = (a : Attribute) × AttributeAlike a

  -- ---- attributes

  above_keeps : (x : Name) (p : ExprPart) (c : Context) (n m : Notes)
      → Alike Sound n m (attribute_step scope (Attribute-F.Above (expression texts scope p.0)) x c n) (attribute_step scope (Attribute-F.Above (expression texts scope p.0)) x c m)
  above_keeps x p c n m =
      let thing = lookup scope x.number in
      let found = expression texts scope p.0 (static_in c) n in
      let again = expression texts scope p.0 (static_in c) m in
      let inner : Alike Sound n m found again = p.1 (static_in c) n m in
      let level = asked found.1 found.0 in
      let other = asked again.1 again.0 in
      let value : AskedAlike (IsThere found.1) found.0 again.0 level other = asked_alike found.1 again.1 found.0 again.0 inner.like in
      let here = changing c x.place level.0 in
      let there = changing c x.place other.0 in
      let last : Alike (IsMarked thing level.1) here there (above_at x thing level.1 here) (above_at x thing other.1 there) =
      subst (λ (o : Option Asked). Alike (IsMarked thing level.1) here there (above_at x thing level.1 here) (above_at x thing o there)) value.same
      (above_at_alike x thing level.1 here there) in
      let marked : Alike (Sound × IsThere level.1) level.0 other.0 (above_at x thing level.1 here) (above_at x thing other.1 there) =
      behind (Sound × IsThere level.1) (IsMarked thing level.1) level.0 other.0 here there (above_at x thing level.1 here) (above_at x thing other.1 there) (alike_changing c x.place level.0 other.0)
      (λ k none. record { thing_is = k.0 x.number; level_is = k.1 }) last in
      let leveled : Alike (Sound × IsThere found.1) found.0 again.0 (above_at x thing level.1 here) (above_at x thing other.1 there) =
      behind (Sound × IsThere found.1) (Sound × IsThere level.1) found.0 again.0 level.0 other.0 (above_at x thing level.1 here) (above_at x thing other.1 there) value.breaks
      (λ k none. (k.0, value.told k.1 none)) marked in
      behind Sound (Sound × IsThere found.1) n m found.0 again.0 (above_at x thing level.1 here) (above_at x thing other.1 there) inner.breaks (λ k none. (k, inner.told k none)) leveled

  abbrev time_reading : Option ExprPart → Option Reading
  time_reading (Some p) = Some (expression texts scope p.0)
  time_reading None = None

  -- two readings of a time
  record TimesAlike (n m : Notes) (f g : Notes × Bool) : Type 0 where
    breaks : BreaksAlike n m f.0 g.0
    fine : f.1 ≡ g.1
    told : Sound → breaks.more ≡ [] → f.1 ≡ true

  there_some : (o : Option Asked) → IsThere o → is_some o ≡ true
  there_some (Some a) h = refl
  there_some None h = absurd h

  time_alike : (p : Option ExprPart) (c : Context) (n m : Notes) → TimesAlike n m (time_of c (time_reading p) n) (time_of c (time_reading p) m)
  time_alike None c n m = record { breaks = alike_none n m; fine = refl; told = λ k none. refl }
  time_alike (Some p) c n m =
      let found = expression texts scope p.0 (static_in c) n in
      let again = expression texts scope p.0 (static_in c) m in
      let inner : Alike Sound n m found again = p.1 (static_in c) n m in
      let value : AskedAlike (IsThere found.1) found.0 again.0 (asked found.1 found.0) (asked again.1 again.0) = asked_alike found.1 again.1 found.0 again.0 inner.like in
      record {
        breaks = alike_on n m found.0 again.0 (asked found.1 found.0).0 (asked again.1 again.0).0 inner.breaks value.breaks;
        fine = ap (λ (o : Option Asked). is_some o) value.same;
        told = λ k none.
            let parts = both_empty inner.breaks.more value.breaks.more none in
            there_some (asked found.1 found.0).1 (value.told (inner.told k parts.0) parts.1);
      }

  both_true : (a b : Bool) → a ≡ true → b ≡ true → (a && b) ≡ true
  both_true true b h k = k
  both_true false b h k = h

  both_same : (a b u v : Bool) → a ≡ u → b ≡ v → (a && b) ≡ (u && v)
  both_same a b u v h g = subst (λ (z : Bool). (a && b) ≡ (z && v)) h (subst (λ (z : Bool). (a && b) ≡ (a && z)) g refl)

  ramp_keeps : (x : Name) (rise fall : Option ExprPart) (c : Context) (n m : Notes)
      → Alike Sound n m (attribute_step scope (Attribute-F.Ramp (time_reading rise) (time_reading fall)) x c n) (attribute_step scope (Attribute-F.Ramp (time_reading rise) (time_reading fall)) x c m)
  ramp_keeps x rise fall c n m =
      let thing = lookup scope x.number in
      let a = time_of c (time_reading rise) n in
      let b = time_of c (time_reading fall) a.0 in
      let u = time_of c (time_reading rise) m in
      let v = time_of c (time_reading fall) u.0 in
      let first : TimesAlike n m a u = time_alike rise c n m in
      let second : TimesAlike a.0 u.0 b v = time_alike fall c a.0 u.0 in
      let here = changing c x.place b.0 in
      let there = changing c x.place v.0 in
      let f = ramp_at x thing (a.1 && b.1) here in
      let g = ramp_at x thing (u.1 && v.1) there in
      let same : (a.1 && b.1) ≡ (u.1 && v.1) = both_same a.1 b.1 u.1 v.1 first.fine second.fine in
      let last : Alike (IfThing thing × ((a.1 && b.1) ≡ true)) here there f g =
      subst (λ (z : Bool). Alike (IfThing thing × ((a.1 && b.1) ≡ true)) here there f (ramp_at x thing z there)) same (ramp_alike x thing (a.1 && b.1) here there) in
      behind Sound (Sound × (a.1 ≡ true)) n m a.0 u.0 f g first.breaks (λ k none. (k, first.told k none))
      (behind (Sound × (a.1 ≡ true)) (Sound × (a.1 ≡ true) × (b.1 ≡ true)) a.0 u.0 b.0 v.0 f g second.breaks (λ k none. (k.0, k.1, second.told k.0 none))
      (behind (Sound × (a.1 ≡ true) × (b.1 ≡ true)) (IfThing thing × ((a.1 && b.1) ≡ true)) b.0 v.0 here there f g (alike_changing c x.place b.0 v.0) (λ k none. (k.0 x.number, both_true a.1 b.1 k.1 k.2)) last))

  abbrev attribute_of : Attribute-F AttributePart ExprPart → Attribute
  attribute_of y = roll-Attribute (map-Attribute AttributePart ExprPart Attribute Expr (λ p. p.0) (λ p. p.0) y)

  attribute_lift : (y : Attribute-F Attribute Expr) (f : Name → Reading) → attribute texts scope (roll-Attribute y) ≡ f
      → ((x : Name) (c : Context) (n m : Notes) → Alike Sound n m (f x c n) (f x c m)) → AttributeAlike (roll-Attribute y)
  attribute_lift y f e h = subst (λ (g : Name → Reading). (x : Name) (c : Context) (n m : Notes) → Alike Sound n m (g x c n) (g x c m)) (sym e) h

  ramp_step : (rise fall : Option ExprPart) → AttributeAlike (attribute_of (Attribute-F.Ramp rise fall))
  ramp_step None None =
      attribute_lift (Attribute-F.Ramp None None) (attribute_step scope (Attribute-F.Ramp None None))
      (fold-roll-Attribute (Name → Reading) Reading (attribute_step scope) (expr_step texts scope) (Attribute-F.Ramp None None)) (λ x. ramp_keeps x None None)
  ramp_step None (Some b) =
      attribute_lift (Attribute-F.Ramp None (Some b.0)) (attribute_step scope (Attribute-F.Ramp None (time_reading (Some b))))
      (fold-roll-Attribute (Name → Reading) Reading (attribute_step scope) (expr_step texts scope) (Attribute-F.Ramp None (Some b.0))) (λ x. ramp_keeps x None (Some b))
  ramp_step (Some a) None =
      attribute_lift (Attribute-F.Ramp (Some a.0) None) (attribute_step scope (Attribute-F.Ramp (time_reading (Some a)) None))
      (fold-roll-Attribute (Name → Reading) Reading (attribute_step scope) (expr_step texts scope) (Attribute-F.Ramp (Some a.0) None)) (λ x. ramp_keeps x (Some a) None)
  ramp_step (Some a) (Some b) =
      attribute_lift (Attribute-F.Ramp (Some a.0) (Some b.0)) (attribute_step scope (Attribute-F.Ramp (time_reading (Some a)) (time_reading (Some b))))
      (fold-roll-Attribute (Name → Reading) Reading (attribute_step scope) (expr_step texts scope) (Attribute-F.Ramp (Some a.0) (Some b.0))) (λ x. ramp_keeps x (Some a) (Some b))

  attribute_steps : (y : Attribute-F AttributePart ExprPart) → AttributeAlike (attribute_of y)
  attribute_steps Attribute-F.Event =
      attribute_lift Attribute-F.Event (attribute_step scope Attribute-F.Event)
      (fold-roll-Attribute (Name → Reading) Reading (attribute_step scope) (expr_step texts scope) Attribute-F.Event)
      (λ x c n m. weaker Sound _ n m _ _ (λ k. k x.number) (event_alike c c.surrounding x (lookup scope x.number) n m))
  attribute_steps Attribute-F.Dot =
      attribute_lift Attribute-F.Dot (attribute_step scope Attribute-F.Dot)
      (fold-roll-Attribute (Name → Reading) Reading (attribute_step scope) (expr_step texts scope) Attribute-F.Dot)
      (λ x c n m. weaker Sound _ n m _ _ (λ k. k x.number) (dot_at_alike c x (lookup scope x.number) n m))
  attribute_steps Attribute-F.Reference =
      attribute_lift Attribute-F.Reference (attribute_step scope Attribute-F.Reference)
      (fold-roll-Attribute (Name → Reading) Reading (attribute_step scope) (expr_step texts scope) Attribute-F.Reference)
      (λ x c n m. weaker Sound _ n m _ _ (λ k. k x.number) (reference_alike c x (lookup scope x.number) n m))
  attribute_steps (Attribute-F.Above p) =
      attribute_lift (Attribute-F.Above p.0) (attribute_step scope (Attribute-F.Above (expression texts scope p.0)))
      (fold-roll-Attribute (Name → Reading) Reading (attribute_step scope) (expr_step texts scope) (Attribute-F.Above p.0))
      (λ x. above_keeps x p)
  attribute_steps (Attribute-F.Ramp rise fall) = ramp_step rise fall

  -- ---- lists of arguments

  abbrev readings : List ExprPart → List Reading
  readings all = map (expression texts scope) (map (λ (p : ExprPart). p.0) all)

  put_all : (all more : List Typed) (a b : Typed) → LikeAll all more → LikeTyped a b → LikeAll (all ++ a ∷ []) (more ++ b ∷ [])
  put_all [] [] a b h k = (k, tt)
  put_all (x ∷ all) (y ∷ more) a b h k = (h.0, put_all all more a b h.1 k)
  put_all [] (y ∷ more) a b h k = absurd h
  put_all (x ∷ all) [] a b h k = absurd h

  put_like : (all more : Option (List Typed)) (a b : Option Typed) → LikeList all more → Like a b → LikeList (put all a) (put more b)
  put_like (Some all) (Some more) (Some a) (Some b) h k = put_all all more a b h k
  put_like (Some all) (Some more) None None h k = tt
  put_like None None (Some a) (Some b) h k = tt
  put_like None None None None h k = tt
  put_like (Some all) None a b h k = absurd h
  put_like None (Some more) a b h k = absurd h
  put_like (Some all) (Some more) (Some a) None h k = absurd k
  put_like (Some all) (Some more) None (Some b) h k = absurd k
  put_like None None (Some a) None h k = absurd k
  put_like None None None (Some b) h k = absurd k

  put_there : (all : Option (List Typed)) (a : Option Typed) → IsThere all → IsThere a → IsThere (put all a)
  put_there (Some all) (Some a) h k = tt
  put_there (Some all) None h k = absurd k
  put_there None a h k = absurd h

  -- two readings of arguments
  record ListsAlike (G : Type 0) (n m : Notes) (f g : Notes × Option (List Typed)) : Type 0 where
    breaks : BreaksAlike n m f.0 g.0
    like : LikeList f.1 g.1
    told : G → breaks.more ≡ [] → IsThere f.1

  arguments_alike : (c : Context) (all : List ExprPart) (so_far more : Option (List Typed)) (n m : Notes) → LikeList so_far more
      → ListsAlike (Sound × IsThere so_far) n m (arguments c so_far (readings all) n) (arguments c more (readings all) m)
  arguments_alike c [] so_far more n m h = record { breaks = alike_none n m; like = h; told = λ k none. k.1 }
  arguments_alike c (p ∷ rest) so_far more n m h =
      let found = expression texts scope p.0 c n in
      let again = expression texts scope p.0 c m in
      let inner : Alike Sound n m found again = p.1 c n m in
      let others : ListsAlike (Sound × IsThere (put so_far found.1)) found.0 again.0 (arguments c (put so_far found.1) (readings rest) found.0) (arguments c (put more again.1) (readings rest) again.0) =
      arguments_alike c rest (put so_far found.1) (put more again.1) found.0 again.0 (put_like so_far more found.1 again.1 h inner.like) in
      record {
        breaks = alike_on n m found.0 again.0 (arguments c (put so_far found.1) (readings rest) found.0).0 (arguments c (put more again.1) (readings rest) again.0).0 inner.breaks others.breaks;
        like = others.like;
        told = λ k none.
            let parts = both_empty inner.breaks.more others.breaks.more none in
            others.told (k.0, put_there so_far found.1 k.1 (inner.told k.0 parts.0)) parts.1;
      }

  -- ---- expressions

  abbrev expr_of : Expr-F AttributePart ExprPart → Expr
  expr_of y = roll-Expr (map-Expr AttributePart ExprPart Attribute Expr (λ p. p.0) (λ p. p.0) y)

  expr_lift : (y : Expr-F Attribute Expr) (f : Reading) → expression texts scope (roll-Expr y) ≡ f → ((c : Context) (n m : Notes) → Alike Sound n m (f c n) (f c m)) → ExprAlike (roll-Expr y)
  expr_lift y f e h = subst (λ (g : Reading). (c : Context) (n m : Notes) → Alike Sound n m (g c n) (g c m)) (sym e) h

  call_keeps : (x : Name) (all : List ExprPart) (c : Context) (n m : Notes) → Alike Sound n m (expr_step texts scope (Expr-F.Call x (readings all)) c n) (expr_step texts scope (Expr-F.Call x (readings all)) c m)
  call_keeps x all c n m =
      let thing = lookup scope x.number in
      let start = missing x thing n in
      let begin = missing x thing m in
      let read = arguments c (Some []) (readings all) start in
      let again = arguments c (Some []) (readings all) begin in
      let f = call_at c x thing read.1 read.0 in
      let g = call_at c x thing again.1 again.0 in
      let inner : ListsAlike (Sound × Unit {0}) start begin read again = arguments_alike c all (Some []) (Some []) start begin tt in
      behind Sound (Sound × IsThere thing) n m start begin f g (missing_alike x thing n m) (λ k none. (k, not_missing x thing n m none))
      (behind (Sound × IsThere thing) (Callable thing read.1) start begin read.0 again.0 f g inner.breaks
      (λ k none. record { thing_is = k.0 x.number; there = k.1; arguments = inner.told (k.0, tt) none })
      (call_alike c x thing read.1 again.1 read.0 again.0 inner.like))

  paren_keeps : (place : Place) (p : ExprPart) (c : Context) (n m : Notes)
      → Alike Sound n m (expr_step texts scope (Expr-F.Paren place (expression texts scope p.0)) c n) (expr_step texts scope (Expr-F.Paren place (expression texts scope p.0)) c m)
  paren_keeps place p c n m =
      let a = expression texts scope p.0 c n in
      let b = expression texts scope p.0 c m in
      let inner : Alike Sound n m a b = p.1 c n m in
      behind Sound (IsThere a.1) n m a.0 b.0 (parenthesized place a.1 a.0) (parenthesized place b.1 b.0) inner.breaks inner.told (paren_alike place a.1 b.1 a.0 b.0 inner.like)

  unary_keeps : (op : UnaryOperator) (place : Place) (p : ExprPart) (c : Context) (n m : Notes)
      → Alike Sound n m (unary_at op place (expression texts scope p.0 c n).1 (expression texts scope p.0 c n).0) (unary_at op place (expression texts scope p.0 c m).1 (expression texts scope p.0 c m).0)
  unary_keeps op place p c n m =
      let a = expression texts scope p.0 c n in
      let b = expression texts scope p.0 c m in
      let inner : Alike Sound n m a b = p.1 c n m in
      behind Sound (IsThere a.1) n m a.0 b.0 (unary_at op place a.1 a.0) (unary_at op place b.1 b.0) inner.breaks inner.told (unary_alike op place a.1 b.1 a.0 b.0 inner.like)

  binary_keeps : (op : BinaryOperator) (p q : ExprPart) (c : Context) (n m : Notes)
      → Alike Sound n m
      (binary_at op (expression texts scope p.0 c n).1 (expression texts scope q.0 c (expression texts scope p.0 c n).0).1 (expression texts scope q.0 c (expression texts scope p.0 c n).0).0)
      (binary_at op (expression texts scope p.0 c m).1 (expression texts scope q.0 c (expression texts scope p.0 c m).0).1 (expression texts scope q.0 c (expression texts scope p.0 c m).0).0)
  binary_keeps op p q c n m =
      let a = expression texts scope p.0 c n in
      let b = expression texts scope q.0 c a.0 in
      let u = expression texts scope p.0 c m in
      let v = expression texts scope q.0 c u.0 in
      let first : Alike Sound n m a u = p.1 c n m in
      let second : Alike Sound a.0 u.0 b v = q.1 c a.0 u.0 in
      let f = binary_at op a.1 b.1 b.0 in
      let g = binary_at op u.1 v.1 v.0 in
      behind Sound (Sound × IsThere a.1) n m a.0 u.0 f g first.breaks (λ k none. (k, first.told k none))
      (behind (Sound × IsThere a.1) (IsThere a.1 × IsThere b.1) a.0 u.0 b.0 v.0 f g second.breaks (λ k none. (k.1, second.told k.0 none))
      (binary_alike op a.1 b.1 u.1 v.1 b.0 v.0 first.like second.like))

  expr_steps : (y : Expr-F AttributePart ExprPart) → ExprAlike (expr_of y)
  expr_steps (Expr-F.Number x unit) =
      expr_lift (Expr-F.Number x unit) (expr_step texts scope (Expr-F.Number x unit))
      (fold-roll-Expr (Name → Reading) Reading (attribute_step scope) (expr_step texts scope) (Expr-F.Number x unit))
      (λ c n m. number_alike Sound texts (lookup scope) x.place x.value unit n m)
  expr_steps (Expr-F.Literal x) =
      expr_lift (Expr-F.Literal x) (expr_step texts scope (Expr-F.Literal x))
      (fold-roll-Expr (Name → Reading) Reading (attribute_step scope) (expr_step texts scope) (Expr-F.Literal x))
      (λ c n m. literal_alike Sound texts x.place x.value n m)
  expr_steps (Expr-F.Name x) =
      expr_lift (Expr-F.Name x) (expr_step texts scope (Expr-F.Name x))
      (fold-roll-Expr (Name → Reading) Reading (attribute_step scope) (expr_step texts scope) (Expr-F.Name x))
      (λ c n m. weaker Sound _ n m _ _ (λ k. k x.number) (named_alike c x (lookup scope x.number) n m))
  expr_steps (Expr-F.Call x all) =
      expr_lift (Expr-F.Call x (map (λ (p : ExprPart). p.0) all)) (expr_step texts scope (Expr-F.Call x (readings all)))
      (fold-roll-Expr (Name → Reading) Reading (attribute_step scope) (expr_step texts scope) (Expr-F.Call x (map (λ (p : ExprPart). p.0) all)))
      (call_keeps x all)
  expr_steps (Expr-F.Attribute x a) =
      expr_lift (Expr-F.Attribute x a.0) (expr_step texts scope (Expr-F.Attribute x (attribute texts scope a.0)))
      (fold-roll-Expr (Name → Reading) Reading (attribute_step scope) (expr_step texts scope) (Expr-F.Attribute x a.0))
      (λ c n m. a.1 x c n m)
  expr_steps (Expr-F.Paren place p) =
      expr_lift (Expr-F.Paren place p.0) (expr_step texts scope (Expr-F.Paren place (expression texts scope p.0)))
      (fold-roll-Expr (Name → Reading) Reading (attribute_step scope) (expr_step texts scope) (Expr-F.Paren place p.0))
      (paren_keeps place p)
  expr_steps (Expr-F.Unary op place p) =
      expr_lift (Expr-F.Unary op place p.0) (expr_step texts scope (Expr-F.Unary op place (expression texts scope p.0)))
      (fold-roll-Expr (Name → Reading) Reading (attribute_step scope) (expr_step texts scope) (Expr-F.Unary op place p.0))
      (unary_keeps (prefix op) place p)
  expr_steps (Expr-F.Binary op p q) =
      expr_lift (Expr-F.Binary op p.0 q.0) (expr_step texts scope (Expr-F.Binary op (expression texts scope p.0) (expression texts scope q.0)))
      (fold-roll-Expr (Name → Reading) Reading (attribute_step scope) (expr_step texts scope) (Expr-F.Binary op p.0 q.0))
      (binary_keeps (infix_of op) p q)

  pub expression_alike : (x : Expr) → ExprAlike x
  expression_alike =
      ind-Expr AttributeAlike ExprAlike
      (λ x y is. subst (λ (z : Attribute-F Attribute Expr). AttributeAlike (roll-Attribute z)) is (attribute_steps y))
      (λ x y is. subst (λ (z : Expr-F Attribute Expr). ExprAlike (roll-Expr z)) is (expr_steps y))

  -- a value that is asked before the run
  pub static_alike : (x : Expr) (c : Context) (n m : Notes) → AskedAlike Sound n m (static texts scope x c n) (static texts scope x c m)
  static_alike x c n m =
      let found = expression texts scope x (static_in c) n in
      let again = expression texts scope x (static_in c) m in
      let inner : Alike Sound n m found again = expression_alike x (static_in c) n m in
      let value : AskedAlike (IsThere found.1) found.0 again.0 (asked found.1 found.0) (asked again.1 again.0) = asked_alike found.1 again.1 found.0 again.0 inner.like in
      record {
        breaks = alike_on n m found.0 again.0 (asked found.1 found.0).0 (asked again.1 again.0).0 inner.breaks value.breaks;
        same = value.same;
        told = λ k none. let parts = both_empty inner.breaks.more value.breaks.more none in value.told (inner.told k parts.0) parts.1;
      }

pub readings_keep : ReadingsKeep
readings_keep = record {
  alike = λ texts scope x c n m. (expression_alike texts scope x c n m).breaks;
  kept = λ texts scope x c n k h.
      let both = expression_alike texts scope x c n n in
      both.told k (none_more n.faults both.breaks.more (expression texts scope x c n).0.faults both.breaks.first h);
}
