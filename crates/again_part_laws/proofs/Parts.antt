-- Parts of statements, read twice.
use Rattle.std.proofs.Common.{◌≡◌, ℕ, List, [], ◌∷◌, map, Option, Some, None, refl, sym, ap, subst}
use Rattle.std.specs.Prelude.{nat_eq}
use Rattle.std.specs.List.{list_any}
use Rattle.ams_tree.specs.declared.expression.Attribute.{Attribute, out-Attribute}
use Rattle.ams_tree.specs.declared.expression.Attribute.TheOpen.{Expr-F, Attribute-F}
use Rattle.ams_tree.specs.declared.expression.Expr.{Expr, out-Expr}
use Rattle.ams_tree.specs.declared.expression.Name.{Name}
use Rattle.ams_tree.specs.declared.sequential.Assertion.{Assertion}
use Rattle.ams_tree.specs.declared.sequential.BreakElement.{BreakElement}
use Rattle.ams_tree.specs.declared.sequential.DelayMechanism.{DelayMechanism}
use Rattle.ams_tree.specs.declared.sequential.DelayMechanism.TheVariants as delay
use Rattle.ams_tree.specs.declared.sequential.WaveformElement.{WaveformElement}
use Rattle.ams_value.specs.declared.value_type.ValueType.TheVariants as t
use Rattle.flat_expr.specs.declared.expr.FlatExpr.{FlatExpr}
use Rattle.flat_expr.specs.declared.expr.SignalName.{SignalName}
use Rattle.flat_expr.specs.declared.statement.BreakElement.{BreakElement as Broken}
use Rattle.flat_expr.specs.declared.statement.DelayMechanism.{DelayMechanism as Mechanism}
use Rattle.flat_expr.specs.declared.statement.Severity.{Severity}
use Rattle.flat_expr.specs.declared.statement.Severity.TheVariants as severity
use Rattle.flat_expr.specs.declared.statement.WaveElement.{WaveElement}
use Rattle.flat_design.specs.declared.objects.Threshold.{Threshold}
use Rattle.name_scope.specs.declared.thing.Kind.{Kind}
use Rattle.name_scope.specs.declared.thing.Kind.TheVariants.{Of}
use Rattle.name_scope.specs.declared.thing.Subtype.{Subtype}
use Rattle.name_scope.specs.declared.thing.Thing.{Thing}
use Rattle.name_scope.specs.declared.thing.Thing.TheVariants as thing
use Rattle.name_scope.specs.declared.scope.Scope.{Scope}
use Rattle.name_scope.specs.Scopes.{lookup}
use Rattle.elab_meaning.specs.declared.fault.Cause.TheVariants.{Unknown}
use Rattle.elab_meaning.specs.declared.fault.Notes.{Notes}
use Rattle.elab_meaning.specs.declared.part.Part.{Part}
use Rattle.elab_meaning.specs.declared.part.Part.TheVariants.{Kept, Wrong, Hidden}
use Rattle.elab_meaning.specs.declared.typed.Asked.{Asked}
use Rattle.elab_meaning.specs.declared.typed.Context.{Context}
use Rattle.elab_meaning.specs.declared.typed.Typed.{Typed}
use Rattle.elab_meaning.specs.Kinds.{same_kind}
use Rattle.elab_meaning.specs.Parts.{part_of, judged, both, found_thing}
use Rattle.elab_meaning.specs.Subtypes.{suits}
use Rattle.elab_meaning.specs.Expressions.{expression, arguments, put, static}
use Rattle.unit_meaning.specs.Settings.{Setting, running, typed, value_of, of_kind, must_be, given, may_be, condition, listed, paired}
use Rattle.unit_meaning.specs.Bare.{always_wrong, wrong_both, static_part, inside_attribute, wrong_name, signal_of, level_at, threshold_at, watched_attribute, watched_name, watched_signal, once_kept, sensitivity, named_quantity, quantity_at, selector_at, selecting, setting, break_element, break_elements}
use Rattle.unit_meaning.specs.Waveforms.{target_of, target, rejecting, mechanism, suited, wave_element, element, waveform}
use Rattle.unit_meaning.specs.Sequential.{severity_or, assertion_parts}
use Rattle.again_laws.specs.Again.{BreaksAlike}
use Rattle.again_laws.proofs.Breaks.{breaks_same, breaks_noted, breaks_on, breaks_watched}
use Rattle.again_laws.proofs.Steps.{as_read, LikeTyped, Like}
use Rattle.again_laws.proofs.Reading.{expression_like, static_like}
use Rattle.again_part_laws.proofs.Like.{PartLike, Any, Same, Formed, like_self, like_equal, equal_like, judged_like, both_like, formed_where, ReadsAs, listed_as}

-- ---- names

pub breaks_found : (x : Name) (o : Option Thing) (n m : Notes) → BreaksAlike n m (found_thing x o n).0 (found_thing x o m).0
breaks_found x None n m = breaks_noted x.place (Unknown x.number) n m
breaks_found x (Some thing.Faulty) n m = breaks_same n m
breaks_found x (Some t) n m = breaks_same n m

pub same_thing : (x : Name) (o : Option Thing) (n m : Notes) → (found_thing x o n).1 ≡ (found_thing x o m).1
same_thing x None n m = refl
same_thing x (Some thing.Faulty) n m = refl
same_thing x (Some t) n m = refl

-- what is judged of it
pub thing_as : (C : Type 0) (f : Thing → Part C) (x : Name) (o : Option Thing) (n m : Notes)
    → ReadsAs C (Same C) n m ((found_thing x o n).0, judged f (found_thing x o n).1) ((found_thing x o m).0, judged f (found_thing x o m).1)
thing_as C f x o n m =
    record { breaks = breaks_found x o n m; like = like_equal C (Same C) (λ a. refl) _ _ (ap (λ (p : Part Thing). judged f p) (same_thing x o n m)) }

any_same : (A : Type 0) (p q : Part A) → PartLike A (Same A) p q → Formed A p q
any_same A p q h = like_equal A (Any A) (λ a. tt) p q (equal_like A p q h)

pub as_any : (A : Type 0) (n m : Notes) (f g : Notes × Part A) → ReadsAs A (Same A) n m f g → ReadsAs A (Any A) n m f g
as_any A n m f g h = record { breaks = h.breaks; like = any_same A f.1 g.1 h.like }

-- ---- expressions

part_like : (o p : Option Typed) → Like o p → PartLike Typed LikeTyped (part_of o) (part_of p)
part_like (Some a) (Some b) h = h
part_like None None h = tt
part_like (Some a) None h = absurd h
part_like None (Some b) h = absurd h

-- a rule of typed expressions that doesn't ask for the expression itself
pub of_typed : (C : Type 0) (f : Typed → Part C) → ((a : Typed) (e : FlatExpr) → Formed C (f a) (f (as_read e a))) → (a b : Typed) → LikeTyped a b → Formed C (f a) (f b)
of_typed C f each a b h = subst (λ (z : Typed). Formed C (f a) (f z)) (sym h.1) (each a h.0)

module _ (w : Setting) (scope : Scope) where
  pub typed_as : (c : Context) (x : Expr) (n m : Notes) → ReadsAs Typed LikeTyped n m (typed w scope c x n) (typed w scope c x m)
  typed_as c x n m =
      let read = expression_like w.texts scope x c n m in
      record { breaks = read.notes; like = part_like (expression w.texts scope x c n).1 (expression w.texts scope x c m).1 read.like }

  pub must_as : (c : Context) (k : Kind) (x : Expr) (n m : Notes) → ReadsAs FlatExpr (Any FlatExpr) n m (must_be w scope c k x n) (must_be w scope c k x m)
  must_as c k x n m =
      let read : ReadsAs Typed LikeTyped n m (typed w scope c x n) (typed w scope c x m) = typed_as c x n m in
      record {
        breaks = read.breaks;
        like =
            judged_like Typed FlatExpr LikeTyped (Any FlatExpr) (of_kind k) (of_kind k)
            (of_typed FlatExpr (of_kind k) (λ a e. formed_where FlatExpr (same_kind a.kind k) a.expr e)) (typed w scope c x n).1 (typed w scope c x m).1 read.like;
      }

  pub may_as : (c : Context) (k : Kind) (x : Option Expr) (n m : Notes) → ReadsAs (Option FlatExpr) (Any (Option FlatExpr)) n m (may_be w scope c k x n) (may_be w scope c k x m)
  may_as c k None n m = record { breaks = breaks_same n m; like = tt }
  may_as c k (Some x) n m =
      let read : ReadsAs FlatExpr (Any FlatExpr) n m (must_be w scope c k x n) (must_be w scope c k x m) = must_as c k x n m in
      record {
        breaks = read.breaks;
        like =
            judged_like FlatExpr (Option FlatExpr) (Any FlatExpr) (Any (Option FlatExpr)) given given (λ a b h. tt) (must_be w scope c k x n).1 (must_be w scope c k x m).1 read.like;
      }

  pub condition_as : (x : Option Expr) (n m : Notes) → ReadsAs (Option FlatExpr) (Any (Option FlatExpr)) n m (condition w scope x n) (condition w scope x m)
  condition_as x n m = may_as running (Of t.Boolean) x n m

  pub asked_as : (x : Expr) (c : Context) (n m : Notes)
      → ReadsAs Asked (Same Asked) n m ((static w.texts scope x c n).0, part_of (static w.texts scope x c n).1) ((static w.texts scope x c m).0, part_of (static w.texts scope x c m).1)
  asked_as x c n m =
      let read = static_like w.texts scope x c n m in
      record { breaks = read.notes; like = like_equal Asked (Same Asked) (λ a. refl) _ _ (ap (λ (o : Option Asked). part_of o) read.asked_is) }

  static_as : (x : Expr) (n m : Notes) → ReadsAs Asked (Same Asked) n m (static_part w scope x n) (static_part w scope x m)
  static_as x n m = asked_as x running n m

  -- ---- names that are wrong

  -- both there, or both not
  abbrev Alike : Option (List Typed) → Option (List Typed) → Type 0
  Alike (Some a) (Some b) = Unit {0}
  Alike None None = Unit {0}
  Alike _ _ = ⊥

  put_alike : (all more : Option (List Typed)) (a b : Option Typed) → Alike all more → Like a b → Alike (put all a) (put more b)
  put_alike (Some all) (Some more) (Some a) (Some b) h k = tt
  put_alike (Some all) (Some more) None None h k = tt
  put_alike None None (Some a) (Some b) h k = tt
  put_alike None None None None h k = tt
  put_alike (Some all) None a b h k = absurd h
  put_alike None (Some more) a b h k = absurd h
  put_alike (Some all) (Some more) (Some a) None h k = absurd k
  put_alike (Some all) (Some more) None (Some b) h k = absurd k
  put_alike None None (Some a) None h k = absurd k
  put_alike None None None (Some b) h k = absurd k

  record ListsAlike (n m : Notes) (f g : Notes × Option (List Typed)) : Type 0 where
    breaks : BreaksAlike n m f.0 g.0
    like : Alike f.1 g.1

  arguments_alike : (c : Context) (all : List Expr) (so_far more : Option (List Typed)) (n m : Notes) → Alike so_far more
      → ListsAlike n m (arguments c so_far (map (expression w.texts scope) all) n) (arguments c more (map (expression w.texts scope) all) m)
  arguments_alike c [] so_far more n m h = record { breaks = breaks_same n m; like = h }
  arguments_alike c (x ∷ rest) so_far more n m h =
      let found = expression w.texts scope x c n in
      let again = expression w.texts scope x c m in
      let one = expression_like w.texts scope x c n m in
      let others : ListsAlike found.0 again.0 (arguments c (put so_far found.1) (map (expression w.texts scope) rest) found.0) (arguments c (put more again.1) (map (expression w.texts scope) rest) again.0) =
      arguments_alike c rest (put so_far found.1) (put more again.1) found.0 again.0 (put_alike so_far more found.1 again.1 h one.like) in
      record {
        breaks = breaks_on n m found.0 again.0 (arguments c (put so_far found.1) (map (expression w.texts scope) rest) found.0).0 (arguments c (put more again.1) (map (expression w.texts scope) rest) again.0).0 one.notes others.breaks;
        like = others.like;
      }

  list_part : (o p : Option (List Typed)) → Alike o p → Formed (List Typed) (part_of o) (part_of p)
  list_part (Some a) (Some b) h = tt
  list_part None None h = tt
  list_part (Some a) None h = absurd h
  list_part None (Some b) h = absurd h

  inside_as : (a : Attribute-F Attribute Expr) (n m : Notes) → ReadsAs (List Asked) (Any (List Asked)) n m (inside_attribute w scope a n) (inside_attribute w scope a m)
  inside_as (Attribute-F.Above x) n m = listed_as Asked Expr (Same Asked) (static_part w scope) (static_part w scope) static_as (x ∷ []) n m
  inside_as (Attribute-F.Ramp None None) n m = listed_as Asked Expr (Same Asked) (static_part w scope) (static_part w scope) static_as [] n m
  inside_as (Attribute-F.Ramp None (Some b)) n m = listed_as Asked Expr (Same Asked) (static_part w scope) (static_part w scope) static_as (b ∷ []) n m
  inside_as (Attribute-F.Ramp (Some a) None) n m = listed_as Asked Expr (Same Asked) (static_part w scope) (static_part w scope) static_as (a ∷ []) n m
  inside_as (Attribute-F.Ramp (Some a) (Some b)) n m = listed_as Asked Expr (Same Asked) (static_part w scope) (static_part w scope) static_as (a ∷ b ∷ []) n m
  inside_as Attribute-F.Event n m = record { breaks = breaks_same n m; like = tt }
  inside_as Attribute-F.Dot n m = record { breaks = breaks_same n m; like = tt }
  inside_as Attribute-F.Reference n m = record { breaks = breaks_same n m; like = tt }

  thing_formed : (x : Name) (n m : Notes) → Formed Thing (found_thing x (lookup scope x.number) n).1 (found_thing x (lookup scope x.number) m).1
  thing_formed x n m = like_equal Thing (Any Thing) (λ a. tt) _ _ (same_thing x (lookup scope x.number) n m)

  module _ (A : Type 0) (R : A → A → Type 0) where
    behind_name : (x : Name) (a : Attribute-F Attribute Expr) (n m : Notes)
        → ReadsAs A R n m
        ((inside_attribute w scope a (found_thing x (lookup scope x.number) n).0).0, both wrong_both (found_thing x (lookup scope x.number) n).1 (inside_attribute w scope a (found_thing x (lookup scope x.number) n).0).1)
        ((inside_attribute w scope a (found_thing x (lookup scope x.number) m).0).0, both wrong_both (found_thing x (lookup scope x.number) m).1 (inside_attribute w scope a (found_thing x (lookup scope x.number) m).0).1)
    behind_name x a n m =
        let f = found_thing x (lookup scope x.number) n in
        let g = found_thing x (lookup scope x.number) m in
        let inner : ReadsAs (List Asked) (Any (List Asked)) f.0 g.0 (inside_attribute w scope a f.0) (inside_attribute w scope a g.0) = inside_as a f.0 g.0 in
        record {
          breaks = breaks_on n m f.0 g.0 (inside_attribute w scope a f.0).0 (inside_attribute w scope a g.0).0 (breaks_found x (lookup scope x.number) n m) inner.breaks;
          like =
              both_like Thing (List Asked) A (Any Thing) (Any (List Asked)) R wrong_both wrong_both (λ a c b d h k. tt) f.1 g.1 (inside_attribute w scope a f.0).1 (inside_attribute w scope a g.0).1
              (thing_formed x n m) inner.like;
        }

    pub wrong_as : (e : Expr-F Attribute Expr) (n m : Notes) → ReadsAs A R n m (wrong_name w scope e n) (wrong_name w scope e m)
    wrong_as (Expr-F.Name x) n m =
        record {
          breaks = breaks_found x (lookup scope x.number) n m;
          like = judged_like Thing A (Any Thing) R always_wrong always_wrong (λ a b h. tt) (found_thing x (lookup scope x.number) n).1 (found_thing x (lookup scope x.number) m).1 (thing_formed x n m);
        }
    wrong_as (Expr-F.Call x all) n m =
        let f = found_thing x (lookup scope x.number) n in
        let g = found_thing x (lookup scope x.number) m in
        let u = arguments running (Some []) (map (expression w.texts scope) all) f.0 in
        let v = arguments running (Some []) (map (expression w.texts scope) all) g.0 in
        let inner : ListsAlike f.0 g.0 u v = arguments_alike running all (Some []) (Some []) f.0 g.0 tt in
        record {
          breaks = breaks_on n m f.0 g.0 u.0 v.0 (breaks_found x (lookup scope x.number) n m) inner.breaks;
          like =
              both_like Thing (List Typed) A (Any Thing) (Any (List Typed)) R wrong_both wrong_both (λ a c b d h k. tt) f.1 g.1 (part_of u.1) (part_of v.1) (thing_formed x n m) (list_part u.1 v.1 inner.like);
        }
    wrong_as (Expr-F.Attribute x a) n m = behind_name x (out-Attribute a) n m
    wrong_as (Expr-F.Number x unit) n m = record { breaks = breaks_same n m; like = tt }
    wrong_as (Expr-F.Literal x) n m = record { breaks = breaks_same n m; like = tt }
    wrong_as (Expr-F.Paren place x) n m = record { breaks = breaks_same n m; like = tt }
    wrong_as (Expr-F.Unary op place x) n m = record { breaks = breaks_same n m; like = tt }
    wrong_as (Expr-F.Binary op x y) n m = record { breaks = breaks_same n m; like = tt }

  -- ---- signals that are waited for

  threshold_as : (p : Part Threshold) (n m : Notes) → ReadsAs SignalName (Any SignalName) n m (threshold_at p n) (threshold_at p m)
  threshold_as (Kept h) n m = record { breaks = breaks_watched h n m; like = tt }
  threshold_as Wrong n m = record { breaks = breaks_same n m; like = tt }
  threshold_as Hidden n m = record { breaks = breaks_same n m; like = tt }

  above_as : (x : Name) (a : Attribute) (level : Expr) (n m : Notes)
      → ReadsAs SignalName (Any SignalName) n m (watched_attribute w scope x a (Attribute-F.Above level) n) (watched_attribute w scope x a (Attribute-F.Above level) m)
  above_as x a level n m =
      let f = found_thing x (lookup scope x.number) n in
      let g = found_thing x (lookup scope x.number) m in
      let u = static_part w scope level f.0 in
      let v = static_part w scope level g.0 in
      let read : ReadsAs Asked (Same Asked) f.0 g.0 u v = static_as level f.0 g.0 in
      let p = both level_at f.1 u.1 in
      let q = both level_at g.1 v.1 in
      let same : p ≡ q = same_both f.1 g.1 u.1 v.1 (same_thing x (lookup scope x.number) n m) (equal_like Asked u.1 v.1 read.like) in
      let last : ReadsAs SignalName (Any SignalName) u.0 v.0 (threshold_at p u.0) (threshold_at q v.0) =
      subst (λ (z : Part Threshold). ReadsAs SignalName (Any SignalName) u.0 v.0 (threshold_at p u.0) (threshold_at z v.0)) same (threshold_as p u.0 v.0) in
      record {
        breaks =
            breaks_on n m f.0 g.0 (threshold_at p u.0).0 (threshold_at q v.0).0 (breaks_found x (lookup scope x.number) n m)
            (breaks_on f.0 g.0 u.0 v.0 (threshold_at p u.0).0 (threshold_at q v.0).0 read.breaks last.breaks);
        like = last.like;
      }
    where
      same_both : (a b : Part Thing) (c d : Part Asked) → a ≡ b → c ≡ d → both level_at a c ≡ both level_at b d
      same_both a b c d h g = subst (λ (z : Part Thing). both level_at a c ≡ both level_at z d) h (subst (λ (z : Part Asked). both level_at a c ≡ both level_at a z) g refl)

  attribute_as : (x : Name) (a : Attribute) (y : Attribute-F Attribute Expr) (n m : Notes) → ReadsAs SignalName (Any SignalName) n m (watched_attribute w scope x a y n) (watched_attribute w scope x a y m)
  attribute_as x a (Attribute-F.Above level) n m = above_as x a level n m
  attribute_as x a (Attribute-F.Ramp rise fall) n m = behind_name SignalName (Any SignalName) x (out-Attribute a) n m
  attribute_as x a Attribute-F.Event n m = behind_name SignalName (Any SignalName) x (out-Attribute a) n m
  attribute_as x a Attribute-F.Dot n m = behind_name SignalName (Any SignalName) x (out-Attribute a) n m
  attribute_as x a Attribute-F.Reference n m = behind_name SignalName (Any SignalName) x (out-Attribute a) n m

  watched_as : (x : Expr) (e : Expr-F Attribute Expr) (n m : Notes) → ReadsAs SignalName (Any SignalName) n m (watched_name w scope x e n) (watched_name w scope x e m)
  watched_as x (Expr-F.Name y) n m = as_any SignalName n m _ _ (thing_as SignalName signal_of y (lookup scope y.number) n m)
  watched_as x (Expr-F.Attribute y a) n m = attribute_as y a (out-Attribute a) n m
  watched_as x (Expr-F.Number y unit) n m = wrong_as SignalName (Any SignalName) (out-Expr x) n m
  watched_as x (Expr-F.Literal y) n m = wrong_as SignalName (Any SignalName) (out-Expr x) n m
  watched_as x (Expr-F.Call y all) n m = wrong_as SignalName (Any SignalName) (out-Expr x) n m
  watched_as x (Expr-F.Paren place y) n m = wrong_as SignalName (Any SignalName) (out-Expr x) n m
  watched_as x (Expr-F.Unary op place y) n m = wrong_as SignalName (Any SignalName) (out-Expr x) n m
  watched_as x (Expr-F.Binary op y z) n m = wrong_as SignalName (Any SignalName) (out-Expr x) n m

  pub sensitivity_as : (names : List Expr) (n m : Notes) → ReadsAs (List SignalName) (Any (List SignalName)) n m (sensitivity w scope names n) (sensitivity w scope names m)
  sensitivity_as names n m =
      let all : ReadsAs (List SignalName) (Any (List SignalName)) n m (listed (watched_signal w scope) names n) (listed (watched_signal w scope) names m) =
      listed_as SignalName Expr (Any SignalName) (watched_signal w scope) (watched_signal w scope) (λ x n m. watched_as x (out-Expr x) n m) names n m in
      record {
        breaks = all.breaks;
        like =
            judged_like (List SignalName) (List SignalName) (Any (List SignalName)) (Any (List SignalName)) once_kept once_kept (λ a b h. tt)
            (listed (watched_signal w scope) names n).1 (listed (watched_signal w scope) names m).1 all.like;
      }

  -- ---- break elements

  quantity_as : (e : Expr-F Attribute Expr) (n m : Notes) → ReadsAs (ℕ × ℕ) (Same (ℕ × ℕ)) n m (quantity_at w scope e n) (quantity_at w scope e m)
  quantity_as (Expr-F.Name x) n m = thing_as (ℕ × ℕ) (named_quantity x.number) x (lookup scope x.number) n m
  quantity_as (Expr-F.Number y unit) n m = wrong_as (ℕ × ℕ) (Same (ℕ × ℕ)) (Expr-F.Number y unit) n m
  quantity_as (Expr-F.Literal y) n m = wrong_as (ℕ × ℕ) (Same (ℕ × ℕ)) (Expr-F.Literal y) n m
  quantity_as (Expr-F.Call y all) n m = wrong_as (ℕ × ℕ) (Same (ℕ × ℕ)) (Expr-F.Call y all) n m
  quantity_as (Expr-F.Attribute y a) n m = wrong_as (ℕ × ℕ) (Same (ℕ × ℕ)) (Expr-F.Attribute y a) n m
  quantity_as (Expr-F.Paren place y) n m = wrong_as (ℕ × ℕ) (Same (ℕ × ℕ)) (Expr-F.Paren place y) n m
  quantity_as (Expr-F.Unary op place y) n m = wrong_as (ℕ × ℕ) (Same (ℕ × ℕ)) (Expr-F.Unary op place y) n m
  quantity_as (Expr-F.Binary op y z) n m = wrong_as (ℕ × ℕ) (Same (ℕ × ℕ)) (Expr-F.Binary op y z) n m

  selector_as : (x : Option Expr) (p q : Part (ℕ × ℕ)) (n m : Notes) → PartLike (ℕ × ℕ) (Same (ℕ × ℕ)) p q → ReadsAs (ℕ × ℕ) (Same (ℕ × ℕ)) n m (selector_at w scope x p n) (selector_at w scope x q m)
  selector_as None p q n m h = record { breaks = breaks_same n m; like = h }
  selector_as (Some x) p q n m h = quantity_as (out-Expr x) n m

  select_as : (a c : ℕ × ℕ) (b d : (ℕ × ℕ) × FlatExpr) → a ≡ c → Formed Broken (selecting w a b) (selecting w c d)
  select_as a c b d h = subst (λ (z : ℕ × ℕ). Formed Broken (selecting w a b) (selecting w z d)) h (formed_where Broken (list_any (nat_eq a.1) w.selectors) _ _)

  broken_as : (x : BreakElement) (n m : Notes) → ReadsAs Broken (Any Broken) n m (break_element w scope x n) (break_element w scope x m)
  broken_as x n m =
      let q = quantity_at w scope (out-Expr x.quantity) n in
      let r = quantity_at w scope (out-Expr x.quantity) m in
      let p = selector_at w scope x.selector q.1 q.0 in
      let o = selector_at w scope x.selector r.1 r.0 in
      let u = must_be w scope running (Of t.Real) x.value p.0 in
      let v = must_be w scope running (Of t.Real) x.value o.0 in
      let first : ReadsAs (ℕ × ℕ) (Same (ℕ × ℕ)) n m q r = quantity_as (out-Expr x.quantity) n m in
      let second : ReadsAs (ℕ × ℕ) (Same (ℕ × ℕ)) q.0 r.0 p o = selector_as x.selector q.1 r.1 q.0 r.0 first.like in
      let third : ReadsAs FlatExpr (Any FlatExpr) p.0 o.0 u v = must_as running (Of t.Real) x.value p.0 o.0 in
      record {
        breaks = breaks_on n m q.0 r.0 u.0 v.0 first.breaks (breaks_on q.0 r.0 p.0 o.0 u.0 v.0 second.breaks third.breaks);
        like =
            both_like (ℕ × ℕ) ((ℕ × ℕ) × FlatExpr) Broken (Same (ℕ × ℕ)) (Any ((ℕ × ℕ) × FlatExpr)) (Any Broken) (selecting w) (selecting w) (λ a c b d h k. select_as a c b d h)
            p.1 o.1 (both setting q.1 u.1) (both setting r.1 v.1) second.like
            (both_like (ℕ × ℕ) FlatExpr ((ℕ × ℕ) × FlatExpr) (Same (ℕ × ℕ)) (Any FlatExpr) (Any ((ℕ × ℕ) × FlatExpr)) setting setting (λ a c b d h k. tt) q.1 r.1 u.1 v.1 first.like third.like);
      }

  pub breaks_as : (all : List BreakElement) (n m : Notes) → ReadsAs (List Broken) (Any (List Broken)) n m (break_elements w scope all n) (break_elements w scope all m)
  breaks_as all n m = listed_as Broken BreakElement (Any Broken) (break_element w scope) (break_element w scope) broken_as all n m

  -- ---- assertions and waveforms

  pub assertion_as : (a : Assertion) (n m : Notes) → ReadsAs (FlatExpr × Severity) (Any (FlatExpr × Severity)) n m (assertion_parts w scope a n) (assertion_parts w scope a m)
  assertion_as a n m =
      let read : ReadsAs FlatExpr (Any FlatExpr) n m (must_be w scope running (Of t.Boolean) a.condition n) (must_be w scope running (Of t.Boolean) a.condition m) =
      must_as running (Of t.Boolean) a.condition n m in
      record {
        breaks = read.breaks;
        like =
            both_like FlatExpr Severity (FlatExpr × Severity) (Any FlatExpr) (Any Severity) (Any (FlatExpr × Severity)) paired paired (λ a c b d h k. tt)
            (must_be w scope running (Of t.Boolean) a.condition n).1 (must_be w scope running (Of t.Boolean) a.condition m).1 (severity_or w.texts severity.Error a.severity) (severity_or w.texts severity.Error a.severity) read.like
            (like_self Severity (Any Severity) (λ a. tt) (severity_or w.texts severity.Error a.severity));
      }

  pub target_as : (x : Name) (n m : Notes) → ReadsAs (ℕ × Subtype) (Same (ℕ × Subtype)) n m (target scope x n) (target scope x m)
  target_as x n m = thing_as (ℕ × Subtype) target_of x (lookup scope x.number) n m

  pub mechanism_as : (d : Option DelayMechanism) (n m : Notes) → ReadsAs Mechanism (Any Mechanism) n m (mechanism w scope d n) (mechanism w scope d m)
  mechanism_as (Some (delay.Transport place)) n m = record { breaks = breaks_same n m; like = tt }
  mechanism_as (Some (delay.Reject place x)) n m =
      let read : ReadsAs FlatExpr (Any FlatExpr) n m (must_be w scope running (Of t.Time) x n) (must_be w scope running (Of t.Time) x m) = must_as running (Of t.Time) x n m in
      record {
        breaks = read.breaks;
        like =
            judged_like FlatExpr Mechanism (Any FlatExpr) (Any Mechanism) rejecting rejecting (λ a b h. tt) (must_be w scope running (Of t.Time) x n).1 (must_be w scope running (Of t.Time) x m).1 read.like;
      }
  mechanism_as (Some (delay.Inertial place)) n m = record { breaks = breaks_same n m; like = tt }
  mechanism_as None n m = record { breaks = breaks_same n m; like = tt }

  suited_as : (to : Part (ℕ × Subtype)) (a b : Typed) → LikeTyped a b → Formed FlatExpr (suited to a) (suited to b)
  suited_as (Kept to) = of_typed FlatExpr (suited (Kept to)) (λ a e. formed_where FlatExpr (suits to.1 (value_of a)) a.expr e)
  suited_as Wrong = λ a b h. tt
  suited_as Hidden = λ a b h. tt

  element_as : (to : Part (ℕ × Subtype)) (x : WaveformElement) (n m : Notes) → ReadsAs WaveElement (Any WaveElement) n m (element w scope to x n) (element w scope to x m)
  element_as to x n m =
      let u = typed w scope running x.value n in
      let v = typed w scope running x.value m in
      let y = may_be w scope running (Of t.Time) x.after u.0 in
      let z = may_be w scope running (Of t.Time) x.after v.0 in
      let first : ReadsAs Typed LikeTyped n m u v = typed_as running x.value n m in
      let second : ReadsAs (Option FlatExpr) (Any (Option FlatExpr)) u.0 v.0 y z = may_as running (Of t.Time) x.after u.0 v.0 in
      record {
        breaks = breaks_on n m u.0 v.0 y.0 z.0 first.breaks second.breaks;
        like =
            both_like FlatExpr (Option FlatExpr) WaveElement (Any FlatExpr) (Any (Option FlatExpr)) (Any WaveElement) wave_element wave_element (λ a c b d h k. tt)
            (judged (suited to) u.1) (judged (suited to) v.1) y.1 z.1
            (judged_like Typed FlatExpr LikeTyped (Any FlatExpr) (suited to) (suited to) (suited_as to) u.1 v.1 first.like) second.like;
      }

  pub waveform_as : (to : Part (ℕ × Subtype)) (xs : List WaveformElement) (n m : Notes) → ReadsAs (List WaveElement) (Any (List WaveElement)) n m (waveform w scope to xs n) (waveform w scope to xs m)
  waveform_as to xs n m = listed_as WaveElement WaveformElement (Any WaveElement) (element w scope to) (element w scope to) (element_as to) xs n m
