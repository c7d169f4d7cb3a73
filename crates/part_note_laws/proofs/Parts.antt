-- Parts of statements, read twice.
use Rattle.std.proofs.Common.{◌≡◌, ℕ, List, [], ◌∷◌, map, Option, Some, None, IfSome, refl, ap, subst}
use Rattle.ams_token.specs.declared.token.Place.{Place}
use Rattle.ams_tree.specs.declared.expression.Attribute.{Attribute, out-Attribute}
use Rattle.ams_tree.specs.declared.expression.Attribute.TheOpen.{Expr-F, Attribute-F}
use Rattle.ams_tree.specs.declared.expression.Expr.{Expr, out-Expr}
use Rattle.ams_tree.specs.declared.expression.Name.{Name}
use Rattle.ams_tree.specs.declared.sequential.Assertion.{Assertion}
use Rattle.ams_tree.specs.declared.sequential.BreakElement.{BreakElement}
use Rattle.ams_tree.specs.declared.sequential.DelayMechanism.{DelayMechanism}
use Rattle.ams_tree.specs.declared.sequential.DelayMechanism.TheVariants as delay
use Rattle.ams_tree.specs.declared.sequential.WaveformElement.{WaveformElement}
use Rattle.ams_value.specs.declared.value_type.ValueType.TheVariants as t
use Rattle.flat_expr.specs.declared.expr.SignalName.{SignalName}
use Rattle.flat_design.specs.declared.objects.Objects.{Objects}
use Rattle.flat_design.specs.declared.objects.Threshold.{Threshold}
use Rattle.name_scope.specs.declared.thing.Kind.{Kind}
use Rattle.name_scope.specs.declared.thing.Kind.TheVariants.{Of}
use Rattle.name_scope.specs.declared.thing.Subtype.{Subtype}
use Rattle.name_scope.specs.declared.thing.Thing.{Thing}
use Rattle.name_scope.specs.declared.thing.Thing.TheVariants as thing
use Rattle.name_scope.specs.declared.scope.Scope.{Scope}
use Rattle.name_scope.specs.Scopes.{lookup}
use Rattle.elab_meaning.specs.declared.fault.Cause.TheVariants.{Unknown, WrongType}
use Rattle.elab_meaning.specs.declared.fault.Notes.{Notes}
use Rattle.elab_meaning.specs.declared.part.Part.{Part}
use Rattle.elab_meaning.specs.declared.part.Part.TheVariants.{Kept, Wrong, Hidden}
use Rattle.elab_meaning.specs.declared.typed.Asked.{Asked}
use Rattle.elab_meaning.specs.declared.typed.Context.{Context}
use Rattle.elab_meaning.specs.declared.typed.Typed.{Typed}
use Rattle.elab_meaning.specs.Kinds.{same_kind}
use Rattle.elab_meaning.specs.Names.{threshold}
use Rattle.elab_meaning.specs.Parts.{part_of, both, closed, found_thing}
use Rattle.elab_meaning.specs.Expressions.{expression, arguments, put, static}
use Rattle.unit_meaning.specs.Settings.{Setting, running, typed, must_be, may_be, condition, listed}
use Rattle.unit_meaning.specs.Bare.{static_part, inside_attribute, wrong_name, level_at, threshold_at, watched_attribute, watched_name, watched_signal, sensitivity, quantity_at, selector_at, break_element, break_elements}
use Rattle.unit_meaning.specs.Waveforms.{target, mechanism, element, waveform}
use Rattle.unit_meaning.specs.Sequential.{assertion_parts}
use Rattle.design_rules.specs.Design.{IsThreshold}
use Rattle.reading_laws.specs.Growing.{Grows}
use Rattle.reading_laws.proofs.Growing.{grows_same, grows_noted}
use Rattle.part_laws.specs.Parts.{OnKept}
use Rattle.part_laws.proofs.Parts.{both_kept, where_kept}
use Rattle.note_laws.specs.Noting.{IsNotable, NamesAreNotable}
use Rattle.note_laws.proofs.Notes.{SameLists, lists_same, lists_noted, Alike, alike_same, alike_quiet, alike_on, alike_watched}
use Rattle.note_laws.proofs.Reading.{AskedFits, threshold_is, expression_like, StaticLike, static_like}

module _ (objects : Objects) where
  grows_closed : (A : Type 0) (place : Place) (p : Part A) (n : Notes) → Grows n (closed place p n)
  grows_closed A place (Kept a) n = grows_same n
  grows_closed A place Wrong n = grows_noted place WrongType n
  grows_closed A place Hidden n = grows_same n

  lists_closed : (A : Type 0) (place : Place) (p : Part A) (n : Notes) → SameLists n (closed place p n)
  lists_closed A place (Kept a) n = lists_same n
  lists_closed A place Wrong n = lists_noted place WrongType n
  lists_closed A place Hidden n = lists_same n

  -- a whole whose parts were read
  pub finished_alike : (A : Type 0) (place : Place) (p q : Part A) (n m on to : Notes) → Alike objects n m on to → Alike objects n m (closed place p on) (closed place q to)
  finished_alike A place p q n m on to h =
      alike_on objects n m on to (closed place p on) (closed place q to) h
      (alike_quiet objects on to (closed place p on) (closed place q to) (grows_closed A place p on) (grows_closed A place q to) (lists_closed A place p on))

  -- a list, by two rules that read alike
  pub listed_alike : (A B : Type 0) (f g : B → Notes → Notes × Part A) → ((x : B) (n m : Notes) → Alike objects n m (f x n).0 (g x m).0)
      → (all : List B) (n m : Notes) → Alike objects n m (listed f all n).0 (listed g all m).0
  listed_alike A B f g each [] n m = alike_same objects n m
  listed_alike A B f g each (x ∷ more) n m =
      let first = f x n in
      let other = g x m in
      alike_on objects n m first.0 other.0 (listed f more first.0).0 (listed g more other.0).0 (each x n m) (listed_alike A B f g each more first.0 other.0)

  -- ---- names

  grows_found : (x : Name) (o : Option Thing) (n : Notes) → Grows n (found_thing x o n).0
  grows_found x None n = grows_noted x.place (Unknown x.number) n
  grows_found x (Some thing.Faulty) n = grows_same n
  grows_found x (Some t) n = grows_same n

  lists_found : (x : Name) (o : Option Thing) (n : Notes) → SameLists n (found_thing x o n).0
  lists_found x None n = lists_noted x.place (Unknown x.number) n
  lists_found x (Some thing.Faulty) n = lists_same n
  lists_found x (Some t) n = lists_same n

  pub found_alike : (x : Name) (o : Option Thing) (n m : Notes) → Alike objects n m (found_thing x o n).0 (found_thing x o m).0
  found_alike x o n m = alike_quiet objects n m (found_thing x o n).0 (found_thing x o m).0 (grows_found x o n) (grows_found x o m) (lists_found x o n)

  pub same_thing : (x : Name) (o : Option Thing) (n m : Notes) → (found_thing x o n).1 ≡ (found_thing x o m).1
  same_thing x None n m = refl
  same_thing x (Some thing.Faulty) n m = refl
  same_thing x (Some t) n m = refl

  thing_notable : (x : Name) (o : Option Thing) (n : Notes) → IfSome o (IsNotable objects) → OnKept (IsNotable objects) (found_thing x o n).1
  thing_notable x None n h = tt
  thing_notable x (Some thing.Faulty) n h = tt
  thing_notable x (Some t) n h = h

  -- ---- thresholds that are waited for

  threshold_alike : (p : Part Threshold) (n m : Notes) → OnKept (IsThreshold objects) p → Alike objects n m (threshold_at p n).0 (threshold_at p m).0
  threshold_alike (Kept h) n m there = alike_watched objects h n m there
  threshold_alike Wrong n m there = alike_same objects n m
  threshold_alike Hidden n m there = alike_same objects n m

  level_kept : (x : Thing) (a : Asked) → IsNotable objects x → AskedFits objects a → OnKept (IsThreshold objects) (level_at x a)
  level_kept (thing.Quantity q k) a there fits = where_kept Threshold (IsThreshold objects) (same_kind a.kind (Of t.Real)) (threshold q a) (λ is. threshold_is objects q a there fits)
  level_kept _ a there fits = tt

  asked_kept : (o : Option Asked) → IfSome o (AskedFits objects) → OnKept (AskedFits objects) (part_of o)
  asked_kept (Some a) h = h
  asked_kept None h = tt

module _ (objects : Objects) (w : Setting) (scope : Scope) (notable : NamesAreNotable objects scope) where
  pub typed_alike : (c : Context) (x : Expr) (n m : Notes) → Alike objects n m (typed w scope c x n).0 (typed w scope c x m).0
  typed_alike c x n m = (expression_like objects w.texts scope notable x c n m).notes

  pub must_alike : (c : Context) (k : Kind) (x : Expr) (n m : Notes) → Alike objects n m (must_be w scope c k x n).0 (must_be w scope c k x m).0
  must_alike c k x n m = typed_alike c x n m

  pub may_alike : (c : Context) (k : Kind) (x : Option Expr) (n m : Notes) → Alike objects n m (may_be w scope c k x n).0 (may_be w scope c k x m).0
  may_alike c k None n m = alike_same objects n m
  may_alike c k (Some x) n m = typed_alike c x n m

  pub condition_alike : (x : Option Expr) (n m : Notes) → Alike objects n m (condition w scope x n).0 (condition w scope x m).0
  condition_alike x n m = may_alike running (Of t.Boolean) x n m

  static_alike : (x : Expr) (n m : Notes) → Alike objects n m (static_part w scope x n).0 (static_part w scope x m).0
  static_alike x n m = (static_like objects w.texts scope notable x running n m).notes

  arguments_alike : (c : Context) (all : List Expr) (so_far more : Option (List Typed)) (n m : Notes)
      → Alike objects n m (arguments c so_far (map (expression w.texts scope) all) n).0 (arguments c more (map (expression w.texts scope) all) m).0
  arguments_alike c [] so_far more n m = alike_same objects n m
  arguments_alike c (x ∷ rest) so_far more n m =
      let found = expression w.texts scope x c n in
      let again = expression w.texts scope x c m in
      alike_on objects n m found.0 again.0 (arguments c (put so_far found.1) (map (expression w.texts scope) rest) found.0).0 (arguments c (put more again.1) (map (expression w.texts scope) rest) again.0).0
      (typed_alike c x n m) (arguments_alike c rest (put so_far found.1) (put more again.1) found.0 again.0)

  inside_alike : (a : Attribute-F Attribute Expr) (n m : Notes) → Alike objects n m (inside_attribute w scope a n).0 (inside_attribute w scope a m).0
  inside_alike (Attribute-F.Above x) n m = listed_alike objects Asked Expr (static_part w scope) (static_part w scope) static_alike (x ∷ []) n m
  inside_alike (Attribute-F.Ramp None None) n m = listed_alike objects Asked Expr (static_part w scope) (static_part w scope) static_alike ([]) n m
  inside_alike (Attribute-F.Ramp None (Some b)) n m = listed_alike objects Asked Expr (static_part w scope) (static_part w scope) static_alike (b ∷ []) n m
  inside_alike (Attribute-F.Ramp (Some a) None) n m = listed_alike objects Asked Expr (static_part w scope) (static_part w scope) static_alike (a ∷ []) n m
  inside_alike (Attribute-F.Ramp (Some a) (Some b)) n m = listed_alike objects Asked Expr (static_part w scope) (static_part w scope) static_alike (a ∷ b ∷ []) n m
  inside_alike Attribute-F.Event n m = alike_same objects n m
  inside_alike Attribute-F.Dot n m = alike_same objects n m
  inside_alike Attribute-F.Reference n m = alike_same objects n m

  behind_name : (x : Name) (a : Attribute-F Attribute Expr) (n m : Notes)
      → Alike objects n m (inside_attribute w scope a (found_thing x (lookup scope x.number) n).0).0 (inside_attribute w scope a (found_thing x (lookup scope x.number) m).0).0
  behind_name x a n m =
      let f = found_thing x (lookup scope x.number) n in
      let g = found_thing x (lookup scope x.number) m in
      alike_on objects n m f.0 g.0 (inside_attribute w scope a f.0).0 (inside_attribute w scope a g.0).0 (found_alike objects x (lookup scope x.number) n m) (inside_alike a f.0 g.0)

  wrong_alike : (A : Type 0) (e : Expr-F Attribute Expr) (n m : Notes) → Alike objects n m (wrong_name {A = A} w scope e n).0 (wrong_name {A = A} w scope e m).0
  wrong_alike A (Expr-F.Name x) n m = found_alike objects x (lookup scope x.number) n m
  wrong_alike A (Expr-F.Call x all) n m =
      let f = found_thing x (lookup scope x.number) n in
      let g = found_thing x (lookup scope x.number) m in
      alike_on objects n m f.0 g.0 (arguments running (Some []) (map (expression w.texts scope) all) f.0).0 (arguments running (Some []) (map (expression w.texts scope) all) g.0).0
      (found_alike objects x (lookup scope x.number) n m) (arguments_alike running all (Some []) (Some []) f.0 g.0)
  wrong_alike A (Expr-F.Attribute x a) n m = behind_name x (out-Attribute a) n m
  wrong_alike A (Expr-F.Number x unit) n m = alike_same objects n m
  wrong_alike A (Expr-F.Literal x) n m = alike_same objects n m
  wrong_alike A (Expr-F.Paren place x) n m = alike_same objects n m
  wrong_alike A (Expr-F.Unary op place x) n m = alike_same objects n m
  wrong_alike A (Expr-F.Binary op x y) n m = alike_same objects n m

  above_alike : (x : Name) (a : Attribute) (level : Expr) (n m : Notes)
      → Alike objects n m (watched_attribute w scope x a (Attribute-F.Above level) n).0 (watched_attribute w scope x a (Attribute-F.Above level) m).0
  above_alike x a level n m =
      let f = found_thing x (lookup scope x.number) n in
      let g = found_thing x (lookup scope x.number) m in
      let u = static_part w scope level f.0 in
      let v = static_part w scope level g.0 in
      let read : StaticLike objects w.texts scope notable f.0 g.0 (static w.texts scope level running f.0) (static w.texts scope level running g.0) = static_like objects w.texts scope notable level running f.0 g.0 in
      let p = both level_at f.1 u.1 in
      let q = both level_at g.1 v.1 in
      let same : p ≡ q = same_both f.1 g.1 u.1 v.1 (same_thing objects x (lookup scope x.number) n m) (ap part_of read.asked_is) in
      let there : OnKept (IsThreshold objects) p =
      both_kept Thing Asked Threshold (IsNotable objects) (AskedFits objects) (IsThreshold objects) level_at (level_kept objects) f.1 u.1
      (thing_notable objects x (lookup scope x.number) n (notable x.number)) (asked_kept objects (static w.texts scope level running f.0).1 read.fits) in
      alike_on objects n m f.0 g.0 (threshold_at p u.0).0 (threshold_at q v.0).0 (found_alike objects x (lookup scope x.number) n m)
      (alike_on objects f.0 g.0 u.0 v.0 (threshold_at p u.0).0 (threshold_at q v.0).0 read.notes
      (subst (λ (z : Part Threshold). Alike objects u.0 v.0 (threshold_at p u.0).0 (threshold_at z v.0).0) same (threshold_alike objects p u.0 v.0 there)))
    where
      same_both : (a b : Part Thing) (c d : Part Asked) → a ≡ b → c ≡ d → both level_at a c ≡ both level_at b d
      same_both a b c d h g = subst (λ (z : Part Thing). both level_at a c ≡ both level_at z d) h (subst (λ (z : Part Asked). both level_at a c ≡ both level_at a z) g refl)

  attribute_alike : (x : Name) (a : Attribute) (y : Attribute-F Attribute Expr) (n m : Notes) → Alike objects n m (watched_attribute w scope x a y n).0 (watched_attribute w scope x a y m).0
  attribute_alike x a (Attribute-F.Above level) n m = above_alike x a level n m
  attribute_alike x a (Attribute-F.Ramp rise fall) n m = behind_name x (out-Attribute a) n m
  attribute_alike x a Attribute-F.Event n m = behind_name x (out-Attribute a) n m
  attribute_alike x a Attribute-F.Dot n m = behind_name x (out-Attribute a) n m
  attribute_alike x a Attribute-F.Reference n m = behind_name x (out-Attribute a) n m

  watched_alike : (x : Expr) (e : Expr-F Attribute Expr) (n m : Notes) → Alike objects n m (watched_name w scope x e n).0 (watched_name w scope x e m).0
  watched_alike x (Expr-F.Name y) n m = found_alike objects y (lookup scope y.number) n m
  watched_alike x (Expr-F.Attribute y a) n m = attribute_alike y a (out-Attribute a) n m
  watched_alike x (Expr-F.Number y unit) n m = wrong_alike SignalName (out-Expr x) n m
  watched_alike x (Expr-F.Literal y) n m = wrong_alike SignalName (out-Expr x) n m
  watched_alike x (Expr-F.Call y all) n m = wrong_alike SignalName (out-Expr x) n m
  watched_alike x (Expr-F.Paren place y) n m = wrong_alike SignalName (out-Expr x) n m
  watched_alike x (Expr-F.Unary op place y) n m = wrong_alike SignalName (out-Expr x) n m
  watched_alike x (Expr-F.Binary op y z) n m = wrong_alike SignalName (out-Expr x) n m

  pub sensitivity_alike : (names : List Expr) (n m : Notes) → Alike objects n m (sensitivity w scope names n).0 (sensitivity w scope names m).0
  sensitivity_alike names n m = listed_alike objects _ Expr (watched_signal w scope) (watched_signal w scope) (λ x n m. watched_alike x (out-Expr x) n m) names n m

  -- ---- break elements

  quantity_alike : (e : Expr-F Attribute Expr) (n m : Notes) → Alike objects n m (quantity_at w scope e n).0 (quantity_at w scope e m).0
  quantity_alike (Expr-F.Name x) n m = found_alike objects x (lookup scope x.number) n m
  quantity_alike (Expr-F.Number y unit) n m = wrong_alike (ℕ × ℕ) (Expr-F.Number y unit) n m
  quantity_alike (Expr-F.Literal y) n m = wrong_alike (ℕ × ℕ) (Expr-F.Literal y) n m
  quantity_alike (Expr-F.Call y all) n m = wrong_alike (ℕ × ℕ) (Expr-F.Call y all) n m
  quantity_alike (Expr-F.Attribute y a) n m = wrong_alike (ℕ × ℕ) (Expr-F.Attribute y a) n m
  quantity_alike (Expr-F.Paren place y) n m = wrong_alike (ℕ × ℕ) (Expr-F.Paren place y) n m
  quantity_alike (Expr-F.Unary op place y) n m = wrong_alike (ℕ × ℕ) (Expr-F.Unary op place y) n m
  quantity_alike (Expr-F.Binary op y z) n m = wrong_alike (ℕ × ℕ) (Expr-F.Binary op y z) n m

  selector_alike : (x : Option Expr) (p q : Part (ℕ × ℕ)) (n m : Notes) → Alike objects n m (selector_at w scope x p n).0 (selector_at w scope x q m).0
  selector_alike None p q n m = alike_same objects n m
  selector_alike (Some x) p q n m = quantity_alike (out-Expr x) n m

  broken_alike : (x : BreakElement) (n m : Notes) → Alike objects n m (break_element w scope x n).0 (break_element w scope x m).0
  broken_alike x n m =
      let q = quantity_at w scope (out-Expr x.quantity) n in
      let r = quantity_at w scope (out-Expr x.quantity) m in
      let p = selector_at w scope x.selector q.1 q.0 in
      let o = selector_at w scope x.selector r.1 r.0 in
      let u = must_be w scope running (Of t.Real) x.value p.0 in
      let v = must_be w scope running (Of t.Real) x.value o.0 in
      alike_on objects n m q.0 r.0 u.0 v.0 (quantity_alike (out-Expr x.quantity) n m)
      (alike_on objects q.0 r.0 p.0 o.0 u.0 v.0 (selector_alike x.selector q.1 r.1 q.0 r.0) (must_alike running (Of t.Real) x.value p.0 o.0))

  pub breaks_alike : (all : List BreakElement) (n m : Notes) → Alike objects n m (break_elements w scope all n).0 (break_elements w scope all m).0
  breaks_alike all n m = listed_alike objects _ BreakElement (break_element w scope) (break_element w scope) broken_alike all n m

  -- ---- assertions and waveforms

  pub assertion_alike : (a : Assertion) (n m : Notes) → Alike objects n m (assertion_parts w scope a n).0 (assertion_parts w scope a m).0
  assertion_alike a n m = must_alike running (Of t.Boolean) a.condition n m

  pub target_alike : (x : Name) (n m : Notes) → Alike objects n m (target scope x n).0 (target scope x m).0
  target_alike x n m = found_alike objects x (lookup scope x.number) n m

  pub mechanism_alike : (d : Option DelayMechanism) (n m : Notes) → Alike objects n m (mechanism w scope d n).0 (mechanism w scope d m).0
  mechanism_alike (Some (delay.Transport place)) n m = alike_same objects n m
  mechanism_alike (Some (delay.Reject place x)) n m = must_alike running (Of t.Time) x n m
  mechanism_alike (Some (delay.Inertial place)) n m = alike_same objects n m
  mechanism_alike None n m = alike_same objects n m

  element_alike : (to from : Part (ℕ × Subtype)) (x : WaveformElement) (n m : Notes) → Alike objects n m (element w scope to x n).0 (element w scope from x m).0
  element_alike to from x n m =
      let u = typed w scope running x.value n in
      let v = typed w scope running x.value m in
      alike_on objects n m u.0 v.0 (may_be w scope running (Of t.Time) x.after u.0).0 (may_be w scope running (Of t.Time) x.after v.0).0 (typed_alike running x.value n m) (may_alike running (Of t.Time) x.after u.0 v.0)

  pub waveform_alike : (to from : Part (ℕ × Subtype)) (xs : List WaveformElement) (n m : Notes) → Alike objects n m (waveform w scope to xs n).0 (waveform w scope from xs m).0
  waveform_alike to from xs n m = listed_alike objects _ WaveformElement (element w scope to) (element w scope from) (element_alike to from) xs n m
