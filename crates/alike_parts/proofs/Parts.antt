-- Parts of statements, read twice.
use Rattle.std.proofs.Common.{◌≡◌, ℕ, Bool, true, false, if◌then◌else◌, List, [], ◌∷◌, length, map, Option, Some, None, refl, subst}
use Rattle.std.specs.Prelude.{nat_le}
use Rattle.ams_tree.specs.declared.expression.Attribute.{Attribute, out-Attribute}
use Rattle.ams_tree.specs.declared.expression.Attribute.TheOpen.{Expr-F, Attribute-F}
use Rattle.ams_tree.specs.declared.expression.Expr.{Expr, out-Expr}
use Rattle.ams_tree.specs.declared.expression.Name.{Name}
use Rattle.ams_tree.specs.declared.sequential.Assertion.{Assertion}
use Rattle.ams_tree.specs.declared.sequential.BreakElement.{BreakElement}
use Rattle.ams_tree.specs.declared.sequential.DelayMechanism.{DelayMechanism}
use Rattle.ams_tree.specs.declared.sequential.DelayMechanism.TheVariants as delay
use Rattle.ams_tree.specs.declared.sequential.WaveformElement.{WaveformElement}
use Rattle.ams_value.specs.declared.value_type.ValueType.TheVariants as t
use Rattle.flat_expr.specs.declared.expr.SignalName.{SignalName}
use Rattle.flat_design.specs.declared.objects.Threshold.{Threshold}
use Rattle.name_scope.specs.declared.thing.Kind.{Kind}
use Rattle.name_scope.specs.declared.thing.Kind.TheVariants.{Of}
use Rattle.name_scope.specs.declared.thing.Subtype.{Subtype}
use Rattle.name_scope.specs.declared.scope.Scope.{Scope}
use Rattle.name_scope.specs.Scopes.{lookup}
use Rattle.elab_meaning.specs.declared.fault.Notes.{Notes}
use Rattle.elab_meaning.specs.declared.part.Part.{Part}
use Rattle.elab_meaning.specs.declared.part.Part.TheVariants.{Kept, Wrong, Hidden}
use Rattle.elab_meaning.specs.declared.typed.Asked.{Asked}
use Rattle.elab_meaning.specs.declared.typed.Context.{Context}
use Rattle.elab_meaning.specs.declared.typed.Typed.{Typed}
use Rattle.elab_meaning.specs.Parts.{both, found_thing}
use Rattle.elab_meaning.specs.Expressions.{expression, arguments, put, static, static_in, asked}
use Rattle.unit_meaning.specs.Settings.{Setting, running, typed, must_be, may_be, condition}
use Rattle.unit_meaning.specs.Bare.{static_part, inside_attribute, wrong_name, level_at, threshold_at, watched_attribute, watched_name, watched_signal, sensitivity, quantity_at, selector_at, break_element, break_elements}
use Rattle.unit_meaning.specs.Waveforms.{target, mechanism, element, waveform}
use Rattle.unit_meaning.specs.Sequential.{assertion_parts}
use Rattle.flat_design.specs.Limits.{threshold_limit}
use Rattle.flat_design.specs.Lists.{with_threshold}
use Rattle.elab_meaning.specs.Notes.{watched}
use Rattle.reading_laws.proofs.Growing.{grows_asked}
use Rattle.reading_laws.proofs.Reading.{reading_adds_notes}
use Rattle.alike_laws.specs.Alike.{OnlyTold}
use Rattle.alike_parts.specs.Follows.{BothRead}
use Rattle.alike_parts.proofs.Follows.{Follows, grown_back, same_follows, on_follows, quiet_follows, listed_follows, found_follows}

-- of a threshold only its number is noted
watched_faults : (h : Threshold) (n : Notes) → (watched h n).faults ≡ n.faults
unfolding watched
watched_faults h n = go (nat_le (length n.thresholds) threshold_limit)
  where
    go : (b : Bool) → (if b then record { faults = n.faults; dots = n.dots; thresholds = with_threshold h n.thresholds } else n).faults ≡ n.faults
    go true = refl
    go false = refl

threshold_faults : (p : Part Threshold) (n : Notes) → (threshold_at p n).0.faults ≡ n.faults
threshold_faults (Kept h) n = watched_faults h n
threshold_faults Wrong n = refl
threshold_faults Hidden n = refl

module _ (G : Type 0) (natures : List ℕ) (checked entered : Setting) (early late : Scope) (premise : BothRead G natures checked entered early late) where
  pub names_follow : (x : Name) (n m : Notes) → Follows G n m (found_thing x (lookup early x.number) n).0 (found_thing x (lookup late x.number) m).0
  names_follow x n m = found_follows G natures x (lookup early x.number) (lookup late x.number) (λ there. (premise.alike there).seen x.number) n m

  pub typed_follows : (c : Context) (x : Expr) (n m : Notes) → Follows G n m (typed checked early c x n).0 (typed entered late c x m).0
  typed_follows c x n m =
      record {
        back = λ h. grown_back n (expression checked.texts early x c n).0 (reading_adds_notes checked.texts early x c n) h;
        told = λ there h k.
            subst (λ (l : List (List ℕ)). OnlyTold (expression l late x c m).0) premise.texts
            ((premise.reads natures early late (premise.alike there) checked.texts x c n m).notes.told h k);
      }

  -- a value that is asked before the run
  pub asked_follows : (c : Context) (x : Expr) (n m : Notes) → Follows G n m (static checked.texts early x c n).0 (static entered.texts late x c m).0
  asked_follows c x n m =
      let found = expression checked.texts early x (static_in c) n in
      record {
        back = λ h. grown_back n found.0 (reading_adds_notes checked.texts early x (static_in c) n) (grown_back found.0 (asked found.1 found.0).0 (grows_asked found.1 found.0) h);
        told = λ there h k.
            subst (λ (l : List (List ℕ)). OnlyTold (static l late x c m).0) premise.texts
            ((premise.statics natures early late (premise.alike there) checked.texts x c n m).notes.told h k);
      }

  pub must_follows : (c : Context) (k : Kind) (x : Expr) (n m : Notes) → Follows G n m (must_be checked early c k x n).0 (must_be entered late c k x m).0
  must_follows c k x n m = typed_follows c x n m

  pub may_follows : (c : Context) (k : Kind) (x : Option Expr) (n m : Notes) → Follows G n m (may_be checked early c k x n).0 (may_be entered late c k x m).0
  may_follows c k None n m = same_follows G n m
  may_follows c k (Some x) n m = typed_follows c x n m

  pub condition_follows : (x : Option Expr) (n m : Notes) → Follows G n m (condition checked early x n).0 (condition entered late x m).0
  condition_follows x n m = may_follows running (Of t.Boolean) x n m

  static_follows : (x : Expr) (n m : Notes) → Follows G n m (static_part checked early x n).0 (static_part entered late x m).0
  static_follows x n m = asked_follows running x n m

  arguments_follows : (c : Context) (all : List Expr) (so_far more : Option (List Typed)) (n m : Notes)
      → Follows G n m (arguments c so_far (map (expression checked.texts early) all) n).0 (arguments c more (map (expression entered.texts late) all) m).0
  arguments_follows c [] so_far more n m = same_follows G n m
  arguments_follows c (x ∷ rest) so_far more n m =
      let found = expression checked.texts early x c n in
      let again = expression entered.texts late x c m in
      on_follows G n m found.0 again.0 (arguments c (put so_far found.1) (map (expression checked.texts early) rest) found.0).0 (arguments c (put more again.1) (map (expression entered.texts late) rest) again.0).0
      (typed_follows c x n m) (arguments_follows c rest (put so_far found.1) (put more again.1) found.0 again.0)

  inside_follows : (a : Attribute-F Attribute Expr) (n m : Notes) → Follows G n m (inside_attribute checked early a n).0 (inside_attribute entered late a m).0
  inside_follows (Attribute-F.Above x) n m = listed_follows G Asked Expr (static_part checked early) (static_part entered late) static_follows (x ∷ []) n m
  inside_follows (Attribute-F.Ramp None None) n m = listed_follows G Asked Expr (static_part checked early) (static_part entered late) static_follows ([]) n m
  inside_follows (Attribute-F.Ramp None (Some b)) n m = listed_follows G Asked Expr (static_part checked early) (static_part entered late) static_follows (b ∷ []) n m
  inside_follows (Attribute-F.Ramp (Some a) None) n m = listed_follows G Asked Expr (static_part checked early) (static_part entered late) static_follows (a ∷ []) n m
  inside_follows (Attribute-F.Ramp (Some a) (Some b)) n m = listed_follows G Asked Expr (static_part checked early) (static_part entered late) static_follows (a ∷ b ∷ []) n m
  inside_follows Attribute-F.Event n m = same_follows G n m
  inside_follows Attribute-F.Dot n m = same_follows G n m
  inside_follows Attribute-F.Reference n m = same_follows G n m

  behind_name : (x : Name) (a : Attribute-F Attribute Expr) (n m : Notes)
      → Follows G n m (inside_attribute checked early a (found_thing x (lookup early x.number) n).0).0 (inside_attribute entered late a (found_thing x (lookup late x.number) m).0).0
  behind_name x a n m =
      let f = found_thing x (lookup early x.number) n in
      let g = found_thing x (lookup late x.number) m in
      on_follows G n m f.0 g.0 (inside_attribute checked early a f.0).0 (inside_attribute entered late a g.0).0 (names_follow x n m) (inside_follows a f.0 g.0)

  wrong_follows : (A : Type 0) (e : Expr-F Attribute Expr) (n m : Notes) → Follows G n m (wrong_name {A = A} checked early e n).0 (wrong_name {A = A} entered late e m).0
  wrong_follows A (Expr-F.Name x) n m = names_follow x n m
  wrong_follows A (Expr-F.Call x all) n m =
      let f = found_thing x (lookup early x.number) n in
      let g = found_thing x (lookup late x.number) m in
      on_follows G n m f.0 g.0 (arguments running (Some []) (map (expression checked.texts early) all) f.0).0 (arguments running (Some []) (map (expression entered.texts late) all) g.0).0
      (names_follow x n m) (arguments_follows running all (Some []) (Some []) f.0 g.0)
  wrong_follows A (Expr-F.Attribute x a) n m = behind_name x (out-Attribute a) n m
  wrong_follows A (Expr-F.Number x unit) n m = same_follows G n m
  wrong_follows A (Expr-F.Literal x) n m = same_follows G n m
  wrong_follows A (Expr-F.Paren place x) n m = same_follows G n m
  wrong_follows A (Expr-F.Unary op place x) n m = same_follows G n m
  wrong_follows A (Expr-F.Binary op x y) n m = same_follows G n m

  above_follows : (x : Name) (a : Attribute) (level : Expr) (n m : Notes)
      → Follows G n m (watched_attribute checked early x a (Attribute-F.Above level) n).0 (watched_attribute entered late x a (Attribute-F.Above level) m).0
  above_follows x a level n m =
      let f = found_thing x (lookup early x.number) n in
      let g = found_thing x (lookup late x.number) m in
      let u = static_part checked early level f.0 in
      let v = static_part entered late level g.0 in
      let p = both level_at f.1 u.1 in
      let q = both level_at g.1 v.1 in
      on_follows G n m f.0 g.0 (threshold_at p u.0).0 (threshold_at q v.0).0 (names_follow x n m)
      (on_follows G f.0 g.0 u.0 v.0 (threshold_at p u.0).0 (threshold_at q v.0).0 (static_follows level f.0 g.0)
      (quiet_follows G u.0 v.0 (threshold_at p u.0).0 (threshold_at q v.0).0 (threshold_faults p u.0) (threshold_faults q v.0)))

  attribute_follows : (x : Name) (a : Attribute) (y : Attribute-F Attribute Expr) (n m : Notes) → Follows G n m (watched_attribute checked early x a y n).0 (watched_attribute entered late x a y m).0
  attribute_follows x a (Attribute-F.Above level) n m = above_follows x a level n m
  attribute_follows x a (Attribute-F.Ramp rise fall) n m = behind_name x (out-Attribute a) n m
  attribute_follows x a Attribute-F.Event n m = behind_name x (out-Attribute a) n m
  attribute_follows x a Attribute-F.Dot n m = behind_name x (out-Attribute a) n m
  attribute_follows x a Attribute-F.Reference n m = behind_name x (out-Attribute a) n m

  watched_follows : (x : Expr) (e : Expr-F Attribute Expr) (n m : Notes) → Follows G n m (watched_name checked early x e n).0 (watched_name entered late x e m).0
  watched_follows x (Expr-F.Name y) n m = names_follow y n m
  watched_follows x (Expr-F.Attribute y a) n m = attribute_follows y a (out-Attribute a) n m
  watched_follows x (Expr-F.Number y unit) n m = wrong_follows SignalName (out-Expr x) n m
  watched_follows x (Expr-F.Literal y) n m = wrong_follows SignalName (out-Expr x) n m
  watched_follows x (Expr-F.Call y all) n m = wrong_follows SignalName (out-Expr x) n m
  watched_follows x (Expr-F.Paren place y) n m = wrong_follows SignalName (out-Expr x) n m
  watched_follows x (Expr-F.Unary op place y) n m = wrong_follows SignalName (out-Expr x) n m
  watched_follows x (Expr-F.Binary op y z) n m = wrong_follows SignalName (out-Expr x) n m

  pub sensitivity_follows : (names : List Expr) (n m : Notes) → Follows G n m (sensitivity checked early names n).0 (sensitivity entered late names m).0
  sensitivity_follows names n m = listed_follows G _ Expr (watched_signal checked early) (watched_signal entered late) (λ x n m. watched_follows x (out-Expr x) n m) names n m

  -- ---- break elements

  quantity_follows : (e : Expr-F Attribute Expr) (n m : Notes) → Follows G n m (quantity_at checked early e n).0 (quantity_at entered late e m).0
  quantity_follows (Expr-F.Name x) n m = names_follow x n m
  quantity_follows (Expr-F.Number y unit) n m = wrong_follows (ℕ × ℕ) (Expr-F.Number y unit) n m
  quantity_follows (Expr-F.Literal y) n m = wrong_follows (ℕ × ℕ) (Expr-F.Literal y) n m
  quantity_follows (Expr-F.Call y all) n m = wrong_follows (ℕ × ℕ) (Expr-F.Call y all) n m
  quantity_follows (Expr-F.Attribute y a) n m = wrong_follows (ℕ × ℕ) (Expr-F.Attribute y a) n m
  quantity_follows (Expr-F.Paren place y) n m = wrong_follows (ℕ × ℕ) (Expr-F.Paren place y) n m
  quantity_follows (Expr-F.Unary op place y) n m = wrong_follows (ℕ × ℕ) (Expr-F.Unary op place y) n m
  quantity_follows (Expr-F.Binary op y z) n m = wrong_follows (ℕ × ℕ) (Expr-F.Binary op y z) n m

  selector_follows : (x : Option Expr) (p q : Part (ℕ × ℕ)) (n m : Notes) → Follows G n m (selector_at checked early x p n).0 (selector_at entered late x q m).0
  selector_follows None p q n m = same_follows G n m
  selector_follows (Some x) p q n m = quantity_follows (out-Expr x) n m

  broken_follows : (x : BreakElement) (n m : Notes) → Follows G n m (break_element checked early x n).0 (break_element entered late x m).0
  broken_follows x n m =
      let q = quantity_at checked early (out-Expr x.quantity) n in
      let r = quantity_at entered late (out-Expr x.quantity) m in
      let p = selector_at checked early x.selector q.1 q.0 in
      let o = selector_at entered late x.selector r.1 r.0 in
      let u = must_be checked early running (Of t.Real) x.value p.0 in
      let v = must_be entered late running (Of t.Real) x.value o.0 in
      on_follows G n m q.0 r.0 u.0 v.0 (quantity_follows (out-Expr x.quantity) n m)
      (on_follows G q.0 r.0 p.0 o.0 u.0 v.0 (selector_follows x.selector q.1 r.1 q.0 r.0) (must_follows running (Of t.Real) x.value p.0 o.0))

  pub breaks_follows : (all : List BreakElement) (n m : Notes) → Follows G n m (break_elements checked early all n).0 (break_elements entered late all m).0
  breaks_follows all n m = listed_follows G _ BreakElement (break_element checked early) (break_element entered late) broken_follows all n m

  -- ---- assertions and waveforms

  pub assertion_follows : (a : Assertion) (n m : Notes) → Follows G n m (assertion_parts checked early a n).0 (assertion_parts entered late a m).0
  assertion_follows a n m = must_follows running (Of t.Boolean) a.condition n m

  pub target_follows : (x : Name) (n m : Notes) → Follows G n m (target early x n).0 (target late x m).0
  target_follows x n m = names_follow x n m

  pub mechanism_follows : (d : Option DelayMechanism) (n m : Notes) → Follows G n m (mechanism checked early d n).0 (mechanism entered late d m).0
  mechanism_follows (Some (delay.Transport place)) n m = same_follows G n m
  mechanism_follows (Some (delay.Reject place x)) n m = must_follows running (Of t.Time) x n m
  mechanism_follows (Some (delay.Inertial place)) n m = same_follows G n m
  mechanism_follows None n m = same_follows G n m

  element_follows : (to from : Part (ℕ × Subtype)) (x : WaveformElement) (n m : Notes) → Follows G n m (element checked early to x n).0 (element entered late from x m).0
  element_follows to from x n m =
      let u = typed checked early running x.value n in
      let v = typed entered late running x.value m in
      on_follows G n m u.0 v.0 (may_be checked early running (Of t.Time) x.after u.0).0 (may_be entered late running (Of t.Time) x.after v.0).0 (typed_follows running x.value n m) (may_follows running (Of t.Time) x.after u.0 v.0)

  pub waveform_follows : (to from : Part (ℕ × Subtype)) (xs : List WaveformElement) (n m : Notes) → Follows G n m (waveform checked early to xs n).0 (waveform entered late from xs m).0
  waveform_follows to from xs n m = listed_follows G _ WaveformElement (element checked early to) (element entered late from) (element_follows to from) xs n m
