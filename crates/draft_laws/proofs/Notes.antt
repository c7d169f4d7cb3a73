-- Each part of a statement only adds to the notes.
use Rattle.std.proofs.Common.{ℕ, List, [], ◌∷◌, ◌++◌, map, Option, Some, None}
use Rattle.ams_token.specs.declared.token.Place.{Place}
use Rattle.ams_tree.specs.declared.expression.Name.{Name}
use Rattle.ams_tree.specs.declared.expression.Attribute.{Attribute, out-Attribute}
use Rattle.ams_tree.specs.declared.expression.Attribute.TheOpen.{Expr-F, Attribute-F}
use Rattle.ams_tree.specs.declared.expression.Expr.{Expr, out-Expr}
use Rattle.ams_tree.specs.declared.sequential.BreakElement.{BreakElement}
use Rattle.ams_tree.specs.declared.sequential.Choice.{Choice}
use Rattle.ams_tree.specs.declared.sequential.Choice.TheVariants as choice
use Rattle.ams_tree.specs.declared.sequential.DelayMechanism.{DelayMechanism}
use Rattle.ams_tree.specs.declared.sequential.DelayMechanism.TheVariants as written
use Rattle.ams_tree.specs.declared.sequential.WaveformElement.{WaveformElement}
use Rattle.ams_value.specs.declared.value_type.ValueType.TheVariants as t
use Rattle.flat_design.specs.declared.objects.Threshold.{Threshold}
use Rattle.name_scope.specs.declared.thing.Kind.{Kind}
use Rattle.name_scope.specs.declared.thing.Kind.TheVariants.{Of}
use Rattle.name_scope.specs.declared.thing.Subtype.{Subtype}
use Rattle.name_scope.specs.declared.thing.Thing.{Thing}
use Rattle.name_scope.specs.declared.thing.Thing.TheVariants as thing
use Rattle.name_scope.specs.declared.scope.Scope.{Scope}
use Rattle.name_scope.specs.Scopes.{lookup}
use Rattle.elab_meaning.specs.declared.fault.Cause.TheVariants.{Unknown, WrongType}
use Rattle.elab_meaning.specs.declared.fault.Notes.{Notes}
use Rattle.elab_meaning.specs.declared.part.Part.{Part}
use Rattle.elab_meaning.specs.declared.part.Part.TheVariants.{Kept, Wrong, Hidden}
use Rattle.elab_meaning.specs.declared.typed.Context.{Context}
use Rattle.elab_meaning.specs.declared.typed.Typed.{Typed}
use Rattle.elab_meaning.specs.Expressions.{expression, static_in, static, arguments, put}
use Rattle.elab_meaning.specs.Parts.{closed, found_thing, both, where_true}
use Rattle.unit_meaning.specs.declared.draft.Seen.{Seen}
use Rattle.unit_meaning.specs.Settings.{Setting, running, may_be, must_be, listed, finished}
use Rattle.unit_meaning.specs.Waveforms.{target, mechanism, element, waveform, assignment}
use Rattle.unit_meaning.specs.Bare.{inside_attribute, wrong_name, level_at, threshold_at, static_part, watched_attribute, watched_name, watched_signal, sensitivity, quantity_at, selector_at, break_element, break_elements}
use Rattle.unit_meaning.specs.Cases.{one_choice, choices, seen_or}
use Rattle.reading_laws.specs.Growing.{Grows}
use Rattle.reading_laws.proofs.Growing.{grows_same, grows_on, grows_noted, grows_watched, grows_asked}
use Rattle.reading_laws.proofs.Reading.{reading_adds_notes}

pub grows_closed : (A : Type 0) (place : Place) (p : Part A) (n : Notes) → Grows n (closed place p n)
grows_closed A place (Kept a) n = grows_same n
grows_closed A place Wrong n = grows_noted place WrongType n
grows_closed A place Hidden n = grows_same n

pub grows_finished : (A : Type 0) (place : Place) (n : Notes) (found : Notes × Part A) → Grows n found.0 → Grows n (finished place found).0
grows_finished A place n found h = grows_on n found.0 (closed place found.1 found.0) h (grows_closed A place found.1 found.0)

pub grows_found : (x : Name) (o : Option Thing) (n : Notes) → Grows n (found_thing x o n).0
grows_found x None n = grows_noted x.place (Unknown x.number) n
grows_found x (Some thing.Faulty) n = grows_same n
grows_found x (Some _) n = grows_same n

pub grows_listed : (A B : Type 0) (rule : B → Notes → Notes × Part A) → ((x : B) (n : Notes) → Grows n (rule x n).0) → (all : List B) (n : Notes) → Grows n (listed rule all n).0
grows_listed A B rule h [] n = grows_same n
grows_listed A B rule h (x ∷ more) n =
    let first = rule x n in
    grows_on n first.0 (listed rule more first.0).0 (h x n) (grows_listed A B rule h more first.0)

module _ (w : Setting) (scope : Scope) where
  pub grows_static : (x : Expr) (c : Context) (n : Notes) → Grows n (static w.texts scope x c n).0
  grows_static x c n =
      let found = expression w.texts scope x (static_in c) n in
      grows_on n found.0 (static w.texts scope x c n).0 (reading_adds_notes w.texts scope x (static_in c) n) (grows_asked found.1 found.0)

  pub grows_must : (c : Context) (k : Kind) (x : Expr) (n : Notes) → Grows n (must_be w scope c k x n).0
  grows_must c k x n = reading_adds_notes w.texts scope x c n

  pub grows_may : (c : Context) (k : Kind) (x : Option Expr) (n : Notes) → Grows n (may_be w scope c k x n).0
  grows_may c k None n = grows_same n
  grows_may c k (Some x) n = reading_adds_notes w.texts scope x c n

  -- ---- assignments

  pub grows_target : (x : Name) (n : Notes) → Grows n (target scope x n).0
  grows_target x n = grows_found x (lookup scope x.number) n

  pub grows_mechanism : (delay : Option DelayMechanism) (n : Notes) → Grows n (mechanism w scope delay n).0
  grows_mechanism (Some (written.Transport place)) n = grows_same n
  grows_mechanism (Some (written.Reject place x)) n = grows_must running (Of t.Time) x n
  grows_mechanism _ n = grows_same n

  grows_element : (to : Part (ℕ × Subtype)) (x : WaveformElement) (n : Notes) → Grows n (element w scope to x n).0
  grows_element to x n =
      let value = expression w.texts scope x.value running n in
      grows_on n value.0 (element w scope to x n).0 (reading_adds_notes w.texts scope x.value running n) (grows_may running (Of t.Time) x.after value.0)

  pub grows_assignment : (to : Part (ℕ × Subtype)) (delay : Option DelayMechanism) (xs : List WaveformElement) (n : Notes) → Grows n (assignment w scope to delay xs n).0
  grows_assignment to delay xs n =
      let m = mechanism w scope delay n in
      grows_on n m.0 (waveform w scope to xs m.0).0 (grows_mechanism delay n) (grows_listed _ WaveformElement (element w scope to) (grows_element to) xs m.0)

  -- ---- names of signals

  grows_arguments : (all : List Expr) (so_far : Option (List Typed)) (n : Notes) → Grows n (arguments running so_far (map (expression w.texts scope) all) n).0
  grows_arguments [] so_far n = grows_same n
  grows_arguments (x ∷ more) so_far n =
      let found = expression w.texts scope x running n in
      grows_on n found.0 (arguments running (put so_far found.1) (map (expression w.texts scope) more) found.0).0 (reading_adds_notes w.texts scope x running n)
      (grows_arguments more (put so_far found.1) found.0)

  grows_parts : (all : List Expr) (n : Notes) → Grows n (listed (static_part w scope) all n).0
  grows_parts all n = grows_listed _ Expr (static_part w scope) (λ x m. grows_static x running m) all n

  abbrev present : Option Expr → List Expr
  present None = []
  present (Some x) = x ∷ []

  grows_inside : (a : Attribute-F Attribute Expr) (n : Notes) → Grows n (inside_attribute w scope a n).0
  grows_inside (Attribute-F.Above x) n = grows_parts (x ∷ []) n
  grows_inside (Attribute-F.Ramp rise fall) n = grows_parts (present rise ++ present fall) n
  grows_inside Attribute-F.Event n = grows_same n
  grows_inside Attribute-F.Dot n = grows_same n
  grows_inside Attribute-F.Reference n = grows_same n

  grows_wrong : (A : Type 0) (e : Expr-F Attribute Expr) (n : Notes) → Grows n (wrong_name {A = A} w scope e n).0
  grows_wrong A (Expr-F.Name x) n = grows_found x (lookup scope x.number) n
  grows_wrong A (Expr-F.Call x all) n =
      let found = found_thing x (lookup scope x.number) n in
      grows_on n found.0 (arguments running (Some []) (map (expression w.texts scope) all) found.0).0 (grows_found x (lookup scope x.number) n) (grows_arguments all (Some []) found.0)
  grows_wrong A (Expr-F.Attribute x a) n =
      let found = found_thing x (lookup scope x.number) n in
      grows_on n found.0 (inside_attribute w scope (out-Attribute a) found.0).0 (grows_found x (lookup scope x.number) n) (grows_inside (out-Attribute a) found.0)
  grows_wrong A _ n = grows_same n

  grows_threshold : (h : Part Threshold) (n : Notes) → Grows n (threshold_at h n).0
  grows_threshold (Kept h) n = grows_watched h n
  grows_threshold Wrong n = grows_same n
  grows_threshold Hidden n = grows_same n

  grows_other : (x : Name) (a : Attribute) (n : Notes) → Grows n (inside_attribute w scope (out-Attribute a) (found_thing x (lookup scope x.number) n).0).0
  grows_other x a n =
      let found = found_thing x (lookup scope x.number) n in
      grows_on n found.0 (inside_attribute w scope (out-Attribute a) found.0).0 (grows_found x (lookup scope x.number) n) (grows_inside (out-Attribute a) found.0)

  grows_attribute : (x : Name) (a : Attribute) (y : Attribute-F Attribute Expr) (n : Notes) → Grows n (watched_attribute w scope x a y n).0
  grows_attribute x a (Attribute-F.Above level) n =
      let found = found_thing x (lookup scope x.number) n in
      let value = static_part w scope level found.0 in
      grows_on n found.0 (threshold_at (both level_at found.1 value.1) value.0).0 (grows_found x (lookup scope x.number) n)
      (grows_on found.0 value.0 (threshold_at (both level_at found.1 value.1) value.0).0 (grows_static level running found.0) (grows_threshold (both level_at found.1 value.1) value.0))
  grows_attribute x a Attribute-F.Event n = grows_other x a n
  grows_attribute x a Attribute-F.Dot n = grows_other x a n
  grows_attribute x a Attribute-F.Reference n = grows_other x a n
  grows_attribute x a (Attribute-F.Ramp rise fall) n = grows_other x a n

  grows_watched_name : (e : Expr) (y : Expr-F Attribute Expr) (n : Notes) → Grows n (watched_name w scope e y n).0
  grows_watched_name e (Expr-F.Name x) n = grows_found x (lookup scope x.number) n
  grows_watched_name e (Expr-F.Attribute x a) n = grows_attribute x a (out-Attribute a) n
  grows_watched_name e (Expr-F.Number x unit) n = grows_wrong _ (out-Expr e) n
  grows_watched_name e (Expr-F.Literal x) n = grows_wrong _ (out-Expr e) n
  grows_watched_name e (Expr-F.Call x all) n = grows_wrong _ (out-Expr e) n
  grows_watched_name e (Expr-F.Paren place x) n = grows_wrong _ (out-Expr e) n
  grows_watched_name e (Expr-F.Unary op place x) n = grows_wrong _ (out-Expr e) n
  grows_watched_name e (Expr-F.Binary op x y) n = grows_wrong _ (out-Expr e) n

  pub grows_signal : (x : Expr) (n : Notes) → Grows n (watched_signal w scope x n).0
  grows_signal x n = grows_watched_name x (out-Expr x) n

  pub grows_sensitivity : (all : List Expr) (n : Notes) → Grows n (sensitivity w scope all n).0
  grows_sensitivity all n = grows_listed _ Expr (watched_signal w scope) grows_signal all n

  -- ---- break elements

  pub grows_quantity : (e : Expr-F Attribute Expr) (n : Notes) → Grows n (quantity_at w scope e n).0
  grows_quantity (Expr-F.Name x) n = grows_found x (lookup scope x.number) n
  grows_quantity (Expr-F.Attribute x a) n = grows_wrong (ℕ × ℕ) (Expr-F.Attribute x a) n
  grows_quantity (Expr-F.Call x all) n = grows_wrong (ℕ × ℕ) (Expr-F.Call x all) n
  grows_quantity _ n = grows_same n

  pub grows_selector : (x : Option Expr) (q : Part (ℕ × ℕ)) (n : Notes) → Grows n (selector_at w scope x q n).0
  grows_selector None q n = grows_same n
  grows_selector (Some x) q n = grows_quantity (out-Expr x) n

  pub grows_break_element : (x : BreakElement) (n : Notes) → Grows n (break_element w scope x n).0
  grows_break_element x n =
      let q = quantity_at w scope (out-Expr x.quantity) n in
      let p = selector_at w scope x.selector q.1 q.0 in
      let value = must_be w scope running (Of t.Real) x.value p.0 in
      grows_on n q.0 value.0 (grows_quantity (out-Expr x.quantity) n)
      (grows_on q.0 p.0 value.0 (grows_selector x.selector q.1 q.0) (grows_must running (Of t.Real) x.value p.0))

  pub grows_breaks : (all : List BreakElement) (n : Notes) → Grows n (break_elements w scope all n).0
  grows_breaks all n = grows_listed _ BreakElement (break_element w scope) grows_break_element all n

  -- ---- choices

  grows_choice : (c : Context) (k : Option Kind) (s : Seen) (x : Choice) (n : Notes) → Grows n (one_choice w scope c k s x n).0
  grows_choice c k s (choice.Value x) n = grows_finished Seen _ n _ (grows_static x c n)
  grows_choice c k s (choice.Others place) n = grows_closed Seen place (where_true _ _) n

  pub grows_choices : (c : Context) (k : Option Kind) (s : Seen) (all : List Choice) (n : Notes) → Grows n (choices w scope c k s all n).0
  grows_choices c k s [] n = grows_same n
  grows_choices c k s (x ∷ more) n =
      let one = one_choice w scope c k s x n in
      grows_on n one.0 (choices w scope c k (seen_or s one.1) more one.0).0 (grows_choice c k s x n) (grows_choices c k (seen_or s one.1) more one.0)
