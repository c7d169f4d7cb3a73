-- Sequential statements that hold no others.
use Rattle.std.proofs.Common.{◌≡◌, ◌<◌, ◌≤◌, ℕ, zero, suc, arith, Bool, true, false, if◌then◌else◌, List, [], ◌∷◌, ◌++◌, length, codes, Option, Some, None, IfSome, IsTrue, refl, ap, sym, ◌∙◌, subst}
use Rattle.std.specs.Prelude.{◌&&◌, nat_le, nat_lt, nat_eq, not}
use Rattle.std.specs.List.{All, fold, list_any, slice_get}
use Rattle.std.proofs.lemmas.Bool.Decides.{nat_tests}
use Rattle.std.proofs.lemmas.List.Elements.{All-append, All-nil}
use Rattle.ams_tree.specs.declared.expression.Attribute.{Attribute, out-Attribute}
use Rattle.ams_tree.specs.declared.expression.Attribute.TheOpen.{Expr-F, Attribute-F}
use Rattle.ams_tree.specs.declared.expression.Expr.{Expr, out-Expr}
use Rattle.ams_tree.specs.declared.expression.Literal.{Literal}
use Rattle.ams_tree.specs.declared.expression.LiteralValue.{LiteralValue}
use Rattle.ams_tree.specs.declared.expression.LiteralValue.TheVariants as content
use Rattle.ams_tree.specs.declared.expression.Name.{Name}
use Rattle.ams_tree.specs.declared.sequential.Assertion.{Assertion}
use Rattle.ams_tree.specs.declared.sequential.BreakElement.{BreakElement}
use Rattle.ams_tree.specs.declared.sequential.DelayMechanism.{DelayMechanism}
use Rattle.ams_tree.specs.declared.sequential.Report.{Report}
use Rattle.ams_tree.specs.declared.sequential.WaveformElement.{WaveformElement}
use Rattle.ams_value.specs.declared.value_type.ValueType.{ValueType}
use Rattle.ams_value.specs.declared.value_type.ValueType.TheVariants.{Boolean, Real, Time, Enumeration}
use Rattle.flat_expr.specs.declared.expr.FlatExpr.{FlatExpr}
use Rattle.flat_expr.specs.declared.expr.SignalName.{SignalName}
use Rattle.flat_expr.specs.declared.expr.SignalName.TheVariants as signal
use Rattle.flat_expr.specs.Expr.{same_signal}
use Rattle.flat_expr.specs.declared.statement.BreakElement.{BreakElement as Broken}
use Rattle.flat_expr.specs.declared.statement.DelayMechanism.{DelayMechanism as Mechanism}
use Rattle.flat_expr.specs.declared.statement.Severity.{Severity}
use Rattle.flat_expr.specs.declared.statement.Severity.TheVariants as severity
use Rattle.flat_expr.specs.declared.statement.Statement.{Statement, out-Statement}
use Rattle.flat_expr.specs.declared.statement.Statement.TheVariants as statement
use Rattle.flat_expr.specs.declared.statement.Statement.TheVariants.{rolls-SignalAssignment, rolls-VariableAssignment, rolls-Wait, rolls-Assert, rolls-Report, rolls-Break}
use Rattle.flat_expr.specs.declared.statement.Statement.TheOpen.{Statement-F}
use Rattle.flat_expr.specs.declared.statement.Statement.TheViews.{out-roll-Statement, roll-Statement}
use Rattle.flat_expr.specs.declared.statement.WaveElement.{WaveElement}
use Rattle.flat_design.specs.Limits.{threshold_limit}
use Rattle.flat_design.specs.Lists.{number_of_threshold, with_threshold, same_threshold}
use Rattle.flat_design.specs.declared.objects.Objects.{Objects}
use Rattle.flat_design.specs.declared.objects.Process.{Process}
use Rattle.flat_design.specs.declared.objects.Threshold.{Threshold}
use Rattle.name_scope.specs.declared.thing.Kind.{Kind}
use Rattle.name_scope.specs.declared.thing.Kind.TheVariants.{Of, Vector}
use Rattle.name_scope.specs.declared.thing.Subtype.{Subtype}
use Rattle.name_scope.specs.declared.thing.Thing.{Thing}
use Rattle.name_scope.specs.declared.thing.Thing.TheVariants as thing
use Rattle.name_scope.specs.declared.scope.Scope.{Scope}
use Rattle.name_scope.specs.Scopes.{lookup}
use Rattle.elab_meaning.specs.declared.fault.Notes.{Notes}
use Rattle.elab_meaning.specs.declared.part.Part.{Part}
use Rattle.elab_meaning.specs.declared.part.Part.TheVariants.{Kept, Wrong, Hidden}
use Rattle.elab_meaning.specs.declared.typed.Typed.{Typed}
use Rattle.elab_meaning.specs.Declarations.{range_part}
use Rattle.elab_meaning.specs.Notes.{watched}
use Rattle.elab_meaning.specs.Parts.{judged, both, found_thing}
use Rattle.elab_meaning.specs.Subtypes.{suits}
use Rattle.unit_meaning.specs.declared.draft.Draft.{Draft}
use Rattle.unit_meaning.specs.Settings.{Setting, running, typed, value_of, must_be, may_be, condition, paired}
use Rattle.unit_meaning.specs.Waveforms.{target, mechanism, waveform, assigning, assignment}
use Rattle.unit_meaning.specs.Bare.{signal_of, level_at, threshold_at, static_part, watched_attribute, watched_name, watched_signal, wrong_both, always_wrong, wrong_name, with_signal, once, once_kept, sensitivity, signals_in, signals_in_some, named_quantity, quantity_at, selector_at, selecting, setting, break_element, break_elements}
use Rattle.unit_meaning.specs.Sequential.{variable_of, setting_variable, variable_assignment, waited_for, waiting, wait_statement, content_text, text_or, severity_or, assertion_parts, asserted, assertion, reported, report, broken, break_statement}
use Rattle.cycle_meaning.specs.Task.{Layer}
use Rattle.cycle_meaning.specs.World.{drives}
use Rattle.design_meaning.specs.Typed.{if_true}
use Rattle.design_rules.specs.Types.{process_scope, IsVisible, IsExpression}
use Rattle.design_rules.specs.Equations.{IsSelector}
use Rattle.design_rules.specs.Statements.{MayBe, IsSignalName, IsBreakElement, IsText, IsAllowed}
use Rattle.reading_laws.specs.Growing.{Grows}
use Rattle.typed_laws.specs.Fitting.{FitsKind, FitsThing, HasRoom, IsRead}
use Rattle.typed_laws.proofs.Attributes.{member_placed}
use Rattle.typed_laws.proofs.Literals.{at_least, is_below}
use Rattle.typed_laws.proofs.Typing.{room_before}
use Rattle.part_laws.specs.Parts.{OnKept, KeepsPart}
use Rattle.part_laws.proofs.Parts.{judged_kept, both_kept, where_kept, AllOf, Every, listed_keeps, typed_keeps}
use Rattle.part_laws.proofs.Process.{kept_as, process_parts_fit}
use Rattle.statement_laws.specs.Statements.{MayStand, HasCondition, HasLimit, AreElements}
use Rattle.statement_laws.proofs.Statements.{statement_parts_fit}
use Rattle.draft_laws.proofs.Notes.{grows_sensitivity, grows_signal, grows_break_element}
use Rattle.scope_laws.specs.Holds.{ScopeHolds}
use Rattle.allowed_laws.specs.Simple.{HasTexts, IsSelectorAt, SelectorsFit, IsDriven, SimpleStatementsAreAllowed}
use Rattle.allowed_laws.proofs.Signals.{Named, signals_are_named}
use Rattle.allowed_laws.proofs.Targets.{any_part, never_kept, found_kept, IsTarget, IsPlace, target_kept, place_kept, suits_kind}

-- ---- lists

all_head : (A : Type 0) (R : A → Type 0) (x : A) (all : List A) → All R (x ∷ all) → R x
all_head A R x all h = h 0 x (omega arith)

all_tail : (A : Type 0) (R : A → Type 0) (x : A) (all : List A) → All R (x ∷ all) → All R all
all_tail A R x all h i d lt = h (suc i) d (omega arith)

one_all : (A : Type 0) (R : A → Type 0) (x : A) → R x → All R (x ∷ [])
one_all A R x h zero d lt = h
one_all A R x h (suc i) d lt = absurd (omega arith)

with_signal_all : (R : SignalName → Type 0) (all : List SignalName) (s : SignalName) → All R all → R s → All R (with_signal all s)
with_signal_all R all s h k = go (list_any (same_signal s) all)
  where
    go : (b : Bool) → All R (if b then all else all ++ s ∷ [])
    go true = h
    go false = All-append R all (s ∷ []) h (one_all SignalName R s k)

folded_all : (R : SignalName → Type 0) (so_far all : List SignalName) → All R so_far → All R all → All R (fold with_signal so_far all)
folded_all R so_far [] h k = h
folded_all R so_far (s ∷ all) h k = folded_all R (with_signal so_far s) all (with_signal_all R so_far s h (all_head SignalName R s all k)) (all_tail SignalName R s all k)

pub once_all : (R : SignalName → Type 0) (all : List SignalName) → All R all → All R (once all)
once_all R all h = folded_all R [] all (All-nil R) h

-- ---- texts

abbrev are_characters : List ℕ → Bool
are_characters [] = true
are_characters (b ∷ all) = (nat_lt b 128 && not (nat_eq b 10)) && are_characters all

and_left : (a b : Bool) → (a && b) ≡ true → a ≡ true
and_left true b h = refl
and_left false b h = absurd (cc)

and_right : (a b : Bool) → (a && b) ≡ true → b ≡ true
and_right true b h = h
and_right false b h = absurd (cc)

one_character : (b : ℕ) → (nat_lt b 128 && not (nat_eq b 10)) ≡ true → (b < 128) × (b ≡ 10 → ⊥)
one_character b h = (below (and_left (nat_lt b 128) (not (nat_eq b 10)) h), other (and_right (nat_lt b 128) (not (nat_eq b 10)) h))
  where
    below : nat_lt b 128 ≡ true → b < 128
    below k = grind (arith, nat_tests)

    other : not (nat_eq b 10) ≡ true → b ≡ 10 → ⊥
    other k e = grind (arith, nat_tests)

cons_text : (b : ℕ) (all : List ℕ) → (b < 128) × (b ≡ 10 → ⊥) → IsText all → IsText (b ∷ all)
cons_text b all h k zero d lt = h
cons_text b all h k (suc i) d lt = k i d (omega arith)

text_from : (all : List ℕ) → are_characters all ≡ true → IsText all
text_from [] h = All-nil _
text_from (b ∷ all) h =
    cons_text b all (one_character b (and_left (nat_lt b 128 && not (nat_eq b 10)) (are_characters all) h)) (text_from all (and_right (nat_lt b 128 && not (nat_eq b 10)) (are_characters all) h))

content_is_text : (w : Setting) → HasTexts w → (x : LiteralValue) → IsText (content_text w.texts x)
content_is_text w h (content.Str x) = h x
content_is_text w h _ = All-nil _

pub literal_is_text : (w : Setting) → HasTexts w → (x : Option Literal) → IsText (text_or w.texts x)
literal_is_text w h (Some x) = content_is_text w h x.value
literal_is_text w h None = text_from (codes "Assertion violation.") refl

-- ---- statements

pub stands_as : (objects : Objects) (p : Process) (ps : List ℕ) (s : Statement) (layer : Layer) → roll-Statement layer ≡ s → IsAllowed objects p ps layer → MayStand objects p ps s
stands_as objects p ps s layer e h = subst (IsAllowed objects p ps) (sym (ap out-Statement (sym e) ∙ out-roll-Statement layer)) h

module _ (objects : Objects) (p : Process) (ps : List ℕ) (w : Setting) (scope : Scope) (holds : ScopeHolds (process_scope objects p) p.variables ps scope) where
  abbrev Room : Notes → Type 0
  Room = HasRoom (process_scope objects p)

  abbrev Stands : Statement → Type 0
  Stands = MayStand objects p ps

  down : (a b : Notes) → Grows a b → Room b → Room a
  down a b g k = room_before (process_scope objects p) a b g k

  -- ---- assignments

  assigned : (to : ℕ × Subtype) (at : IsTarget objects p ps to) → IsTrue (drives to.0 p) → (size : ℕ) → 0 < size → (made : Mechanism × List WaveElement)
      → HasLimit objects p ps made.0 × AreElements objects p ps at.signal.kind size made.1 → Stands (statement.SignalAssignment to.0 (range_part to.1.constraint) made.0 made.1)
  assigned to at driven size some made h =
      let count : length made.1 ≡ size = h.1.count in
      stands_as objects p ps (statement.SignalAssignment to.0 (range_part to.1.constraint) made.0 made.1) (Statement-F.SignalAssignment to.0 (range_part to.1.constraint) made.0 made.1)
      (rolls-SignalAssignment to.0 (range_part to.1.constraint) made.0 made.1)
      (record { signal = at.signal; signal_is = at.signal_is; driven = driven; subtype = at.range; limit = h.0; some = omega arith; elements = h.1.each })

  pub assignment_right : (to : Part (ℕ × Subtype)) (delay : Option DelayMechanism) (xs : List WaveformElement) (n : Notes) → OnKept (IsTarget objects p ps) to → IsDriven p to → 0 < length xs
      → Room (assignment w scope to delay xs n).0 → OnKept Stands (assignment w scope to delay xs n).1
  assignment_right (Kept to) delay xs n at driven some room =
      let m = mechanism w scope delay n in
      let elements = waveform w scope (Kept to) xs m.0 in
      let first : KeepsPart Mechanism Room (HasLimit objects p ps) n m = statement_parts_fit.mechanisms objects p ps w scope delay n holds.fits in
      let second : KeepsPart (List WaveElement) Room (AreElements objects p ps at.signal.kind (length xs)) m.0 elements =
      statement_parts_fit.waveforms objects p ps w scope to.0 to.1 at.signal.kind xs m.0 at.kind_is holds.fits in
      judged_kept (Mechanism × List WaveElement) Statement (λ (made : Mechanism × List WaveElement). HasLimit objects p ps made.0 × AreElements objects p ps at.signal.kind (length xs) made.1) Stands
      (assigning to) (assigned to at driven (length xs) some) (both paired m.1 elements.1)
      (both_kept Mechanism (List WaveElement) (Mechanism × List WaveElement) (HasLimit objects p ps) (AreElements objects p ps at.signal.kind (length xs))
      (λ (made : Mechanism × List WaveElement). HasLimit objects p ps made.0 × AreElements objects p ps at.signal.kind (length xs) made.1) paired (λ a b h g. (h, g)) m.1 elements.1
      (first.right (down m.0 elements.0 second.grows room)) (second.right room))
  assignment_right Wrong delay xs n at driven some room = never_kept _ _ Statement Stands assigning _
  assignment_right Hidden delay xs n at driven some room = tt

  -- ---- variables

  variable_set : (to : ℕ × Subtype) (x : Typed) → IsPlace objects p ps to → IsRead (process_scope objects p) (IsVisible p.variables ps) x → OnKept Stands (setting_variable to x)
  variable_set to x at h =
      where_kept Statement Stands (suits to.1 (value_of x)) (statement.VariableAssignment to.0 (range_part to.1.constraint) x.expr)
      (λ is.
      stands_as objects p ps (statement.VariableAssignment to.0 (range_part to.1.constraint) x.expr) (Statement-F.VariableAssignment to.0 (range_part to.1.constraint) x.expr)
      (rolls-VariableAssignment to.0 (range_part to.1.constraint) x.expr)
      (record { variable = at.variable; variable_is = at.variable_is; declared = at.declared; subtype = at.range; value = suits_kind objects p ps to.1 at.variable.kind x at.kind_is h is }))

  variable_right : (x : Name) (value : Expr) (n : Notes) → Room (variable_assignment w scope x value n).0 → OnKept Stands (variable_assignment w scope x value n).1
  variable_right x value n room =
      let found = found_thing x (lookup scope x.number) n in
      let v = typed w scope running value found.0 in
      let read : KeepsPart Typed Room (IsRead (process_scope objects p) (IsVisible p.variables ps)) found.0 v =
      typed_keeps (process_scope objects p) (IsVisible p.variables ps) w scope holds.fits running value found.0 in
      both_kept (ℕ × Subtype) Typed Statement (IsPlace objects p ps) (IsRead (process_scope objects p) (IsVisible p.variables ps)) Stands setting_variable variable_set
      (judged variable_of found.1) v.1 (place_kept objects p ps scope holds x n) (read.right room)

  -- ---- signals that are waited for

  abbrev IsName : SignalName → Type 0
  IsName = IsSignalName objects

  same_name : (s : SignalName) → Named (process_scope objects p) s → IsName s
  same_name (signal.Signal i) h = h
  same_name (signal.Threshold i) h = h
  same_name signal.Domain h = h

  names_on : (all : List SignalName) → All (Named (process_scope objects p)) all → All IsName all
  names_on [] h = All-nil IsName
  names_on (s ∷ all) h =
      cons_name s all (same_name s (all_head SignalName (Named (process_scope objects p)) s all h)) (names_on all (all_tail SignalName (Named (process_scope objects p)) s all h))
    where
      cons_name : (s : SignalName) (all : List SignalName) → IsName s → All IsName all → All IsName (s ∷ all)
      cons_name s all h g zero d lt = h
      cons_name s all h g (suc i) d lt = g i d (omega arith)

  pub read_names : (k : ValueType) (e : FlatExpr) → IsExpression objects p ps k e → All IsName (signals_in e)
  read_names k e h = names_on (signals_in e) (signals_are_named (process_scope objects p) e k h.typed)

  pub some_names : (x : Option FlatExpr) → MayBe objects p ps Boolean x → All IsName (signals_in_some x)
  some_names None h = All-nil IsName
  some_names (Some e) h = read_names Boolean e h

  signal_name : (i : ℕ) (k : Kind) → FitsKind (slice_get (process_scope objects p).signals i) k → IsName (signal.Signal i)
  signal_name i (Of k) h = (k, h)
  signal_name i Vector h = absurd h

  signal_right : (t : Thing) → FitsThing (process_scope objects p) (IsVisible p.variables ps) t → OnKept IsName (signal_of t)
  signal_right (thing.Signal i s a) h = signal_name i s.kind h
  signal_right thing.Domain h = (Enumeration 0, refl)
  signal_right _ h = tt

  threshold_placed : (h : Threshold) (n : Notes) → Room (watched h n) → number_of_threshold h n.thresholds < length objects.thresholds
  unfolding watched
  threshold_placed h n room = go (nat_le (length n.thresholds) threshold_limit) refl room
    where
      go : (b : Bool) → nat_le (length n.thresholds) threshold_limit ≡ b
          → Room (if b then record { faults = n.faults; dots = n.dots; thresholds = with_threshold h n.thresholds } else n) → number_of_threshold h n.thresholds < length objects.thresholds
      go true is room =
          let here : number_of_threshold h n.thresholds < length (with_threshold h n.thresholds) = member_placed (λ other. same_threshold other h) h n.thresholds in
          let le : length (with_threshold h n.thresholds) ≤ length objects.thresholds = room.thresholds in
          omega arith
      go false is room =
          let kept : nat_le (length n.thresholds) threshold_limit ≡ true = at_least (length n.thresholds) threshold_limit room.threshold_limit_kept in
          absurd (cc)

  threshold_right : (h : Part Threshold) (n : Notes) → Room (threshold_at h n).0 → OnKept IsName (threshold_at h n).1
  threshold_right (Kept h) n room = (Boolean, ap (λ (b : Bool). if_true b Boolean) (is_below (number_of_threshold h n.thresholds) (length objects.thresholds) (threshold_placed h n room)))
  threshold_right Wrong n room = tt
  threshold_right Hidden n room = tt

  never_both : (A B C : Type 0) (U : C → Type 0) (p : Part A) (q : Part B) → OnKept U (both wrong_both p q)
  never_both A B C U (Kept a) (Kept b) = tt
  never_both A B C U (Kept a) Wrong = tt
  never_both A B C U (Kept a) Hidden = tt
  never_both A B C U Wrong (Kept b) = tt
  never_both A B C U Wrong Wrong = tt
  never_both A B C U Wrong Hidden = tt
  never_both A B C U Hidden q = tt

  never_judged : (A C : Type 0) (U : C → Type 0) (p : Part A) → OnKept U (judged always_wrong p)
  never_judged A C U (Kept a) = tt
  never_judged A C U Wrong = tt
  never_judged A C U Hidden = tt

  never_named : (A : Type 0) (U : A → Type 0) (e : Expr-F Attribute Expr) (n : Notes) → OnKept U (wrong_name {A = A} w scope e n).1
  never_named A U (Expr-F.Name x) n = never_judged Thing A U (found_thing x (lookup scope x.number) n).1
  never_named A U (Expr-F.Call x all) n = never_both Thing _ A U (found_thing x (lookup scope x.number) n).1 _
  never_named A U (Expr-F.Attribute x a) n = never_both Thing _ A U (found_thing x (lookup scope x.number) n).1 _
  never_named A U _ n = tt

  attribute_right : (x : Name) (a : Attribute) (y : Attribute-F Attribute Expr) (n : Notes) → Room (watched_attribute w scope x a y n).0 → OnKept IsName (watched_attribute w scope x a y n).1
  attribute_right x a (Attribute-F.Above level) n room =
      let found = found_thing x (lookup scope x.number) n in
      let value = static_part w scope level found.0 in
      threshold_right (both level_at found.1 value.1) value.0 room
  attribute_right x a Attribute-F.Event n room = never_both Thing _ SignalName IsName (found_thing x (lookup scope x.number) n).1 _
  attribute_right x a Attribute-F.Dot n room = never_both Thing _ SignalName IsName (found_thing x (lookup scope x.number) n).1 _
  attribute_right x a Attribute-F.Reference n room = never_both Thing _ SignalName IsName (found_thing x (lookup scope x.number) n).1 _
  attribute_right x a (Attribute-F.Ramp rise fall) n room = never_both Thing _ SignalName IsName (found_thing x (lookup scope x.number) n).1 _

  name_right : (e : Expr) (y : Expr-F Attribute Expr) (n : Notes) → Room (watched_name w scope e y n).0 → OnKept IsName (watched_name w scope e y n).1
  name_right e (Expr-F.Name x) n room =
      judged_kept Thing SignalName (FitsThing (process_scope objects p) (IsVisible p.variables ps)) IsName signal_of signal_right (found_thing x (lookup scope x.number) n).1
      (found_kept x (lookup scope x.number) n (FitsThing (process_scope objects p) (IsVisible p.variables ps)) (holds.fits x.number))
  name_right e (Expr-F.Attribute x a) n room = attribute_right x a (out-Attribute a) n room
  name_right e (Expr-F.Number x unit) n room = never_named SignalName IsName (out-Expr e) n
  name_right e (Expr-F.Literal x) n room = never_named SignalName IsName (out-Expr e) n
  name_right e (Expr-F.Call x all) n room = never_named SignalName IsName (out-Expr e) n
  name_right e (Expr-F.Paren place x) n room = never_named SignalName IsName (out-Expr e) n
  name_right e (Expr-F.Unary op place x) n room = never_named SignalName IsName (out-Expr e) n
  name_right e (Expr-F.Binary op x y) n room = never_named SignalName IsName (out-Expr e) n

  every : (B : Type 0) (all : List B) → Every Room down B (λ (x : B). Unit {0}) all
  every B [] = tt
  every B (x ∷ more) = (tt, every B more)

  pub sensitivity_keeps : (names : List Expr) (n : Notes) → KeepsPart (List SignalName) Room (All IsName) n (sensitivity w scope names n)
  sensitivity_keeps names n =
      let read : KeepsPart (List SignalName) Room (AllOf Room down SignalName IsName (length names)) n _ =
      listed_keeps Room down SignalName Expr (λ (x : Expr). Unit {0}) IsName (watched_signal w scope)
      (λ x m asked. record { grows = grows_signal w scope x m; right = λ room. name_right x (out-Expr x) m room }) names n (every Expr names) in
      record {
        grows = grows_sensitivity w scope names n;
        right = λ room.
            judged_kept (List SignalName) (List SignalName) (AllOf Room down SignalName IsName (length names)) (All IsName) once_kept (λ all h. once_all IsName all h.each) _ (read.right room);
      }

  waited_names : (names : List Expr) (all : List SignalName) (x : Option FlatExpr) → All IsName all → MayBe objects p ps Boolean x → All IsName (waited_for names all x)
  waited_names [] all x h g = once_all IsName (signals_in_some x) (some_names x g)
  waited_names (name ∷ names) all x h g = h

  wait_right : (names : List Expr) (until time : Option Expr) (d : Draft) → Room (wait_statement w scope names until time d).0 → OnKept Stands (wait_statement w scope names until time d).1
  wait_right names until time d room =
      let all = sensitivity w scope names d.notes in
      let x = condition w scope until all.0 in
      let limit = may_be w scope running (Of Time) time x.0 in
      let first : KeepsPart (List SignalName) Room (All IsName) d.notes all = sensitivity_keeps names d.notes in
      let second : KeepsPart (Option FlatExpr) Room (MayBe objects p ps Boolean) all.0 x = process_parts_fit.conditions objects p ps w scope until all.0 holds.fits in
      let third : KeepsPart (Option FlatExpr) Room (MayBe objects p ps Time) x.0 limit = process_parts_fit.may objects p ps w scope running Time time x.0 holds.fits in
      let here : Room x.0 = down x.0 limit.0 third.grows room in
      both_kept (List SignalName) (Option FlatExpr × Option FlatExpr) Statement (All IsName) (λ (b : Option FlatExpr × Option FlatExpr). MayBe objects p ps Boolean b.0 × MayBe objects p ps Time b.1) Stands
      (waiting (length d.waits) names)
      (λ on behind h g.
      stands_as objects p ps (statement.Wait (length d.waits) (waited_for names on behind.0) behind.0 behind.1) (Statement-F.Wait (length d.waits) (waited_for names on behind.0) behind.0 behind.1)
      (rolls-Wait (length d.waits) (waited_for names on behind.0) behind.0 behind.1) (waited_names names on behind.0 h g.0, g.0, g.1))
      all.1 (both paired x.1 limit.1) (first.right (down all.0 x.0 second.grows here))
      (both_kept (Option FlatExpr) (Option FlatExpr) (Option FlatExpr × Option FlatExpr) (MayBe objects p ps Boolean) (MayBe objects p ps Time)
      (λ (b : Option FlatExpr × Option FlatExpr). MayBe objects p ps Boolean b.0 × MayBe objects p ps Time b.1) paired (λ a b h g. (h, g)) x.1 limit.1 (second.right here) (third.right room))

  -- ---- assertions and reports

  assertion_right : HasTexts w → (a : Assertion) (n : Notes) → Room (assertion w scope a n).0 → OnKept Stands (assertion w scope a n).1
  assertion_right texts a n room =
      let x : KeepsPart (FlatExpr × Severity) Room (HasCondition objects p ps) n (assertion_parts w scope a n) = statement_parts_fit.assertions objects p ps w scope a n holds.fits in
      judged_kept (FlatExpr × Severity) Statement (HasCondition objects p ps) Stands (asserted (text_or w.texts a.text))
      (λ e h.
      stands_as objects p ps (statement.Assert e.0 (text_or w.texts a.text) e.1) (Statement-F.Assert e.0 (text_or w.texts a.text) e.1) (rolls-Assert e.0 (text_or w.texts a.text) e.1)
      (h, literal_is_text w texts a.text))
      (assertion_parts w scope a n).1 (x.right room)

  -- ---- breaks

  abbrev IsQuantityAt : ℕ × ℕ → Type 0
  IsQuantityAt q = (q.0 < length objects.quantities) × (list_any (nat_eq q.1) w.selectors ≡ true → IsSelector objects q.0)

  module _ (selectors : SelectorsFit objects w scope) where
    quantity_right : (x : ℕ) (t : Thing) → FitsThing (process_scope objects p) (IsVisible p.variables ps) t → (list_any (nat_eq x) w.selectors ≡ true → IsSelectorAt objects t)
        → OnKept IsQuantityAt (named_quantity x t)
    quantity_right x (thing.Quantity q c) h g = (h, g)
    quantity_right x _ h g = tt

    both_rules : (x : ℕ) (o : Option Thing) → IfSome o (FitsThing (process_scope objects p) (IsVisible p.variables ps)) → (list_any (nat_eq x) w.selectors ≡ true → IfSome o (IsSelectorAt objects))
        → IfSome o (λ (t : Thing). FitsThing (process_scope objects p) (IsVisible p.variables ps) t × (list_any (nat_eq x) w.selectors ≡ true → IsSelectorAt objects t))
    both_rules x (Some t) h g = (h, g)
    both_rules x None h g = tt

    quantity_kept : (e : Expr-F Attribute Expr) (n : Notes) → OnKept IsQuantityAt (quantity_at w scope e n).1
    quantity_kept (Expr-F.Name x) n =
        let rules : Thing → Type 0 = λ (t : Thing). FitsThing (process_scope objects p) (IsVisible p.variables ps) t × (list_any (nat_eq x.number) w.selectors ≡ true → IsSelectorAt objects t) in
        judged_kept Thing (ℕ × ℕ) rules IsQuantityAt (named_quantity x.number) (λ t h. quantity_right x.number t h.0 h.1) (found_thing x (lookup scope x.number) n).1
        (found_kept x (lookup scope x.number) n rules (both_rules x.number (lookup scope x.number) (holds.fits x.number) (selectors x.number)))
    quantity_kept (Expr-F.Call x all) n = never_named (ℕ × ℕ) IsQuantityAt (Expr-F.Call x all) n
    quantity_kept (Expr-F.Attribute x a) n = never_named (ℕ × ℕ) IsQuantityAt (Expr-F.Attribute x a) n
    quantity_kept _ n = tt

    selector_kept : (x : Option Expr) (q : Part (ℕ × ℕ)) (n : Notes) → OnKept IsQuantityAt q → OnKept IsQuantityAt (selector_at w scope x q n).1
    selector_kept None q n h = h
    selector_kept (Some x) q n h = quantity_kept (out-Expr x) n

    element_keeps : (x : BreakElement) (n : Notes) → KeepsPart Broken Room (IsBreakElement objects p ps) n (break_element w scope x n)
    element_keeps x n =
        let q = quantity_at w scope (out-Expr x.quantity) n in
        let s = selector_at w scope x.selector q.1 q.0 in
        let value = must_be w scope running (Of Real) x.value s.0 in
        let read : KeepsPart FlatExpr Room (IsExpression objects p ps Real) s.0 value = process_parts_fit.must objects p ps w scope running Real x.value s.0 holds.fits in
        let at : OnKept IsQuantityAt q.1 = quantity_kept (out-Expr x.quantity) n in
        record {
          grows = grows_break_element w scope x n;
          right = λ room.
              both_kept (ℕ × ℕ) ((ℕ × ℕ) × FlatExpr) Broken IsQuantityAt (λ (b : (ℕ × ℕ) × FlatExpr). IsQuantityAt b.0 × IsExpression objects p ps Real b.1) (IsBreakElement objects p ps) (selecting w)
              (λ a b h g.
              where_kept Broken (IsBreakElement objects p ps) (list_any (nat_eq a.1) w.selectors) (record { selector = a.0; quantity = b.0.0; value = b.1 })
              (λ is. record { selector = h.1 is; quantity = g.0.0; value = g.1 }))
              s.1 (both setting q.1 value.1) (selector_kept x.selector q.1 q.0 at)
              (both_kept (ℕ × ℕ) FlatExpr ((ℕ × ℕ) × FlatExpr) IsQuantityAt (IsExpression objects p ps Real) (λ (b : (ℕ × ℕ) × FlatExpr). IsQuantityAt b.0 × IsExpression objects p ps Real b.1) setting
              (λ a b h g. (h, g)) q.1 value.1 at (read.right room));
        }

    pub elements_keep : (elements : List BreakElement) (n : Notes) → KeepsPart (List Broken) Room (All (IsBreakElement objects p ps)) n (break_elements w scope elements n)
    elements_keep elements n =
        let read : KeepsPart (List Broken) Room (AllOf Room down Broken (IsBreakElement objects p ps) (length elements)) n (break_elements w scope elements n) =
        listed_keeps Room down Broken BreakElement (λ (x : BreakElement). Unit {0}) (IsBreakElement objects p ps) (break_element w scope) (λ x m asked. element_keeps x m) elements n (every BreakElement elements) in
        record {
          grows = read.grows;
          right = λ room. kept_as (List Broken) (AllOf Room down Broken (IsBreakElement objects p ps) (length elements)) (All (IsBreakElement objects p ps)) (λ all h. h.each) _ (read.right room);
        }

    break_right : (elements : List BreakElement) (x : Option Expr) (n : Notes) → Room (break_statement w scope elements x n).0 → OnKept Stands (break_statement w scope elements x n).1
    break_right elements x n room =
        let all = break_elements w scope elements n in
        let c = condition w scope x all.0 in
        let first : KeepsPart (List Broken) Room (All (IsBreakElement objects p ps)) n all = elements_keep elements n in
        let second : KeepsPart (Option FlatExpr) Room (MayBe objects p ps Boolean) all.0 c = process_parts_fit.conditions objects p ps w scope x all.0 holds.fits in
        both_kept (List Broken) (Option FlatExpr) Statement (All (IsBreakElement objects p ps)) (MayBe objects p ps Boolean) Stands broken
        (λ es o h g. stands_as objects p ps (statement.Break es o) (Statement-F.Break es o) (rolls-Break es o) (h, g)) all.1 c.1 (first.right (down all.0 c.0 second.grows room)) (second.right room)

report_right : (objects : Objects) (p : Process) (ps : List ℕ) (w : Setting) (r : Report) → HasTexts w → OnKept (MayStand objects p ps) (report w r)
report_right objects p ps w r texts =
    judged_kept Severity Statement (λ (s : Severity). Unit {0}) (MayStand objects p ps) (reported (content_text w.texts r.text.value))
    (λ s h.
    stands_as objects p ps (statement.Report (content_text w.texts r.text.value) s) (Statement-F.Report (content_text w.texts r.text.value) s) (rolls-Report (content_text w.texts r.text.value) s)
    (content_is_text w texts r.text.value))
    (severity_or w.texts severity.Note r.severity) (any_part Severity (severity_or w.texts severity.Note r.severity))

pub simple_statements_are_allowed : SimpleStatementsAreAllowed
simple_statements_are_allowed = record {
  signals = λ objects p ps w scope x delay wave n some driven holds room.
      assignment_right objects p ps w scope holds (target scope x n).1 delay wave (target scope x n).0 (target_kept objects p ps scope holds x n) driven some room;
  variables = λ objects p ps w scope x value n holds room. variable_right objects p ps w scope holds x value n room;
  waits = λ objects p ps w scope names until time d holds room. wait_right objects p ps w scope holds names until time d room;
  assertions = λ objects p ps w scope a n texts holds room. assertion_right objects p ps w scope holds texts a n room;
  reports = λ objects p ps w r texts. report_right objects p ps w r texts;
  breaks = λ objects p ps w scope elements x n selectors holds room. break_right objects p ps w scope holds selectors elements x n room;
}
