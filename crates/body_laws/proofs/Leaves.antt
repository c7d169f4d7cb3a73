-- Statements that hold no others, at their places.
use Rattle.std.proofs.Common.{◌≡◌, ◌<◌, ℕ, inl, inr, ⊎_elim, Bool, true, false, if◌then◌else◌, List, [], ◌∷◌, ◌++◌, length, Option, Some, IsTrue, refl, ap, sym, ◌∙◌, subst}
use Rattle.std.specs.Prelude.{nat_eq}
use Rattle.std.specs.List.{slice_get, list_any}
use Rattle.ams_token.specs.declared.token.Place.{Place}
use Rattle.ams_tree.specs.declared.expression.Name.{Name}
use Rattle.ams_tree.specs.declared.expression.Expr.{Expr}
use Rattle.ams_tree.specs.declared.sequential.Assertion.{Assertion}
use Rattle.ams_tree.specs.declared.sequential.BreakElement.{BreakElement}
use Rattle.ams_tree.specs.declared.sequential.DelayMechanism.{DelayMechanism}
use Rattle.ams_tree.specs.declared.sequential.Report.{Report}
use Rattle.ams_tree.specs.declared.sequential.WaveformElement.{WaveformElement}
use Rattle.flat_expr.specs.declared.expr.FlatExpr.{FlatExpr}
use Rattle.flat_expr.specs.declared.expr.SignalName.{SignalName}
use Rattle.flat_expr.specs.declared.subtype.Constraint.{Constraint}
use Rattle.flat_expr.specs.declared.statement.BreakElement.{BreakElement as Broken}
use Rattle.flat_expr.specs.declared.statement.DelayMechanism.{DelayMechanism as Mechanism}
use Rattle.flat_expr.specs.declared.statement.Severity.{Severity}
use Rattle.flat_expr.specs.declared.statement.Severity.TheVariants as severity
use Rattle.flat_expr.specs.declared.statement.Statement.{Statement, out-Statement}
use Rattle.flat_expr.specs.declared.statement.Statement.TheVariants as statement
use Rattle.flat_expr.specs.declared.statement.Statement.TheVariants.{rolls-SignalAssignment, rolls-VariableAssignment, rolls-Exit, rolls-Next, rolls-Wait, rolls-Assert, rolls-Report, rolls-Break, rolls-Null}
use Rattle.flat_expr.specs.declared.statement.Statement.TheOpen.{Statement-F}
use Rattle.flat_expr.specs.declared.statement.Statement.TheViews.{out-roll-Statement, roll-Statement}
use Rattle.flat_expr.specs.declared.statement.WaveElement.{WaveElement}
use Rattle.flat_design.specs.declared.objects.Objects.{Objects}
use Rattle.flat_design.specs.declared.objects.PathStep.{PathStep}
use Rattle.flat_design.specs.declared.objects.Process.{Process}
use Rattle.flat_design.specs.declared.objects.Variable.{Variable}
use Rattle.flat_design.specs.declared.objects.WaitPlace.{WaitPlace}
use Rattle.name_scope.specs.declared.thing.Subtype.{Subtype}
use Rattle.name_scope.specs.declared.thing.Thing.{Thing}
use Rattle.name_scope.specs.declared.scope.Scope.{Scope}
use Rattle.name_scope.specs.Scopes.{lookup}
use Rattle.elab_meaning.specs.declared.fault.Notes.{Notes}
use Rattle.elab_meaning.specs.declared.part.Part.{Part}
use Rattle.elab_meaning.specs.declared.part.Part.TheVariants.{Kept, Wrong, Hidden}
use Rattle.elab_meaning.specs.declared.typed.Typed.{Typed}
use Rattle.elab_meaning.specs.Declarations.{range_part}
use Rattle.elab_meaning.specs.Parts.{judged, both, closed, found_thing}
use Rattle.elab_meaning.specs.Subtypes.{suits}
use Rattle.unit_meaning.specs.declared.draft.Draft.{Draft}
use Rattle.unit_meaning.specs.declared.draft.Spot.{Spot}
use Rattle.unit_meaning.specs.Settings.{Setting, running, value_of, typed, condition, may_be, paired, sealed}
use Rattle.unit_meaning.specs.Waveforms.{target, mechanism, waveform, assigning, assignment}
use Rattle.unit_meaning.specs.Bare.{sensitivity, break_elements}
use Rattle.unit_meaning.specs.Sequential.{with_driver, with_wait, driving, variable_of, setting_variable, variable_assignment, in_loop, leaving, waiting, waited_for, wait_statement, text_or, content_text, severity_or, assertion_parts, asserted, assertion, reported, report, broken, break_statement, simple, signal_statement}
use Rattle.cycle_meaning.specs.Task.{Layer}
use Rattle.design_rules.specs.Types.{process_scope}
use Rattle.design_rules.specs.Statements.{IsVariableAssignment, IsAllowed}
use Rattle.reading_laws.specs.Growing.{Extends}
use Rattle.typed_laws.specs.Fitting.{HasRoom}
use Rattle.typed_laws.proofs.Typing.{room_before}
use Rattle.part_laws.specs.Parts.{OnKept}
use Rattle.part_laws.proofs.Parts.{judged_kept, both_kept, where_kept}
use Rattle.statement_laws.specs.Statements.{MayStand}
use Rattle.statement_laws.proofs.Statements.{statement_parts_fit}
use Rattle.place_laws.specs.Places.{HoldsHere, Stands}
use Rattle.draft_laws.proofs.Notes.{grows_closed}
use Rattle.allowed_laws.specs.Simple.{HasTexts}
use Rattle.allowed_laws.proofs.Targets.{any_part, never_kept, IsTarget, target_kept}
use Rattle.allowed_laws.proofs.Simple.{assignment_right, simple_statements_are_allowed}
use Rattle.body_laws.specs.Bodies.{StandsIn, ScopeStands, AreParameters, StatementIs}
use Rattle.body_laws.proofs.Lists.{not_both, false_unless, any_on, end_at}
use Rattle.body_laws.proofs.Around.{new_driver, old_or_new_driver, parameters_on}

-- ---- parts

pub sealed_kept : (A : Type 0) (R : A → Type 0) (p : Part A) → OnKept R p → OnKept R (sealed p)
sealed_kept A R (Kept a) h = h
sealed_kept A R Wrong h = tt
sealed_kept A R Hidden h = tt

pub together : (A : Type 0) (R S U : A → Type 0) → ((a : A) → R a → S a → U a) → (p : Part A) → OnKept R p → OnKept S p → OnKept U p
together A R S U f (Kept a) h g = f a h g
together A R S U f Wrong h g = tt
together A R S U f Hidden h g = tt

pub opens_as : (s : Statement) (y : Layer) → roll-Statement y ≡ s → out-Statement s ≡ y
opens_as s y e = ap out-Statement (sym e) ∙ out-roll-Statement y

-- ---- statements without branches

-- any but a wait, and without statements inside
abbrev pub IsPlain : Layer → Type 0
IsPlain (Statement-F.If branches last) = ⊥
IsPlain (Statement-F.Case e all) = ⊥
IsPlain (Statement-F.Loop c body) = ⊥
IsPlain (Statement-F.For i left way right body) = ⊥
IsPlain (Statement-F.Wait number on c time) = ⊥
IsPlain layer = Unit {0}

abbrev pub IsPlainHere : Statement → Type 0
IsPlainHere s = IsPlain (out-Statement s)

module _ (objects : Objects) (p : Process) (steps : List PathStep) (ps : List ℕ) (k : ℕ) where
  not_assigned : (i : ℕ) (c : Constraint) (e : FlatExpr) → AreParameters p.variables ps → IsVariableAssignment objects p ps i c e → list_any (nat_eq i) ps ≡ false
  not_assigned i c e parameters h = false_unless (list_any (nat_eq i) ps) (λ any. clash (parameters i any))
    where
      same : {A : Type 0} {a b : A} → Some a ≡ Some b → a ≡ b
      same e = cc

      clash : (x : Variable) × (slice_get p.variables i ≡ Some x) × (x.is_parameter ≡ true) → ⊥
      clash x =
          let is : h.variable ≡ x.0 = same (sym h.variable_is ∙ x.1) in
          not_both x.0.is_parameter x.2 (subst (λ (v : Variable). v.is_parameter ≡ false) is h.declared)

  pub plain_holds : AreParameters p.variables ps → (y : Layer) → IsPlain y → IsAllowed objects p ps y → HoldsHere (Stands objects p) steps ps k y
  plain_holds parameters (Statement-F.SignalAssignment i c m wave) h allowed = (record { allowed = allowed; placed = tt; safe = tt; own = tt }, λ b is. absurd is)
  plain_holds parameters (Statement-F.VariableAssignment i c e) h allowed =
      (record { allowed = allowed; placed = tt; safe = not_assigned i c e parameters allowed; own = tt }, λ b is. absurd is)
  plain_holds parameters (Statement-F.If branches last) h allowed = absurd h
  plain_holds parameters (Statement-F.Case e all) h allowed = absurd h
  plain_holds parameters (Statement-F.Loop c body) h allowed = absurd h
  plain_holds parameters (Statement-F.For i left way right body) h allowed = absurd h
  plain_holds parameters (Statement-F.Exit c) h allowed = (record { allowed = allowed; placed = tt; safe = tt; own = tt }, λ b is. absurd is)
  plain_holds parameters (Statement-F.Next c) h allowed = (record { allowed = allowed; placed = tt; safe = tt; own = tt }, λ b is. absurd is)
  plain_holds parameters (Statement-F.Wait number on c time) h allowed = absurd h
  plain_holds parameters (Statement-F.Assert e text s) h allowed = (record { allowed = allowed; placed = tt; safe = tt; own = tt }, λ b is. absurd is)
  plain_holds parameters (Statement-F.Report text s) h allowed = (record { allowed = allowed; placed = tt; safe = tt; own = tt }, λ b is. absurd is)
  plain_holds parameters (Statement-F.Break elements c) h allowed = (record { allowed = allowed; placed = tt; safe = tt; own = tt }, λ b is. absurd is)
  plain_holds parameters Statement-F.Null h allowed = (record { allowed = allowed; placed = tt; safe = tt; own = tt }, λ b is. absurd is)

-- ---- of what they are made

plain_as : (s : Statement) (y : Layer) → roll-Statement y ≡ s → IsPlain y → IsPlainHere s
plain_as s y e h = subst IsPlain (sym (opens_as s y e)) h

plain_leaving : (w : Setting) (scope : Scope) (spot : Spot) (make : Option FlatExpr → Statement) → ((x : Option FlatExpr) → IsPlainHere (make x)) → (x : Option Expr) (n : Notes)
    → OnKept IsPlainHere (leaving w scope spot make x n).1
plain_leaving w scope spot make plain x n =
    judged_kept (Option FlatExpr) Statement (λ (o : Option FlatExpr). Unit {0}) IsPlainHere (in_loop spot make) (λ o h. where_kept Statement IsPlainHere spot.is_in_loop (make o) (λ is. plain o))
    (condition w scope x n).1 (any_part (Option FlatExpr) (condition w scope x n).1)

plain_assertion : (w : Setting) (scope : Scope) (a : Assertion) (n : Notes) → OnKept IsPlainHere (assertion w scope a n).1
plain_assertion w scope a n =
    judged_kept (FlatExpr × Severity) Statement (λ (x : FlatExpr × Severity). Unit {0}) IsPlainHere (asserted (text_or w.texts a.text))
    (λ x h. plain_as _ (Statement-F.Assert x.0 (text_or w.texts a.text) x.1) (rolls-Assert x.0 (text_or w.texts a.text) x.1) tt) (assertion_parts w scope a n).1
    (any_part (FlatExpr × Severity) (assertion_parts w scope a n).1)

plain_report : (w : Setting) (r : Report) → OnKept IsPlainHere (report w r)
plain_report w r =
    judged_kept Severity Statement (λ (x : Severity). Unit {0}) IsPlainHere (reported (content_text w.texts r.text.value))
    (λ x h. plain_as _ (Statement-F.Report (content_text w.texts r.text.value) x) (rolls-Report (content_text w.texts r.text.value) x) tt) (severity_or w.texts severity.Note r.severity)
    (any_part Severity (severity_or w.texts severity.Note r.severity))

plain_break : (w : Setting) (scope : Scope) (elements : List BreakElement) (x : Option Expr) (n : Notes) → OnKept IsPlainHere (break_statement w scope elements x n).1
plain_break w scope elements x n =
    let all = break_elements w scope elements n in
    let c = condition w scope x all.0 in
    both_kept (List Broken) (Option FlatExpr) Statement (λ (a : List Broken). Unit {0}) (λ (o : Option FlatExpr). Unit {0}) IsPlainHere broken
    (λ a o h g. plain_as _ (Statement-F.Break a o) (rolls-Break a o) tt) all.1 c.1 (any_part (List Broken) all.1) (any_part (Option FlatExpr) c.1)

plain_variable : (w : Setting) (scope : Scope) (x : Name) (value : Expr) (n : Notes) → OnKept IsPlainHere (variable_assignment w scope x value n).1
plain_variable w scope x value n =
    let found = found_thing x (lookup scope x.number) n in
    let v = typed w scope running value found.0 in
    both_kept (ℕ × Subtype) Typed Statement (λ (a : ℕ × Subtype). Unit {0}) (λ (o : Typed). Unit {0}) IsPlainHere setting_variable
    (λ to o h g.
    where_kept Statement IsPlainHere (suits to.1 (value_of o)) (statement.VariableAssignment to.0 (range_part to.1.constraint) o.expr)
    (λ is. plain_as _ (Statement-F.VariableAssignment to.0 (range_part to.1.constraint) o.expr) (rolls-VariableAssignment to.0 (range_part to.1.constraint) o.expr) tt))
    (judged variable_of found.1) v.1 (any_part (ℕ × Subtype) (judged variable_of found.1)) (any_part Typed v.1)

-- an assignment of this signal
abbrev pub IsAssignmentOf : ℕ → Statement → Type 0
IsAssignmentOf i s = (c : Constraint) × (m : Mechanism) × (wave : List WaveElement) × (out-Statement s ≡ Statement-F.SignalAssignment i c m wave)

assigns_it : (w : Setting) (scope : Scope) (to : ℕ × Subtype) (delay : Option DelayMechanism) (xs : List WaveformElement) (n : Notes) → OnKept (IsAssignmentOf to.0) (assignment w scope (Kept to) delay xs n).1
assigns_it w scope to delay xs n =
    let m = mechanism w scope delay n in
    let elements = waveform w scope (Kept to) xs m.0 in
    judged_kept (Mechanism × List WaveElement) Statement (λ (x : Mechanism × List WaveElement). Unit {0}) (IsAssignmentOf to.0) (assigning to)
    (λ made h. (
      range_part to.1.constraint,
      made.0,
      made.1,
      opens_as _ (Statement-F.SignalAssignment to.0 (range_part to.1.constraint) made.0 made.1) (rolls-SignalAssignment to.0 (range_part to.1.constraint) made.0 made.1),
    ))
    (both paired m.1 elements.1) (any_part (Mechanism × List WaveElement) (both paired m.1 elements.1))

-- ---- at their places

module _ (objects : Objects) (p : Process) (w : Setting) (Also : Thing → Bool) (scope : Scope) (spot : Spot) (i : ℕ) (around : ScopeStands objects p spot.parameters w Also scope) where
  abbrev May : Statement → Type 0
  May = MayStand objects p spot.parameters

  pub plain_is : (before : List ℕ) → AreParameters p.variables spot.parameters → (s : Statement) → IsPlainHere s → May s → StatementIs objects p spot i before before s
  plain_is before parameters s plain may =
      record { places = plain_holds objects p spot.path spot.parameters i parameters (out-Statement s) plain may; drivers = λ j h. inl h }

  -- a statement that adds to the notes alone
  pub leaf_is : (place : Place) (d : Draft) (found : Notes × Part Statement) → AreParameters d.variables spot.parameters
      → (HasRoom (process_scope objects p) found.0 → OnKept May found.1) → OnKept IsPlainHere found.1
      → StandsIn objects p (simple place d found).0 → OnKept (StatementIs objects p spot i d.drivers (simple place d found).0.drivers) (simple place d found).1
  leaf_is place d found parameters may plain stands =
      let room : HasRoom (process_scope objects p) found.0 = room_before (process_scope objects p) found.0 (closed place found.1 found.0) (grows_closed Statement place found.1 found.0) stands.room in
      sealed_kept Statement (StatementIs objects p spot i d.drivers d.drivers) found.1
      (together Statement May IsPlainHere (StatementIs objects p spot i d.drivers d.drivers)
      (λ s m h. plain_is d.drivers (parameters_on d.variables p.variables spot.parameters stands.variables parameters) s h m) found.1 (may room) plain)

  pub variable_is : (place : Place) (x : Name) (value : Expr) (d : Draft) → AreParameters d.variables spot.parameters
      → StandsIn objects p (simple place d (variable_assignment w scope x value d.notes)).0
      → OnKept (StatementIs objects p spot i d.drivers d.drivers) (simple place d (variable_assignment w scope x value d.notes)).1
  variable_is place x value d parameters stands =
      leaf_is place d (variable_assignment w scope x value d.notes) parameters (simple_statements_are_allowed.variables objects p spot.parameters w scope x value d.notes around.holds)
      (plain_variable w scope x value d.notes) stands

  pub exit_is : (place : Place) (x : Option Expr) (d : Draft) → AreParameters d.variables spot.parameters
      → StandsIn objects p (simple place d (leaving w scope spot statement.Exit x d.notes)).0
      → OnKept (StatementIs objects p spot i d.drivers d.drivers) (simple place d (leaving w scope spot statement.Exit x d.notes)).1
  exit_is place x d parameters stands =
      leaf_is place d (leaving w scope spot statement.Exit x d.notes) parameters (statement_parts_fit.exits objects p spot.parameters w scope spot x d.notes around.holds.fits).right
      (plain_leaving w scope spot statement.Exit (λ o. plain_as _ (Statement-F.Exit o) (rolls-Exit o) tt) x d.notes) stands

  pub next_is : (place : Place) (x : Option Expr) (d : Draft) → AreParameters d.variables spot.parameters
      → StandsIn objects p (simple place d (leaving w scope spot statement.Next x d.notes)).0
      → OnKept (StatementIs objects p spot i d.drivers d.drivers) (simple place d (leaving w scope spot statement.Next x d.notes)).1
  next_is place x d parameters stands =
      leaf_is place d (leaving w scope spot statement.Next x d.notes) parameters (statement_parts_fit.nexts objects p spot.parameters w scope spot x d.notes around.holds.fits).right
      (plain_leaving w scope spot statement.Next (λ o. plain_as _ (Statement-F.Next o) (rolls-Next o) tt) x d.notes) stands

  pub assertion_is : HasTexts w → (a : Assertion) (d : Draft) → AreParameters d.variables spot.parameters
      → StandsIn objects p (simple a.place d (assertion w scope a d.notes)).0 → OnKept (StatementIs objects p spot i d.drivers d.drivers) (simple a.place d (assertion w scope a d.notes)).1
  assertion_is texts a d parameters stands =
      leaf_is a.place d (assertion w scope a d.notes) parameters (simple_statements_are_allowed.assertions objects p spot.parameters w scope a d.notes texts around.holds)
      (plain_assertion w scope a d.notes) stands

  pub report_is : HasTexts w → (place : Place) (r : Report) (d : Draft) → AreParameters d.variables spot.parameters
      → StandsIn objects p (simple place d (d.notes, report w r)).0 → OnKept (StatementIs objects p spot i d.drivers d.drivers) (simple place d (d.notes, report w r)).1
  report_is texts place r d parameters stands =
      leaf_is place d (d.notes, report w r) parameters (λ room. simple_statements_are_allowed.reports objects p spot.parameters w r texts) (plain_report w r) stands

  pub break_is : (place : Place) (elements : List BreakElement) (x : Option Expr) (d : Draft) → AreParameters d.variables spot.parameters
      → StandsIn objects p (simple place d (break_statement w scope elements x d.notes)).0
      → OnKept (StatementIs objects p spot i d.drivers d.drivers) (simple place d (break_statement w scope elements x d.notes)).1
  break_is place elements x d parameters stands =
      leaf_is place d (break_statement w scope elements x d.notes) parameters (simple_statements_are_allowed.breaks objects p spot.parameters w scope elements x d.notes around.selectors around.holds)
      (plain_break w scope elements x d.notes) stands

  pub null_is : (d : Draft) → AreParameters d.variables spot.parameters → StandsIn objects p d → StatementIs objects p spot i d.drivers d.drivers statement.Null
  null_is d parameters stands =
      plain_is d.drivers (parameters_on d.variables p.variables spot.parameters stands.variables parameters) statement.Null (plain_as statement.Null Statement-F.Null rolls-Null tt)
      (subst (IsAllowed objects p spot.parameters) (sym (opens_as statement.Null Statement-F.Null rolls-Null)) tt)

  -- ---- signals

  signal_kept : (to : Part (ℕ × Subtype)) (place : Place) (delay : Option DelayMechanism) (wave : List WaveformElement) (n : Notes) (d : Draft) → OnKept (IsTarget objects p spot.parameters) to → 0 < length wave
      → AreParameters d.variables spot.parameters → StandsIn objects p (simple place (driving to d) (assignment w scope to delay wave n)).0
      → OnKept (StatementIs objects p spot i d.drivers (driving to d).drivers) (assignment w scope to delay wave n).1
  signal_kept (Kept to) place delay wave n d at some parameters stands =
      let found = assignment w scope (Kept to) delay wave n in
      let room : HasRoom (process_scope objects p) found.0 = room_before (process_scope objects p) found.0 (closed place found.1 found.0) (grows_closed Statement place found.1 found.0) stands.room in
      let driven : IsTrue (list_any (nat_eq to.0) p.drivers) = any_on to.0 (with_driver to.0 d).drivers p.drivers stands.drivers (new_driver to.0 d) in
      let variables : Extends Variable (with_driver to.0 d).variables p.variables = stands.variables in
      together Statement May (IsAssignmentOf to.0) (StatementIs objects p spot i d.drivers (with_driver to.0 d).drivers)
      (λ s may is. signal_made to s may is variables) found.1
      (assignment_right objects p spot.parameters w scope around.holds (Kept to) delay wave n at driven some room) (assigns_it w scope to delay wave n)
    where
      same_variables : (to : ℕ × Subtype) → (with_driver to.0 d).variables ≡ d.variables
      same_variables to = go (list_any (nat_eq to.0) d.drivers)
        where
          go : (b : Bool) → (if b then d else record d { drivers = d.drivers ++ to.0 ∷ [] }).variables ≡ d.variables
          go true = refl
          go false = refl

      signal_made : (to : ℕ × Subtype) (s : Statement) → May s → IsAssignmentOf to.0 s → Extends Variable (with_driver to.0 d).variables p.variables → StatementIs objects p spot i d.drivers (with_driver to.0 d).drivers s
      signal_made to s may is variables =
          record {
            places =
                plain_holds objects p spot.path spot.parameters i
                (parameters_on d.variables p.variables spot.parameters (subst (λ (l : List Variable). Extends Variable l p.variables) (same_variables to) variables) parameters) (out-Statement s)
                (subst IsPlain (sym is.3) tt) may;
            drivers = λ j h. ⊎_elim (λ old. inl old) (λ new. inr (inl (is.0, is.1, is.2, is.3 ∙ ap (λ (z : ℕ). Statement-F.SignalAssignment z is.0 is.1 is.2) (sym new)))) (old_or_new_driver to.0 j d h);
          }
  signal_kept Wrong place delay wave n d at some parameters stands = never_kept _ _ Statement (StatementIs objects p spot i d.drivers d.drivers) assigning _
  signal_kept Hidden place delay wave n d at some parameters stands = tt

  pub signal_is : (x : Name) (delay : Option DelayMechanism) (wave : List WaveformElement) (d : Draft) → 0 < length wave → AreParameters d.variables spot.parameters
      → StandsIn objects p (signal_statement w x delay wave scope spot i d).0
      → OnKept (StatementIs objects p spot i d.drivers (signal_statement w x delay wave scope spot i d).0.drivers) (signal_statement w x delay wave scope spot i d).1
  signal_is x delay wave d some parameters stands =
      let to = target scope x d.notes in
      sealed_kept Statement (StatementIs objects p spot i d.drivers (driving to.1 d).drivers) (assignment w scope to.1 delay wave to.0).1
      (signal_kept to.1 x.place delay wave to.0 d (target_kept objects p spot.parameters scope around.holds x d.notes) some parameters stands)

  -- ---- waits

  abbrev IsWait : ℕ → Statement → Type 0
  IsWait number s = (on : List SignalName) × (c : Option FlatExpr) × (time : Option FlatExpr) × (out-Statement s ≡ Statement-F.Wait number on c time)

  waits_so : (names : List Expr) (until time : Option Expr) (d : Draft) → OnKept (IsWait (length d.waits)) (wait_statement w scope names until time d).1
  waits_so names until time d =
      let all = sensitivity w scope names d.notes in
      let x = condition w scope until all.0 in
      let behind = both paired x.1 (may_be w scope running _ time x.0).1 in
      both_kept (List SignalName) (Option FlatExpr × Option FlatExpr) Statement (λ (a : List SignalName). Unit {0}) (λ (o : Option FlatExpr × Option FlatExpr). Unit {0}) (IsWait (length d.waits))
      (waiting (length d.waits) names)
      (λ on o h g. (
        waited_for names on o.0,
        o.0,
        o.1,
        opens_as _ (Statement-F.Wait (length d.waits) (waited_for names on o.0) o.0 o.1) (rolls-Wait (length d.waits) (waited_for names on o.0) o.0 o.1),
      ))
      all.1 behind (any_part (List SignalName) all.1) (any_part (Option FlatExpr × Option FlatExpr) behind)

  wait_made : (d : Draft) (s : Statement) → Extends WaitPlace (with_wait spot i d).waits p.waits → May s → IsWait (length d.waits) s → StatementIs objects p spot i d.drivers d.drivers s
  wait_made d s waits may is =
      record {
        places =
            subst (HoldsHere (Stands objects p) spot.path spot.parameters i) (sym is.3)
            (record { allowed = subst (IsAllowed objects p spot.parameters) is.3 may; placed = end_at WaitPlace d.waits p.waits _ waits; safe = tt; own = tt }, λ b h. absurd h);
        drivers = λ j h. inl h;
      }

  pub wait_is : (place : Place) (names : List Expr) (until time : Option Expr) (d : Draft)
      → StandsIn objects p (simple place (with_wait spot i d) (wait_statement w scope names until time d)).0
      → OnKept (StatementIs objects p spot i d.drivers d.drivers) (simple place (with_wait spot i d) (wait_statement w scope names until time d)).1
  wait_is place names until time d stands =
      let found = wait_statement w scope names until time d in
      let room : HasRoom (process_scope objects p) found.0 = room_before (process_scope objects p) found.0 (closed place found.1 found.0) (grows_closed Statement place found.1 found.0) stands.room in
      sealed_kept Statement (StatementIs objects p spot i d.drivers d.drivers) found.1
      (together Statement May (IsWait (length d.waits)) (StatementIs objects p spot i d.drivers d.drivers) (λ s may is. wait_made d s stands.waits may is) found.1
      (simple_statements_are_allowed.waits objects p spot.parameters w scope names until time d around.holds room) (waits_so names until time d))
