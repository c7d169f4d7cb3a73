-- Processes (IEEE 1076, 11.3), and the processes that concurrent assignments, assertions and breaks stand for (11.5, 11.6; IEEE 1076.1, 11).
use Rattle.std.specs.Prelude.{ℕ, nat_eq, Bool, true, false, not, if◌then◌else◌, List, [], ◌∷◌, ◌++◌, length, map, Option, Some, None}
use Rattle.std.specs.List.{fold, flat_map}
use Rattle.ams_token.specs.declared.token.Place.{Place}
use Rattle.ams_tree.specs.declared.expression.Name.{Name}
use Rattle.ams_tree.specs.declared.expression.Expr.{Expr}
use Rattle.ams_tree.specs.declared.declaration.ProcessDeclaration.{ProcessDeclaration}
use Rattle.ams_tree.specs.declared.declaration.ProcessDeclaration.TheVariants as declare
use Rattle.ams_tree.specs.declared.sequential.Assertion.{Assertion}
use Rattle.ams_tree.specs.declared.sequential.BreakElement.{BreakElement}
use Rattle.ams_tree.specs.declared.sequential.DelayMechanism.{DelayMechanism}
use Rattle.ams_tree.specs.declared.sequential.WaveformElement.{WaveformElement}
use Rattle.ams_tree.specs.declared.concurrent.ConditionalWaveform.{ConditionalWaveform}
use Rattle.ams_tree.specs.declared.concurrent.Process.{Process as Written}
use Rattle.ams_value.specs.declared.value_type.ValueType.TheVariants as t
use Rattle.flat_expr.specs.declared.expr.FlatExpr.{FlatExpr}
use Rattle.flat_expr.specs.declared.expr.SignalName.{SignalName}
use Rattle.flat_expr.specs.declared.statement.Branch.{Branch}
use Rattle.flat_expr.specs.declared.statement.BreakElement.{BreakElement as Broken}
use Rattle.flat_expr.specs.declared.statement.WaveElement.{WaveElement}
use Rattle.flat_expr.specs.declared.statement.DelayMechanism.{DelayMechanism as Mechanism}
use Rattle.flat_expr.specs.declared.statement.Severity.{Severity}
use Rattle.flat_expr.specs.declared.statement.Statement.{Statement}
use Rattle.flat_expr.specs.declared.statement.Statement.TheVariants as statement
use Rattle.flat_design.specs.declared.objects.Process.{Process}
use Rattle.flat_design.specs.declared.objects.WaitPlace.{WaitPlace}
use Rattle.name_scope.specs.declared.thing.Kind.TheVariants.{Of}
use Rattle.name_scope.specs.declared.thing.Subtype.{Subtype}
use Rattle.name_scope.specs.declared.thing.Thing.{Thing}
use Rattle.name_scope.specs.declared.thing.Thing.TheVariants as thing
use Rattle.name_scope.specs.declared.scope.Scope.{Scope}
use Rattle.name_scope.specs.Scopes.{declared_in, inside, with_name}
use Rattle.elab_meaning.specs.declared.fault.Cause.TheVariants.{WrongType}
use Rattle.elab_meaning.specs.declared.fault.Notes.{Notes}
use Rattle.elab_meaning.specs.declared.part.Part.{Part}
use Rattle.elab_meaning.specs.declared.part.Part.TheVariants.{Kept, Wrong, Hidden}
use Rattle.elab_meaning.specs.declared.typed.Valued.{Valued}
use Rattle.elab_meaning.specs.Notes.{noted, text_of}
use Rattle.elab_meaning.specs.Kinds.{value_type}
use Rattle.elab_meaning.specs.Parts.{judged, both, closed}
use Rattle.elab_meaning.specs.Subtypes.{valued}
use Rattle.elab_meaning.specs.Declarations.{duplicate, constant_of, range_part, value_or_leftmost}
use Rattle.unit_meaning.specs.declared.draft.Draft.{Draft}
use Rattle.unit_meaning.specs.declared.draft.Spot.{Spot}
use Rattle.unit_meaning.specs.Settings.{Setting, running, must_be, condition, listed, paired, sealed, ahead, finished}
use Rattle.unit_meaning.specs.Waveforms.{target, mechanism, waveform, assigning}
use Rattle.unit_meaning.specs.Bare.{sensitivity, signals_in, signals_in_some, once, break_elements}
use Rattle.unit_meaning.specs.Cases.{beside}
use Rattle.unit_meaning.specs.Sequential.{with_notes, with_driver, statement_of, body, assertion_parts, text_or}

abbrev pub no_draft : Notes → Draft
no_draft n = record { notes = n; variables = []; drivers = []; waits = [] }

abbrev pub top_spot : Spot
top_spot = record { path = []; parameters = []; is_in_loop = false }

-- ---- declarations of a process

-- a region of names, a draft, and whether all declarations keep the rules
pub record Declared : Type 0 where
  pub scope : Scope
  pub draft : Draft
  pub fine : Part Bool

abbrev pub named : Thing → Name → Declared → Declared
named t x s =
    record s { scope = with_name s.scope x.number t; draft = with_notes (duplicate x (declared_in s.scope.inner x.number) s.draft.notes) s.draft }

abbrev pub with_variable : List (List ℕ) → Valued → Name → Draft → Draft
with_variable texts v x d =
    record d {
      variables =
          d.variables
          ++ record {
            name = text_of texts x.number;
            kind = value_type v.subtype.kind;
            constraint = range_part v.subtype.constraint;
            initial = value_or_leftmost v.subtype v.value;
            is_parameter = false;
          } ∷ [];
    }

abbrev pub variable : List (List ℕ) → Valued → Declared → Name → Declared
variable texts v s x = named (thing.Variable (length s.draft.variables) v.subtype) x (record s { draft = with_variable texts v x s.draft })

abbrev pub constant : Valued → Declared → Name → Declared
constant v s x = named (constant_of v) x s

abbrev pub faulty : Declared → Name → Declared
faulty s x = named thing.Faulty x s

abbrev pub each_of : (Valued → Declared → Name → Declared) → Part Valued → List Name → Declared → Declared
each_of rule (Kept v) names s = fold (rule v) s names
each_of rule _ names s = fold faulty s names

abbrev pub fine_of : {A : Type 0} → A → Part Bool
fine_of a = Kept true

-- the names of a declaration at this place
abbrev pub declaring_each : (Valued → Declared → Name → Declared) → Place → List Name → Notes × Part Valued → Declared → Declared
declaring_each rule place names found s =
    each_of rule found.1 names
    (record s { draft = with_notes (closed place found.1 found.0) s.draft; fine = beside s.fine (sealed (judged fine_of found.1)) })

abbrev pub process_declaration : List (List ℕ) → Declared → ProcessDeclaration → Declared
process_declaration texts s (declare.Variable place names i x) = declaring_each (variable texts) place names (valued texts s.scope i x s.draft.notes) s
process_declaration texts s (declare.Constant place names i x) = declaring_each constant place names (valued texts s.scope i (Some x) s.draft.notes) s

-- ---- processes

abbrev pub final_wait : Draft → List Statement → List SignalName → List Statement
final_wait d all signals = all ++ statement.Wait (length d.waits) signals None None ∷ []

abbrev pub last_place : List Statement → WaitPlace
last_place all = record { path = record { statement = length all; branch = 0 } ∷ []; parameters = [] }

-- a process with a last wait for these signals
abbrev pub ending : Draft → List SignalName → List Statement → Process
ending d signals all =
    record { variables = d.variables; statements = final_wait d all signals; drivers = d.drivers; waits = d.waits ++ last_place all ∷ [] }

abbrev pub endless : Draft → List Statement → Process
endless d all = record { variables = d.variables; statements = all; drivers = d.drivers; waits = d.waits }

-- without a sensitivity list there is no last wait
abbrev pub listened : Setting → Scope → Option (List Expr) → Notes → Notes × Part (Option (List SignalName))
listened w scope None n = (n, Kept None)
listened w scope (Some names) n =
    let all = sensitivity w scope names n in
    (all.0, judged to_some all.1)
  where
    to_some : List SignalName → Part (Option (List SignalName))
    to_some all = Kept (Some all)

abbrev pub made_process : Draft → Option (List SignalName) → List Statement → Part Process
made_process d (Some signals) all = Kept (ending d signals all)
made_process d None all = Kept (endless d all)

-- behind `end process` stands the label, if a name does
abbrev pub end_name : Option Name → Option Name → Notes → Notes
end_name label None n = n
end_name None (Some x) n = noted x.place WrongType n
end_name (Some l) (Some x) n = if nat_eq l.number x.number then n else noted x.place WrongType n

abbrev pub process : Setting → Scope → Option Name → Written → Notes → Notes × Part Process
process w scope label p n =
    let signals = listened w (inside scope) p.sensitivity n in
    let names = fold (process_declaration w.texts) (record { scope = inside scope; draft = no_draft signals.0; fine = Kept true }) p.declarations in
    let all = body (map (statement_of w) p.body) names.scope top_spot 0 names.draft in
    let made = beside names.fine (both (made_process all.0) signals.1 all.1) in
    let whole = finished p.place (all.0.notes, made) in
    (end_name label p.end whole.0, whole.1)

-- ---- concurrent assignments

-- one waveform with its condition: the assignment, and the signals of its values and its condition
pub record Wave : Type 0 where
  pub assigns : Statement
  pub when : Option FlatExpr
  pub reads : List SignalName

abbrev pub value_signals : List WaveElement → List SignalName
value_signals all = flat_map (λ (x : WaveElement). signals_in x.value) all

abbrev pub made_wave : ℕ × Subtype → (Mechanism × List WaveElement) × Option FlatExpr → Part Wave
made_wave to behind = judged (waving behind) (assigning to behind.0)
  where
    waving : (Mechanism × List WaveElement) × Option FlatExpr → Statement → Part Wave
    waving behind s = Kept (record { assigns = s; when = behind.1; reads = value_signals behind.0.1 ++ signals_in_some behind.1 })

-- each waveform has the delay mechanism of the statement
abbrev pub wave : Setting → Scope → Part (ℕ × Subtype) → Option DelayMechanism → List WaveformElement → Option Expr → Notes → Notes × Part Wave
wave w scope to delay xs when n =
    let m = mechanism w scope delay n in
    let elements = waveform w scope to xs m.0 in
    let c = condition w scope when elements.0 in
    (c.0, both made_wave to (both paired (both paired m.1 elements.1) c.1))

abbrev pub conditional : Setting → Scope → Part (ℕ × Subtype) → Option DelayMechanism → ConditionalWaveform → Notes → Notes × Part Wave
conditional w scope to delay x n = wave w scope to delay x.elements (Some x.condition) n

-- the waveforms with conditions are the branches of an if, and one without a condition is its else
abbrev pub branch_of : Wave → FlatExpr → Branch
branch_of x c = record { condition = c; body = x.assigns ∷ [] }

abbrev pub choosing : List Branch → List Wave → Statement
choosing so_far [] = statement.If so_far []
choosing so_far (x ∷ more) = elim x.when as (λ o. Statement) [ Some c ↦ choosing (so_far ++ branch_of x c ∷ []) more | None ↦ statement.If so_far (x.assigns ∷ []) ]

abbrev pub assigning_one : List Wave → Option Statement
assigning_one (x ∷ []) = elim x.when as (λ o. Option Statement) [ Some c ↦ None | None ↦ Some x.assigns ]
assigning_one _ = None

-- a single waveform without a condition is just assigned
abbrev pub equivalent : List Wave → Statement
equivalent all = elim (assigning_one all) as (λ o. Statement) [ Some s ↦ s | None ↦ choosing [] all ]

abbrev pub assigning_process : ℕ × Subtype → List Wave → Part Process
assigning_process to all = Kept (ending (with_driver to.0 (no_draft no_notes)) (once (flat_map (λ (x : Wave). x.reads) all)) (equivalent all ∷ []))
  where
    no_notes : Notes
    no_notes = record { faults = []; dots = []; thresholds = [] }

abbrev pub concurrent_assignment : Setting → Scope → Name → Option DelayMechanism → List ConditionalWaveform → List WaveformElement → Option Expr → Notes → Notes × Part Process
concurrent_assignment w scope x delay all last when n =
    let to = target scope x n in
    let first = listed (conditional w scope to.1 delay) all to.0 in
    let rest = wave w scope to.1 delay last when first.0 in
    finished x.place (rest.0, both assigning_process to.1 (both behind first.1 rest.1))
  where
    behind : List Wave → Wave → Part (List Wave)
    behind all x = Kept (all ++ x ∷ [])

-- ---- concurrent assertions and breaks

abbrev pub process_of : List SignalName → Statement → Part Process
process_of signals s = Kept (ending (record { notes = record { faults = []; dots = []; thresholds = [] }; variables = []; drivers = []; waits = [] }) (once signals) (s ∷ []))

abbrev pub asserting : List ℕ → FlatExpr × Severity → Part Process
asserting text x = process_of (signals_in x.0) (statement.Assert x.0 text x.1)

abbrev pub concurrent_assertion : Setting → Scope → Assertion → Notes → Notes × Part Process
concurrent_assertion w scope a n =
    let x = assertion_parts w scope a n in
    finished a.place (x.0, judged (asserting (text_or w.texts a.text)) x.1)

-- without names the signals of the condition are waited for
abbrev pub break_signals : List Expr → List SignalName → Option FlatExpr → List SignalName
break_signals [] all c = signals_in_some c
break_signals (x ∷ xs) all c = all

abbrev pub breaking : List Expr → List Broken → List SignalName × Option FlatExpr → Part Process
breaking names elements behind = process_of (break_signals names behind.0 behind.1) (statement.Break elements behind.1)

abbrev pub concurrent_break : Setting → Scope → Place → List BreakElement → List Expr → Option Expr → Notes → Notes × Part Process
concurrent_break w scope place elements names when n =
    let e = break_elements w scope elements n in
    let all = sensitivity w scope names e.0 in
    let c = condition w scope when all.0 in
    finished place (c.0, both (breaking names) e.1 (both paired all.1 c.1))
