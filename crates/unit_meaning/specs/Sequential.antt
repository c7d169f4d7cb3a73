-- Sequential statements (IEEE 1076, 10; the break statement: IEEE 1076.1, 10).
use Rattle.std.specs.Prelude.{ℕ, ◌+◌, nat_eq, Bool, true, false, if◌then◌else◌, List, [], ◌∷◌, ◌++◌, length, codes, pos, Option, Some, None}
use Rattle.std.specs.List.{list_any}
use Rattle.std.specs.Str.{bytes_eq}
use Rattle.ams_token.specs.declared.token.Place.{Place}
use Rattle.ams_tree.specs.declared.expression.Name.{Name}
use Rattle.ams_tree.specs.declared.expression.Expr.{Expr}
use Rattle.ams_tree.specs.declared.expression.Literal.{Literal}
use Rattle.ams_tree.specs.declared.expression.LiteralValue.{LiteralValue}
use Rattle.ams_tree.specs.declared.expression.LiteralValue.TheVariants as content
use Rattle.ams_tree.specs.declared.declaration.Direction.{Direction}
use Rattle.ams_tree.specs.declared.sequential.Assertion.{Assertion}
use Rattle.ams_tree.specs.declared.sequential.Report.{Report}
use Rattle.ams_tree.specs.declared.sequential.BreakElement.{BreakElement as WrittenElement}
use Rattle.ams_tree.specs.declared.sequential.DelayMechanism.{DelayMechanism}
use Rattle.ams_tree.specs.declared.sequential.WaveformElement.{WaveformElement}
use Rattle.ams_tree.specs.declared.sequential.Iteration.{Iteration}
use Rattle.ams_tree.specs.declared.sequential.Iteration.TheVariants as iteration
use Rattle.ams_tree.specs.declared.sequential.Seq.{Seq}
use Rattle.ams_tree.specs.declared.sequential.Seq.TheOpen.{Branch-F, Alternative-F, Seq-F}
use Rattle.ams_tree.specs.declared.sequential.Seq.TheFolds.{fold-Seq}
use Rattle.ams_value.specs.declared.val.Val.{Val}
use Rattle.ams_value.specs.declared.val.Val.TheVariants as val
use Rattle.ams_value.specs.declared.value_type.ValueType.TheVariants as t
use Rattle.flat_expr.specs.declared.expr.FlatExpr.{FlatExpr}
use Rattle.flat_expr.specs.declared.expr.SignalName.{SignalName}
use Rattle.flat_expr.specs.declared.statement.Severity.{Severity}
use Rattle.flat_expr.specs.declared.statement.Severity.TheVariants as severity
use Rattle.flat_expr.specs.declared.statement.Branch.{Branch}
use Rattle.flat_expr.specs.declared.statement.Alternative.{Alternative}
use Rattle.flat_expr.specs.declared.statement.BreakElement.{BreakElement}
use Rattle.flat_expr.specs.declared.statement.Statement.{Statement}
use Rattle.flat_expr.specs.declared.statement.Statement.TheVariants as statement
use Rattle.flat_expr.specs.declared.subtype.Constraint.TheVariants.{Whole}
use Rattle.name_scope.specs.declared.thing.Kind.{Kind}
use Rattle.name_scope.specs.declared.thing.Kind.TheVariants.{Of}
use Rattle.name_scope.specs.declared.thing.Subtype.{Subtype}
use Rattle.name_scope.specs.declared.thing.Thing.{Thing}
use Rattle.name_scope.specs.declared.thing.Thing.TheVariants as thing
use Rattle.name_scope.specs.declared.scope.Scope.{Scope}
use Rattle.name_scope.specs.Scopes.{lookup, inside, with_name}
use Rattle.elab_meaning.specs.declared.fault.Notes.{Notes}
use Rattle.elab_meaning.specs.declared.part.Part.{Part}
use Rattle.elab_meaning.specs.declared.part.Part.TheVariants.{Kept, Wrong, Hidden}
use Rattle.elab_meaning.specs.declared.typed.Typed.{Typed}
use Rattle.elab_meaning.specs.Notes.{text_of}
use Rattle.elab_meaning.specs.Parts.{kept, where_true, judged, both, closed, found_thing}
use Rattle.elab_meaning.specs.Subtypes.{suits, direction_of, declaring}
use Rattle.elab_meaning.specs.Declarations.{range_part}
use Rattle.unit_meaning.specs.declared.draft.Draft.{Draft}
use Rattle.unit_meaning.specs.declared.draft.Seen.{Seen}
use Rattle.unit_meaning.specs.declared.draft.Spot.{Spot}
use Rattle.unit_meaning.specs.Settings.{Setting, running, typed, value_of, must_be, may_be, condition, given, ahead, paired, sealed}
use Rattle.unit_meaning.specs.Waveforms.{target, assignment}
use Rattle.unit_meaning.specs.Bare.{sensitivity, signals_in_some, once, break_elements}
use Rattle.unit_meaning.specs.Cases.{nothing_seen, choices, values_since, others_since, covers}
use Rattle.elab_meaning.specs.Expressions.{static_in}

-- ---- what a draft gains

abbrev pub with_notes : Notes → Draft → Draft
with_notes n d = record d { notes = n }

abbrev pub with_driver : ℕ → Draft → Draft
with_driver i d = if list_any (nat_eq i) d.drivers then d else record d { drivers = d.drivers ++ i ∷ [] }

abbrev pub with_parameter : List (List ℕ) → Name → Draft → Draft
with_parameter texts x d =
    record d {
      variables =
          d.variables
          ++ record { name = text_of texts x.number; kind = t.Integer; constraint = Whole; initial = val.Int (pos 0); is_parameter = true } ∷ [];
    }

-- ---- reports

abbrev pub severity_of : List ℕ → Part Severity
severity_of text =
    if bytes_eq text (codes "note") then Kept severity.Note
    else (if bytes_eq text (codes "warning") then Kept severity.Warning
    else (if bytes_eq text (codes "error") then Kept severity.Error
    else (if bytes_eq text (codes "failure") then Kept severity.Failure
    else Wrong)))

abbrev pub severity_or : List (List ℕ) → Severity → Option Name → Part Severity
severity_or texts default None = Kept default
severity_or texts default (Some x) = severity_of (text_of texts x.number)

abbrev pub content_text : List (List ℕ) → LiteralValue → List ℕ
content_text texts (content.Str x) = text_of texts x
content_text texts _ = []

abbrev pub text_or : List (List ℕ) → Option Literal → List ℕ
text_or texts (Some x) = content_text texts x.value
text_or texts None = codes "Assertion violation."

-- without a severity an assertion is an error, a report a note
abbrev pub assertion_parts : Setting → Scope → Assertion → Notes → Notes × Part (FlatExpr × Severity)
assertion_parts w scope a n =
    let x = must_be w scope running (Of t.Boolean) a.condition n in
    (x.0, both paired x.1 (severity_or w.texts severity.Error a.severity))

abbrev pub asserted : List ℕ → FlatExpr × Severity → Part Statement
asserted text x = Kept (statement.Assert x.0 text x.1)

abbrev pub assertion : Setting → Scope → Assertion → Notes → Notes × Part Statement
assertion w scope a n =
    let x = assertion_parts w scope a n in
    (x.0, judged (asserted (text_or w.texts a.text)) x.1)

abbrev pub reported : List ℕ → Severity → Part Statement
reported text s = Kept (statement.Report text s)

abbrev pub report : Setting → Report → Part Statement
report w r = judged (reported (content_text w.texts r.text.value)) (severity_or w.texts severity.Note r.severity)

-- ---- simple statements

abbrev pub variable_of : Thing → Part (ℕ × Subtype)
variable_of (thing.Variable i s) = Kept (i, s)
variable_of _ = Wrong

abbrev pub setting_variable : ℕ × Subtype → Typed → Part Statement
setting_variable to x = where_true (suits to.1 (value_of x)) (statement.VariableAssignment to.0 (range_part to.1.constraint) x.expr)

abbrev pub variable_assignment : Setting → Scope → Name → Expr → Notes → Notes × Part Statement
variable_assignment w scope x value n =
    let found = found_thing x (lookup scope x.number) n in
    let v = typed w scope running value found.0 in
    (v.0, both setting_variable (judged variable_of found.1) v.1)

abbrev pub broken : List BreakElement → Option FlatExpr → Part Statement
broken elements x = Kept (statement.Break elements x)

abbrev pub break_statement : Setting → Scope → List WrittenElement → Option Expr → Notes → Notes × Part Statement
break_statement w scope elements x n =
    let all = break_elements w scope elements n in
    let c = condition w scope x all.0 in
    (c.0, both broken all.1 c.1)

-- exit and next stand in a loop
abbrev pub in_loop : Spot → (Option FlatExpr → Statement) → Option FlatExpr → Part Statement
in_loop spot make x = where_true spot.is_in_loop (make x)

abbrev pub leaving : Setting → Scope → Spot → (Option FlatExpr → Statement) → Option Expr → Notes → Notes × Part Statement
leaving w scope spot make x n =
    let c = condition w scope x n in
    (c.0, judged (in_loop spot make) c.1)

-- ---- waits

-- without names the signals of the condition are waited for
abbrev pub waited_for : List Expr → List SignalName → Option FlatExpr → List SignalName
waited_for [] all x = once (signals_in_some x)
waited_for (name ∷ names) all x = all

abbrev pub waiting : ℕ → List Expr → List SignalName → Option FlatExpr × Option FlatExpr → Part Statement
waiting number names all behind = Kept (statement.Wait number (waited_for names all behind.0) behind.0 behind.1)

abbrev pub way_to : Spot → ℕ → ℕ → Spot
way_to spot i k = record spot { path = spot.path ++ record { statement = i; branch = k } ∷ [] }

abbrev pub with_wait : Spot → ℕ → Draft → Draft
with_wait spot i d = record d { waits = d.waits ++ record { path = (way_to spot i 0).path; parameters = spot.parameters } ∷ [] }

abbrev pub wait_statement : Setting → Scope → List Expr → Option Expr → Option Expr → Draft → Notes × Part Statement
wait_statement w scope names until time d =
    let all = sensitivity w scope names d.notes in
    let x = condition w scope until all.0 in
    let limit = may_be w scope running (Of t.Time) time x.0 in
    (limit.0, both (waiting (length d.waits) names) all.1 (both paired x.1 limit.1))

-- ---- statements with statements inside

-- the statement of this place, and what the draft is behind it
abbrev pub Statements : Type 0
Statements = Draft × Part (List Statement)

-- how a statement is read: in a scope, at a spot, by its number in its list
abbrev pub Reads : Type 0 → Type 0
Reads A = Scope → Spot → ℕ → Draft → Draft × Part A

-- how a branch of an if is read, and an alternative of a case
abbrev pub BranchReads : Type 0
BranchReads = Scope → Spot → Draft → Draft × Part Branch

abbrev pub CaseReads : Type 0
CaseReads = Scope → Spot → Option Kind → Seen → Draft → Draft × (Seen × Part Alternative)

abbrev pub body : List (Reads Statement) → Scope → Spot → ℕ → Draft → Statements
body [] scope spot i d = (d, Kept [])
body (r ∷ more) scope spot i d =
    let first = r scope spot i d in
    let rest = body more scope spot (i + 1) first.0 in
    (rest.0, both ahead first.1 rest.1)

-- a branch of an if: its condition, and its statements
abbrev pub made_branch : FlatExpr → List Statement → Part Branch
made_branch x all = Kept (record { condition = x; body = all })

abbrev pub branch_step : Setting → Branch-F (Reads Statement) CaseReads BranchReads → BranchReads
branch_step w b scope spot d =
    let x = must_be w scope running (Of t.Boolean) b.condition d.notes in
    let all = body b.body scope spot 0 (with_notes x.0 d) in
    (all.0, both made_branch x.1 all.1)

abbrev pub branches : List BranchReads → Scope → Spot → ℕ → ℕ → Draft → Draft × Part (List Branch)
branches [] scope spot i k d = (d, Kept [])
branches (r ∷ more) scope spot i k d =
    let first = r scope (way_to spot i k) d in
    let rest = branches more scope spot i (k + 1) first.0 in
    (rest.0, both ahead first.1 rest.1)

abbrev pub otherwise : Option (List (Reads Statement)) → Scope → Spot → Draft → Statements
otherwise None scope spot d = (d, Kept [])
otherwise (Some all) scope spot d = body all scope spot 0 d

abbrev pub made_if : List Branch → List Statement → Part Statement
made_if all last = Kept (statement.If all last)

-- an alternative of a case: the values of its choices, and its statements
abbrev pub made_alternative : Seen → Seen → Bool → List Statement → Part Alternative
made_alternative before now fine all = Kept (record { choices = values_since before now; others = others_since before now; body = all })

abbrev pub alternative_step : Setting → Alternative-F (Reads Statement) CaseReads BranchReads → CaseReads
alternative_step w a scope spot k seen d =
    let c = choices w scope (static_in running) k seen a.choices d.notes in
    let all = body a.body scope spot 0 (with_notes c.0 d) in
    (all.0, (c.1.0, both (made_alternative seen c.1.0) c.1.1 all.1))

abbrev pub alternatives : List CaseReads → Scope → Spot → ℕ → ℕ → Option Kind → Seen → Draft → Draft × (Seen × Part (List Alternative))
alternatives [] scope spot i b k seen d = (d, (seen, Kept []))
alternatives (r ∷ more) scope spot i b k seen d =
    let first = r scope (way_to spot i b) k seen d in
    let rest = alternatives more scope spot i (b + 1) k first.1.0 first.0 in
    (rest.0, (rest.1.0, both ahead first.1.1 rest.1.1))

abbrev pub kind_known : Part Typed → Option Kind
kind_known (Kept x) = Some x.kind
kind_known _ = None

-- all values of the type stand, or others
abbrev pub made_case : Setting → Seen → Typed → List Alternative → Part Statement
made_case w seen x all = where_true (covers w.enumerations x.kind seen) (statement.Case x.expr all)

abbrev pub case_statement : Setting → Expr → List CaseReads → Reads Statement
case_statement w x all scope spot i d =
    let e = typed w scope running x d.notes in
    let found = alternatives all scope spot i 0 (kind_known e.1) nothing_seen (with_notes e.0 d) in
    (found.0, both (made_case w found.1.0) e.1 found.1.1)

-- ---- loops

abbrev pub looping : Spot → ℕ → Spot
looping spot i = record (way_to spot i 0) { is_in_loop = true }

abbrev pub made_loop : Option FlatExpr → List Statement → Part Statement
made_loop x all = Kept (statement.Loop x all)

abbrev pub made_for : ℕ → Direction → FlatExpr × FlatExpr → List Statement → Part Statement
made_for p way bounds all = Kept (statement.For p bounds.0 (direction_of way) bounds.1 all)

abbrev pub within_loop : Spot → ℕ → ℕ → Spot
within_loop spot i p = record (looping spot i) { parameters = spot.parameters ++ p ∷ [] }

abbrev pub loop_statement : Setting → Iteration → List (Reads Statement) → Reads Statement
loop_statement w iteration.Endless all scope spot i d =
    let inner = body all scope (looping spot i) 0 d in
    (inner.0, judged (made_loop None) inner.1)
loop_statement w (iteration.While x) all scope spot i d =
    let c = must_be w scope running (Of t.Boolean) x d.notes in
    let inner = body all scope (looping spot i) 0 (with_notes c.0 d) in
    (inner.0, both made_loop (judged given c.1) inner.1)
loop_statement w (iteration.For x range) all scope spot i d =
    let left = must_be w scope running (Of t.Integer) range.left d.notes in
    let right = must_be w scope running (Of t.Integer) range.right left.0 in
    let p = length d.variables in
    let inner =
    body all (with_name (inside scope) x.number (thing.Parameter p)) (within_loop spot i p) 0
    (with_parameter w.texts x (with_notes right.0 d)) in
    (inner.0, both (made_for p range.direction) (both paired left.1 right.1) inner.1)

-- ---- the whole

-- a statement that holds no others
abbrev pub simple : Place → Draft → Notes × Part Statement → Draft × Part Statement
simple place d found = (with_notes (closed place found.1 found.0) d, sealed found.1)

-- one that holds others
abbrev pub whole : Place → Draft × Part Statement → Draft × Part Statement
whole place found = (with_notes (closed place found.1 found.0.notes) found.0, sealed found.1)

abbrev pub driving : Part (ℕ × Subtype) → Draft → Draft
driving (Kept to) d = with_driver to.0 d
driving _ d = d

abbrev pub signal_statement : Setting → Name → Option DelayMechanism → List WaveformElement → Reads Statement
signal_statement w x delay wave scope spot i d =
    let to = target scope x d.notes in
    simple x.place (driving to.1 d) (assignment w scope to.1 delay wave to.0)

abbrev pub seq_step : Setting → Seq-F (Reads Statement) CaseReads BranchReads → Reads Statement
seq_step w (Seq-F.Signal x delay wave) scope spot i d = signal_statement w x delay wave scope spot i d
seq_step w (Seq-F.Variable x value) scope spot i d = simple x.place d (variable_assignment w scope x value d.notes)
seq_step w (Seq-F.If place all last) scope spot i d =
    let first = branches all scope spot i 0 d in
    let rest = otherwise last scope (way_to spot i (length all)) first.0 in
    whole place (rest.0, both made_if first.1 rest.1)
seq_step w (Seq-F.Case place x all) scope spot i d = whole place (case_statement w x all scope spot i d)
seq_step w (Seq-F.Loop place how all) scope spot i d = whole place (loop_statement w how all scope spot i d)
seq_step w (Seq-F.Exit place x) scope spot i d = simple place d (leaving w scope spot statement.Exit x d.notes)
seq_step w (Seq-F.Next place x) scope spot i d = simple place d (leaving w scope spot statement.Next x d.notes)
seq_step w (Seq-F.Wait place names until time) scope spot i d = simple place (with_wait spot i d) (wait_statement w scope names until time d)
seq_step w (Seq-F.Assert a) scope spot i d = simple a.place d (assertion w scope a d.notes)
seq_step w (Seq-F.Report place r) scope spot i d = simple place d (d.notes, report w r)
seq_step w (Seq-F.Break place elements x) scope spot i d = simple place d (break_statement w scope elements x d.notes)
seq_step w (Seq-F.Null place) scope spot i d = (d, Kept statement.Null)

abbrev pub statement_of : Setting → Seq → Reads Statement
statement_of w = fold-Seq (Reads Statement) CaseReads BranchReads (seq_step w) (alternative_step w) (branch_step w)
