-- Signal assignments (IEEE 1076, 10.5.2).
use Rattle.std.specs.Prelude.{ℕ, List, Option, Some, None}
use Rattle.ams_tree.specs.declared.expression.Name.{Name}
use Rattle.ams_tree.specs.declared.sequential.DelayMechanism.{DelayMechanism}
use Rattle.ams_tree.specs.declared.sequential.DelayMechanism.TheVariants as written
use Rattle.ams_tree.specs.declared.sequential.WaveformElement.{WaveformElement}
use Rattle.ams_value.specs.declared.value_type.ValueType.TheVariants as t
use Rattle.flat_expr.specs.declared.expr.FlatExpr.{FlatExpr}
use Rattle.flat_expr.specs.declared.statement.DelayMechanism.{DelayMechanism as Mechanism}
use Rattle.flat_expr.specs.declared.statement.DelayMechanism.TheVariants as flat
use Rattle.flat_expr.specs.declared.statement.WaveElement.{WaveElement}
use Rattle.flat_expr.specs.declared.statement.Statement.{Statement}
use Rattle.flat_expr.specs.declared.statement.Statement.TheVariants as statement
use Rattle.name_scope.specs.declared.thing.Access.TheVariants.{Assignable}
use Rattle.name_scope.specs.declared.thing.Kind.TheVariants.{Of}
use Rattle.name_scope.specs.declared.thing.Subtype.{Subtype}
use Rattle.name_scope.specs.declared.thing.Thing.{Thing}
use Rattle.name_scope.specs.declared.thing.Thing.TheVariants as thing
use Rattle.name_scope.specs.declared.scope.Scope.{Scope}
use Rattle.name_scope.specs.Scopes.{lookup}
use Rattle.elab_meaning.specs.declared.fault.Notes.{Notes}
use Rattle.elab_meaning.specs.declared.part.Part.{Part}
use Rattle.elab_meaning.specs.declared.part.Part.TheVariants.{Kept, Wrong, Hidden}
use Rattle.elab_meaning.specs.declared.typed.Typed.{Typed}
use Rattle.elab_meaning.specs.Parts.{where_true, judged, both, found_thing}
use Rattle.elab_meaning.specs.Subtypes.{suits}
use Rattle.elab_meaning.specs.Declarations.{range_part}
use Rattle.unit_meaning.specs.Settings.{Setting, running, typed, value_of, must_be, may_be, listed, paired}

-- a signal that may be assigned: its number and its subtype
abbrev pub target_of : Thing → Part (ℕ × Subtype)
target_of (thing.Signal i s Assignable) = Kept (i, s)
target_of _ = Wrong

abbrev pub target : Scope → Name → Notes → Notes × Part (ℕ × Subtype)
target scope x n =
    let found = found_thing x (lookup scope x.number) n in
    (found.0, judged target_of found.1)

abbrev pub rejecting : FlatExpr → Part Mechanism
rejecting x = Kept (flat.Inertial (Some x))

abbrev pub mechanism : Setting → Scope → Option DelayMechanism → Notes → Notes × Part Mechanism
mechanism w scope (Some (written.Transport place)) n = (n, Kept flat.Transport)
mechanism w scope (Some (written.Reject place x)) n =
    let found = must_be w scope running (Of t.Time) x n in
    (found.0, judged rejecting found.1)
mechanism w scope _ n = (n, Kept (flat.Inertial None))

-- a value belongs to the subtype of its target, where both are known
abbrev pub suited : Part (ℕ × Subtype) → Typed → Part FlatExpr
suited (Kept to) x = where_true (suits to.1 (value_of x)) x.expr
suited _ x = Kept x.expr

abbrev pub wave_element : FlatExpr → Option FlatExpr → Part WaveElement
wave_element value delay = Kept (record { value = value; delay = delay })

abbrev pub element : Setting → Scope → Part (ℕ × Subtype) → WaveformElement → Notes → Notes × Part WaveElement
element w scope to x n =
    let value = typed w scope running x.value n in
    let after = may_be w scope running (Of t.Time) x.after value.0 in
    (after.0, both wave_element (judged (suited to) value.1) after.1)

abbrev pub waveform : Setting → Scope → Part (ℕ × Subtype) → List WaveformElement → Notes → Notes × Part (List WaveElement)
waveform w scope to xs n = listed (element w scope to) xs n

abbrev pub assigning : ℕ × Subtype → Mechanism × List WaveElement → Part Statement
assigning to made = Kept (statement.SignalAssignment to.0 (range_part to.1.constraint) made.0 made.1)

-- a waveform for a target, with the delay mechanism
abbrev pub assignment : Setting → Scope → Part (ℕ × Subtype) → Option DelayMechanism → List WaveformElement → Notes → Notes × Part Statement
assignment w scope to delay xs n =
    let m = mechanism w scope delay n in
    let elements = waveform w scope to xs m.0 in
    (elements.0, both assigning to (both paired m.1 elements.1))
