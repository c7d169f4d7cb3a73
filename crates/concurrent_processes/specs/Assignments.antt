-- Parts of concurrent assignments.
use Rattle.std.specs.Prelude.{ℕ, List, [], ◌∷◌, ◌++◌, Option}
use Rattle.std.specs.List.{flat_map}
use Rattle.ams_token.specs.declared.token.Place.{Place}
use Rattle.ams_tree.specs.declared.expression.Expr.{Expr}
use Rattle.ams_tree.specs.declared.sequential.DelayMechanism.{DelayMechanism}
use Rattle.ams_tree.specs.declared.sequential.WaveformElement.{WaveformElement}
use Rattle.ams_tree.specs.declared.concurrent.ConditionalWaveform.{ConditionalWaveform}
use Rattle.flat_expr.specs.declared.expr.SignalName.{SignalName}
use Rattle.flat_expr.specs.declared.statement.Statement.{Statement}
use Rattle.flat_design.specs.declared.objects.Process.{Process}
use Rattle.name_scope.specs.declared.thing.Subtype.{Subtype}
use Rattle.name_scope.specs.declared.scope.Scope.{Scope}
use Rattle.elab_meaning.specs.declared.fault.Notes.{Notes}
use Rattle.elab_meaning.specs.declared.part.Part.{Part}
use Rattle.elab_meaning.specs.declared.part.Part.TheVariants.{Kept}
use Rattle.elab_meaning.specs.Notes.{no_notes}
use Rattle.elab_meaning.specs.Parts.{judged, both}
use Rattle.statement_parts.specs.Lists.{behind}
use Rattle.unit_meaning.specs.Settings.{Setting, listed, paired, finished}
use Rattle.unit_meaning.specs.Bare.{once}
use Rattle.unit_meaning.specs.Processes.{Wave, wave, conditional, equivalent, ending}
use Rattle.unit_meaning.specs.Processes as spec
use Rattle.conditional_waves.specs.Waves.{reads_of}

-- the waveforms before an else, and the last one
abbrev pub all_waves : Setting → Scope → Part (ℕ × Subtype) → Option DelayMechanism → List ConditionalWaveform → List WaveformElement → Option Expr → Notes → Notes × Part (List Wave × Wave)
all_waves w scope to delay all last when n =
    let first = listed (conditional w scope to delay) all n in
    let rest = wave w scope to delay last when first.0 in
    (rest.0, both paired first.1 rest.1)

-- a process that drives one signal
abbrev pub driving_process : ℕ → List SignalName → Statement → Process
driving_process i signals s = ending (record { notes = no_notes; variables = []; drivers = i ∷ []; waits = [] }) signals (s ∷ [])

-- the process of all waveforms, those with conditions and the last one
unfoldable pub assigning_all : ℕ → List Wave × Wave → Process
assigning_all i waves =
    let all = waves.0 ++ waves.1 ∷ [] in
    driving_process i (once (flat_map reads_of all)) (equivalent all)

abbrev pub assigning_part : ℕ × (List Wave × Wave) → Part Process
assigning_part x = Kept (assigning_all x.0 x.1)

abbrev pub signal_part : ℕ × Subtype → Part ℕ
signal_part to = Kept to.0

unfoldable pub assigning_parts : Part (ℕ × Subtype) → Part (List Wave × Wave) → Part Process
assigning_parts to waves = judged assigning_part (both paired (judged signal_part to) waves)

-- an assignment behind its target
unfoldable pub assignment_behind : Setting → Scope → Place → Part (ℕ × Subtype) → Option DelayMechanism → List ConditionalWaveform → List WaveformElement → Option Expr → Notes → Notes × Part Process
assignment_behind w scope place to delay all last when n =
    let first = listed (conditional w scope to delay) all n in
    let rest = wave w scope to delay last when first.0 in
    finished place (rest.0, both spec.assigning_process to (both behind first.1 rest.1))
