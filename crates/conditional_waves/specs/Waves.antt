-- Parts of waveforms with conditions.
use Rattle.std.specs.Prelude.{ℕ, List, Option}
use Rattle.ams_tree.specs.declared.sequential.DelayMechanism.{DelayMechanism}
use Rattle.ams_tree.specs.declared.sequential.WaveformElement.{WaveformElement}
use Rattle.flat_expr.specs.declared.expr.SignalName.{SignalName}
use Rattle.flat_expr.specs.declared.statement.DelayMechanism.{DelayMechanism as Mechanism}
use Rattle.flat_expr.specs.declared.statement.WaveElement.{WaveElement}
use Rattle.name_scope.specs.declared.thing.Subtype.{Subtype}
use Rattle.name_scope.specs.declared.scope.Scope.{Scope}
use Rattle.elab_meaning.specs.declared.fault.Notes.{Notes}
use Rattle.elab_meaning.specs.declared.part.Part.{Part}
use Rattle.elab_meaning.specs.Parts.{both}
use Rattle.unit_meaning.specs.Settings.{Setting, paired}
use Rattle.unit_meaning.specs.Waveforms.{mechanism, waveform}
use Rattle.unit_meaning.specs.Processes.{Wave}

-- a waveform with the delay mechanism of its statement
abbrev pub wave_parts : Setting → Scope → Part (ℕ × Subtype) → Option DelayMechanism → List WaveformElement → Notes → Notes × Part (Mechanism × List WaveElement)
wave_parts w scope to delay xs n =
    let m = mechanism w scope delay n in
    let elements = waveform w scope to xs m.0 in
    (elements.0, both paired m.1 elements.1)

abbrev pub reads_of : Wave → List SignalName
reads_of x = x.reads
