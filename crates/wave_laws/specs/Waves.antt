-- The processes that concurrent signal assignments stand for (IEEE 1076, 11.6).
use Rattle.std.specs.Prelude.{◌<◌, List, [], length, Option}
use Rattle.std.specs.List.{All}
use Rattle.ams_tree.specs.declared.concurrent.ConditionalWaveform.{ConditionalWaveform}
use Rattle.ams_tree.specs.declared.expression.Expr.{Expr}
use Rattle.ams_tree.specs.declared.expression.Name.{Name}
use Rattle.ams_tree.specs.declared.sequential.DelayMechanism.{DelayMechanism}
use Rattle.ams_tree.specs.declared.sequential.WaveformElement.{WaveformElement}
use Rattle.flat_design.specs.declared.objects.Objects.{Objects}
use Rattle.name_scope.specs.declared.scope.Scope.{Scope}
use Rattle.elab_meaning.specs.declared.fault.Notes.{Notes}
use Rattle.unit_meaning.specs.Settings.{Setting}
use Rattle.unit_meaning.specs.Processes.{concurrent_assignment}
use Rattle.design_rules.specs.Types.{equation_scope}
use Rattle.design_rules.specs.Design.{IsProcess}
use Rattle.typed_laws.specs.Fitting.{HasRoom}
use Rattle.part_laws.specs.Parts.{OnKept}
use Rattle.scope_laws.specs.Holds.{ScopeHolds}

-- it is so where each waveform has an element and the design has room for what is noted
abbrev pub AssignmentsMakeProcesses : Type 0
AssignmentsMakeProcesses =
    (objects : Objects) (w : Setting) (scope : Scope) (x : Name) (delay : Option DelayMechanism) (all : List ConditionalWaveform) (last : List WaveformElement) (when : Option Expr) (n : Notes)
    → ScopeHolds (equation_scope objects) [] [] scope → All (λ (c : ConditionalWaveform). 0 < length c.elements) all → 0 < length last
    → HasRoom (equation_scope objects) (concurrent_assignment w scope x delay all last when n).0 → OnKept (IsProcess objects) (concurrent_assignment w scope x delay all last when n).1
