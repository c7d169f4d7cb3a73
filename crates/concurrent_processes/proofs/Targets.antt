-- An assignment, behind its target.
use Rattle.std.proofs.Common.{◌≡◌, ℕ, List, Option, Result, subst}
use Rattle.std.specs.declared.alloc.AllocError.{AllocError}
use Rattle.ams_tree.specs.declared.expression.Name.{Name}
use Rattle.ams_tree.specs.declared.expression.Expr.{Expr}
use Rattle.ams_tree.specs.declared.sequential.DelayMechanism.{DelayMechanism}
use Rattle.ams_tree.specs.declared.sequential.WaveformElement.{WaveformElement}
use Rattle.ams_tree.specs.declared.concurrent.ConditionalWaveform.{ConditionalWaveform}
use Rattle.flat_design.specs.declared.objects.Process.{Process}
use Rattle.name_scope.specs.declared.thing.Subtype.{Subtype}
use Rattle.name_scope.specs.declared.scope.Scope.{Scope}
use Rattle.elab_meaning.specs.declared.fault.Notes.{Notes}
use Rattle.elab_meaning.specs.declared.part.Part.{Part}
use Rattle.expr_types.specs.Known.{Finds}
use Rattle.unit_meaning.specs.Settings.{Setting}
use Rattle.unit_meaning.specs.Waveforms.{target}
use Rattle.unit_meaning.specs.Processes.{concurrent_assignment}
use Rattle.concurrent_processes.specs.Assignments.{assignment_behind}

pub assignment_found : (w : Setting) (scope : Scope) (x : Name) (delay : Option DelayMechanism) (all : List ConditionalWaveform) (last : List WaveformElement) (when : Option Expr) (n m k : Notes) (to : Part (ℕ × Subtype)) (r : Result (Part Process) AllocError)
    → m ≡ (target scope x n).0 → to ≡ (target scope x n).1
    → Finds (assignment_behind w scope x.place to delay all last when m) r k
    → Finds (concurrent_assignment w scope x delay all last when n) r k
unfolding assignment_behind
assignment_found w scope x delay all last when n m k to r em et h =
    subst (λ t. Finds (assignment_behind w scope x.place t delay all last when (target scope x n).0) r k) et
    (subst (λ j. Finds (assignment_behind w scope x.place to delay all last when j) r k) em h)
