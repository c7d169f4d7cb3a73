-- The process of all waveforms.
use Rattle.std.proofs.Common.{◌≡◌, ℕ, List, [], ◌∷◌, ◌++◌, Result, IfOk, subst}
use Rattle.std.specs.List.{flat_map}
use Rattle.std.specs.declared.alloc.AllocError.{AllocError}
use Rattle.flat_expr.specs.declared.expr.SignalName.{SignalName}
use Rattle.flat_expr.specs.declared.statement.Statement.{Statement}
use Rattle.flat_design.specs.declared.objects.Process.{Process}
use Rattle.unit_meaning.specs.Bare.{once}
use Rattle.unit_meaning.specs.Processes.{Wave, equivalent}
use Rattle.conditional_waves.specs.Waves.{reads_of}
use Rattle.concurrent_processes.specs.Assignments.{assigning_all, driving_process}

pub process_made : (i : ℕ) (first : List Wave) (last : Wave) (signals : List SignalName) (s : Statement) (r : Result Process AllocError)
    → signals ≡ once (flat_map reads_of (first ++ last ∷ []))
    → s ≡ equivalent (first ++ last ∷ [])
    → IfOk r (λ made. made ≡ driving_process i signals s)
    → IfOk r (λ made. made ≡ assigning_all i (first, last))
unfolding assigning_all
process_made i first last signals s r read same h =
    subst (λ x. IfOk r (λ made. made ≡ driving_process i x (equivalent (first ++ last ∷ [])))) read
    (subst (λ x. IfOk r (λ made. made ≡ driving_process i signals x)) same h)
