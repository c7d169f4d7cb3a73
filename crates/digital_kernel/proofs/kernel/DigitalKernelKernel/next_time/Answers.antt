use Rattle.std.proofs.Common.{◌≡◌, ◌≤◌, ◌∙◌, ap, subst}
use Rattle.std.specs.Prelude.{IfSome}
use Rattle.step_model.specs.Kernel.{KernelState}
use Rattle.kernel_state.specs.State.{objects_of, state_of}
use Rattle.digital_kernel.proofs.Clauses.{next_is, next_later}
use Rattle.digital_kernel.proofs.kernel.DigitalKernelKernel.next_time.Goals as goal

pub returns-clause-value : goal.returns-clause-value
returns-clause-value g c = λ w.
    let k = c.self.inside.parts in
    let cycling = c.self.invariant.going (ap (λ (s : KernelState). s.stage) c.self.view_is ∙ w) in
    subst (λ (s : KernelState). c.next_time.result ≡ (g.D.Design.system 0).next_time s.digital) c.self.view_is
    (next_is (g.D.Design.system 0) (objects_of k) (state_of k) c.next_time.result c.self.invariant.runs (c.next_time.ensures (state_of k) c.drivers.ensures cycling.going.timeouts))

pub returns-clause-later : goal.returns-clause-later
returns-clause-later g c = λ w.
    let k = c.self.inside.parts in
    let cycling = c.self.invariant.going (ap (λ (s : KernelState). s.stage) c.self.view_is ∙ w) in
    subst (λ (s : KernelState). IfSome c.next_time.result (λ next. s.digital.time ≤ next)) c.self.view_is
    (next_later c.states_stay_safe.ensures.next (objects_of k) (state_of k) c.next_time.result cycling.safe (c.next_time.ensures (state_of k) c.drivers.ensures cycling.going.timeouts))
