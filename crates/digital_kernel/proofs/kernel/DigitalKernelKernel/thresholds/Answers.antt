use Rattle.std.proofs.Common.{◌≡◌, subst}
use Rattle.step_model.specs.Kernel.{KernelState}
use Rattle.cycle_meaning.specs.Cycles.{kept_in}
use Rattle.kernel_world.specs.Acting.{world_of}
use Rattle.kernel_state.specs.State.{objects_of}
use Rattle.digital_kernel.proofs.Clauses.{thresholds_are, thresholds_known}
use Rattle.digital_kernel.proofs.kernel.DigitalKernelKernel.thresholds.Goals as goal

pub returns-clause-value : goal.returns-clause-value
returns-clause-value g c = λ w.
    subst (λ (s : KernelState). c.threshold_list.result.now ≡ (g.D.Design.system 0).thresholds s.digital) c.self.view_is
    (thresholds_are (g.D.Design.system 0) c.self.inside.parts c.threshold_list.result.now c.self.invariant.runs c.threshold_list.ensures)

pub returns-clause-unknowns : goal.returns-clause-unknowns
returns-clause-unknowns g c =
    let k = c.self.inside.parts in
    thresholds_known (g.D.Design.system 0) (objects_of k) (kept_in (world_of k.world)) c.threshold_list.result.now c.self.invariant.runs c.self.invariant.design c.threshold_list.ensures
