use Rattle.std.proofs.Common.{◌≡◌, ◌∙◌, ap, subst}
use Rattle.step_model.specs.Kernel.{KernelState}
use Rattle.kernel_world.specs.Acting.{world_of}
use Rattle.kernel_state.specs.State.{objects_of}
use Rattle.digital_kernel.proofs.Clauses.{breaks_are, elements_known, no_elements}
use Rattle.digital_kernel.proofs.kernel.DigitalKernelKernel.breaks.Goals as goal

pub returns-in-Going-clause-value : goal.returns-in-Going-clause-value
returns-in-Going-clause-value g c = λ w.
    subst (λ (s : KernelState). c.break_list.result.now ≡ (g.D.Design.system 0).breaks s.digital) c.self.view_is
    (breaks_are (g.D.Design.system 0) c.self.inside.parts c.break_list.result.now c.self.invariant.runs c.break_list.ensures)

pub returns-in-Going-clause-elements : goal.returns-in-Going-clause-elements
returns-in-Going-clause-elements g c =
    let k = c.self.inside.parts in
    elements_known (g.D.Design.system 0) (objects_of k) c.break_list.result.now (world_of k.world).elements c.self.invariant.runs c.break_list.ensures (c.self.invariant.going c.in-Going.is).safe.elements

pub returns-in_default-clause-value : goal.returns-in_default-clause-value
returns-in_default-clause-value g c = λ w. absurd (c.in_default.not-Going (ap (λ (s : KernelState). s.stage) c.self.view_is ∙ w))

pub returns-in_default-clause-elements : goal.returns-in_default-clause-elements
returns-in_default-clause-elements g c = no_elements (g.D.Design.system 0) c.self.inside.none c.self.invariant.none_is
