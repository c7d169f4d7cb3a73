use Rattle.digital_kernel.proofs.Kept.{first_kernel}
use Rattle.digital_kernel.proofs.kernel.DigitalKernel.new.Goals as goal

pub invariant_of-result : goal.invariant_of-result
invariant_of-result g c =
    first_kernel (g.D.Design.system 0) c.args.flat.now c.in_ok-parts.parts c.new-none.result c.requires.design c.requires.system
    c.in_ok-parts.ensures.built c.in_ok-parts.ensures.events c.in_ok-parts.ensures.context c.in_ok-parts.ensures.world c.in_ok-parts.ensures.kept c.in_ok-parts.ensures.timeouts c.new-none.ensures
