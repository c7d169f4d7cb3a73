use Rattle.std.proofs.Common.{ap}
use Rattle.cycle_meaning.specs.World.{Context}
use Rattle.kernel_world.specs.Acting.{context_of}
use Rattle.kernel_state.proofs.Building.{few_processes, few_there}
use Rattle.kernel_state.proofs.parts.KernelParts.new.Goals as goal

pub calls_of-requires : goal.calls_of-requires
calls_of-requires c = few_processes c.args.flat.now c.requires

pub joined-requires-clause-few : goal.joined-requires-clause-few
joined-requires-clause-few c =
    few_there (context_of c.in_ok-world.world) c.args.flat.now (ap (λ (h : Context). h.objects) c.in_ok-world.ensures.context) c.requires
