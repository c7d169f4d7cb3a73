use Rattle.std.proofs.Common.{◌≡◌, map, take}
use Rattle.flat_design.specs.declared.objects.IfArm.{IfArm}
use Rattle.prepared_pairs.specs.Prepared.{prepared_each}
use Rattle.prepared_pairs.proofs.branches.prepare_if.Given as goal

abbrev pub invariant-loop-arm : goal.invariant-loop-arm
invariant-loop-arm l = l.all ≡ map (λ (arm : IfArm). prepared_each l.unknowns arm.pairs) (take l.arm-index l.arms)
