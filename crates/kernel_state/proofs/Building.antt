-- The parts of a well-formed design, before its start.
use Rattle.std.proofs.Common.{◌≡◌, ◌<◌, ◌^◌, length, sym, subst, arith}
use Rattle.flat_design.specs.declared.objects.Objects.{Objects}
use Rattle.cycle_meaning.specs.World.{Context}
use Rattle.design_rules.specs.Design.{IsDesign}

pub few_processes : (objects : Objects) → IsDesign objects → length objects.processes < 2 ^ 32
few_processes objects design = let h = design.limits.processes in omega (arith, h)

-- what is said of the objects of a context is said of the design
pub few_there : (here : Context) (objects : Objects) → here.objects ≡ objects → IsDesign objects → length here.objects.processes < 2 ^ 32
few_there here objects e design = subst (λ (o : Objects). length o.processes < 2 ^ 32) (sym e) (few_processes objects design)
