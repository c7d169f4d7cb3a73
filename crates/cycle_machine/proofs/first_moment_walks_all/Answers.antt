use Rattle.std.proofs.Common.{refl}
use Rattle.cycle_machine.proofs.first_moment_walks_all.Goals as goal

pub returns : goal.returns
returns c = λ sys. refl
