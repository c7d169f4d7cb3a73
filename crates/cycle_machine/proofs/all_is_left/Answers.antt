use Rattle.std.proofs.Common.{refl}
use Rattle.cycle_machine.proofs.all_is_left.Goals as goal

pub returns : goal.returns
returns c = λ sys. refl
