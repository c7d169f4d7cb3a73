use Rattle.std.proofs.Common.{◌*◌}
use Rattle.std.proofs.Math.Nat.{mod-add-mod}
use Rattle.step_schedule.specs.Letters.{turned}
use Rattle.step_schedule.proofs.turn.Goals as goal

pub returns : goal.returns
unfolding turned
returns c = mod-add-mod (c.args.state * 6364136223846793005) 18446744073709551616 1442695040888963407
