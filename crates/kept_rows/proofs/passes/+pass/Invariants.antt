use Rattle.std.proofs.Common.{length}
use Rattle.kept_rows.proofs.passes.+pass.Given as goal

abbrev pub decreases-pass : goal.decreases-pass
decreases-pass l = length l.numbers.now
