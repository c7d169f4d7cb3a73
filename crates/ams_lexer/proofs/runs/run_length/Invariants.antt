use Rattle.std.proofs.Common.{◌≡◌, ◌+◌, drop}
use Rattle.ams_lexer.specs.Runs.{run_length, takes}
use Rattle.ams_lexer.proofs.runs.run_length.Given as goal

abbrev pub invariant-loop-i : goal.invariant-loop-i
invariant-loop-i l = l.i + run_length (takes l.class) (drop l.i l.bytes) ≡ run_length (takes l.class) l.bytes
