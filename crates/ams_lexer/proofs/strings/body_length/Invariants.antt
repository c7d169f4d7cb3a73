use Rattle.std.proofs.Common.{◌≡◌, ◌+◌, drop, false}
use Rattle.ams_lexer.specs.Strings.{body_length}
use Rattle.ams_lexer.proofs.strings.body_length.Given as goal

abbrev pub invariant-loop-i : goal.invariant-loop-i
invariant-loop-i l = l.i + body_length l.second (drop l.i l.bytes) ≡ body_length false l.bytes
