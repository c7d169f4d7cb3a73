use Rattle.std.proofs.Common.{◌≡◌, ◌+◌, drop}
use Rattle.std.specs.Char.{is_ascii}
use Rattle.ams_lexer.specs.Strings.{front_length}
use Rattle.ams_lexer.proofs.strings.ascii_length.Given as goal

abbrev pub invariant-loop-i : goal.invariant-loop-i
invariant-loop-i l = l.i + front_length is_ascii (drop l.i l.bytes) ≡ front_length is_ascii l.bytes
