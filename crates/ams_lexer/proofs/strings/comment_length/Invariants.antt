use Rattle.std.proofs.Common.{◌≡◌, ◌+◌, drop}
use Rattle.ams_lexer.specs.Strings.{front_length, is_comment_byte}
use Rattle.ams_lexer.proofs.strings.comment_length.Given as goal

abbrev pub invariant-loop-i : goal.invariant-loop-i
invariant-loop-i l = l.i + front_length is_comment_byte (drop l.i l.bytes) ≡ front_length is_comment_byte l.bytes
