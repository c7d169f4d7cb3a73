use Rattle.std.proofs.Common.{◌≡◌, ◌++◌, drop}
use Rattle.std.specs.String.{string_bytes}
use Rattle.ams_lexer.specs.Strings.{bit_text}
use Rattle.ams_lexer.proofs.strings.push_bits.Given as goal

abbrev pub invariant-loop-byte : goal.invariant-loop-byte
invariant-loop-byte l = string_bytes l.out ++ bit_text l.width (drop l.byte-index l.digits) ≡ string_bytes l.fn.out ++ bit_text l.width l.digits
