use Rattle.std.proofs.Common.{◌≡◌, ◌++◌, drop, false}
use Rattle.std.specs.String.{string_bytes}
use Rattle.ams_lexer.specs.Strings.{undoubled}
use Rattle.ams_lexer.proofs.strings.push_content.Given as goal

abbrev pub invariant-loop-byte : goal.invariant-loop-byte
invariant-loop-byte l = string_bytes l.out ++ undoubled l.skip (drop l.byte-index l.body) ≡ string_bytes l.fn.out ++ undoubled false l.body
