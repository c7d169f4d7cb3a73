use Rattle.std.proofs.Common.{◌≡◌, ◌+◌, ◌-◌, ◌^◌, ◌<◌, drop, length}
use Rattle.ams_lexer.specs.Numbers.{value_after}
use Rattle.ams_lexer.proofs.numbers.value_after.Given as goal

abbrev pub invariant-loop-byte : goal.invariant-loop-byte
invariant-loop-byte l = (value_after l.base l.value (drop l.byte-index l.text) ≡ value_after l.base l.start l.text) × (l.value < 16 ^ (32 - length l.text + l.byte-index))
