use Rattle.std.proofs.Common.{◌≡◌, take}
use Rattle.kernel_world.proofs.effects.text_of.Given as goal

abbrev pub invariant-loop-byte : goal.invariant-loop-byte
invariant-loop-byte l = l.text ≡ take l.byte-index l.bytes
