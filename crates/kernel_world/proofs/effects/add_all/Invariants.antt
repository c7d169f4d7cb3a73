use Rattle.std.proofs.Common.{◌≡◌, ◌++◌, take}
use Rattle.kernel_world.proofs.effects.add_all.Given as goal

abbrev pub invariant-loop-element : goal.invariant-loop-element
invariant-loop-element l = l.list ≡ l.initial.list ++ take l.element-index l.added
