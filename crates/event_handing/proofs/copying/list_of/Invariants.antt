use Rattle.std.proofs.Common.{◌≡◌, take}
use Rattle.event_handing.proofs.copying.list_of.Given as goal

abbrev pub invariant-loop-element : goal.invariant-loop-element
invariant-loop-element l = l.list ≡ take l.element-index l.elements
