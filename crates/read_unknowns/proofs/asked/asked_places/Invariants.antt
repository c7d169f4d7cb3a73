use Rattle.std.proofs.Common.{◌≡◌, ◌++◌, drop, false}
use Rattle.read_unknowns.specs.Asked.{stands_on, asked_from}
use Rattle.read_unknowns.proofs.asked.asked_places.Given as goal

abbrev pub invariant-loop-i : goal.invariant-loop-i
invariant-loop-i l = l.places.items ++ asked_from (stands_on l.pair) l.found l.i (drop l.i l.unknowns) ≡ asked_from (stands_on l.pair) false 0 l.unknowns
