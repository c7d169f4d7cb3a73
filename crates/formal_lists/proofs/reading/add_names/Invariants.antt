use Rattle.std.proofs.Common.{◌≡◌, ◌++◌, map, drop}
use Rattle.elab_meaning.specs.Parts.{kept}
use Rattle.formal_lists.specs.Pairs as pairs
use Rattle.formal_lists.proofs.reading.add_names.Given as goal

abbrev pub invariant-loop-name : goal.invariant-loop-name
invariant-loop-name l = l.entries ++ map (pairs.generic_of (kept l.part)) (drop l.name-index l.names) ≡ l.fn.entries ++ map (pairs.generic_of (kept l.part)) l.names
