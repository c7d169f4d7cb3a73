use Rattle.std.proofs.Common.{◌≡◌, ◌++◌, map, drop}
use Rattle.formal_lists.specs.Pairs as pairs
use Rattle.formal_lists.proofs.ports.add_names.Given as goal

abbrev pub invariant-loop-name : goal.invariant-loop-name
invariant-loop-name l = l.entries ++ map (pairs.port_of l.nature) (drop l.name-index l.names) ≡ l.fn.entries ++ map (pairs.port_of l.nature) l.names
