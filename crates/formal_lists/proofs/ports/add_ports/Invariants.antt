use Rattle.std.proofs.Common.{◌≡◌, ◌++◌, drop}
use Rattle.std.specs.List.{flat_map}
use Rattle.formal_lists.specs.Pairs as pairs
use Rattle.formal_lists.proofs.ports.add_ports.Given as goal

abbrev pub invariant-loop-port : goal.invariant-loop-port
invariant-loop-port l = l.entries ++ flat_map pairs.ports_of (drop l.port-index l.ports) ≡ l.fn.entries ++ flat_map pairs.ports_of l.ports
