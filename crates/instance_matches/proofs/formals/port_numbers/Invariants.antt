use Rattle.std.proofs.Common.{◌≡◌, ◌++◌, drop}
use Rattle.unit_meaning.specs.Walk.{port_numbers}
use Rattle.instance_matches.proofs.formals.port_numbers.Given as goal

abbrev pub invariant-loop-port : goal.invariant-loop-port
invariant-loop-port l = l.all ++ port_numbers (drop l.port-index l.ports) ≡ port_numbers l.ports
