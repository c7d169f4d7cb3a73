use Rattle.std.proofs.Common.{◌≡◌, ◌++◌, map, drop}
use Rattle.formal_lists.specs.declared.ports.PortFormal.{PortFormal}
use Rattle.formal_lists.proofs.ports.PortFormals.new.Given as goal

abbrev pub invariant-loop-entry : goal.invariant-loop-entry
invariant-loop-entry l = l.names ++ map (λ (e : PortFormal). e.name) (drop l.entry-index l.entry-items) ≡ map (λ (e : PortFormal). e.name) l.entry-items
