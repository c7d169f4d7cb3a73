use Rattle.std.proofs.Common.{◌≡◌, drop}
use Rattle.unit_meaning.specs.Walk.{ports_entered}
use Rattle.expr_types.specs.Known.{IsSoundScope}
use Rattle.port_entry.specs.Entries.{entry_of}
use Rattle.port_entry.proofs.ports.enter_ports.Given as goal

abbrev pub invariant-loop-port : goal.invariant-loop-port
invariant-loop-port l =
    record {
      told : ports_entered l.names l.outer l.given l.place (drop l.port-index l.ports) (entry_of l.entry) ≡ ports_entered l.names l.outer l.given 0 l.ports (entry_of l.fn.entry);
      sound : IsSoundScope l.entry.book.scope;
    }
