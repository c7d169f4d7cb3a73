use Rattle.std.proofs.Common.{◌≡◌, drop}
use Rattle.std.specs.List.{fold}
use Rattle.unit_meaning.specs.Interfaces as spec
use Rattle.expr_types.specs.Known.{IsSoundScope}
use Rattle.interface_types.proofs.interfaces.ports.Given as goal

abbrev pub invariant-loop-one : goal.invariant-loop-one
invariant-loop-one l =
    record {
      told : fold (spec.port_declaration l.names) l.book (drop l.one-index l.all) ≡ fold (spec.port_declaration l.names) l.fn.book l.all;
      sound : IsSoundScope l.book.scope;
    }
