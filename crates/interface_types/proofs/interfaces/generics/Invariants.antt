use Rattle.std.proofs.Common.{◌≡◌, drop}
use Rattle.std.specs.List.{fold}
use Rattle.unit_meaning.specs.Interfaces as spec
use Rattle.expr_types.specs.Known.{IsSoundScope}
use Rattle.interface_types.proofs.interfaces.generics.Given as goal

abbrev pub invariant-loop-one : goal.invariant-loop-one
invariant-loop-one l =
    record {
      told : fold (spec.generic l.names) l.book (drop l.one-index l.all) ≡ fold (spec.generic l.names) l.fn.book l.all;
      sound : IsSoundScope l.book.scope;
    }
