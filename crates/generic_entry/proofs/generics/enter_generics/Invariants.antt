use Rattle.std.proofs.Common.{◌≡◌, drop}
use Rattle.unit_meaning.specs.Walk.{generics_entered}
use Rattle.expr_types.specs.Known.{IsSoundScope}
use Rattle.generic_entry.proofs.generics.enter_generics.Given as goal

abbrev pub invariant-loop-generic : goal.invariant-loop-generic
invariant-loop-generic l =
    record {
      told : generics_entered l.names l.given l.place (drop l.generic-index l.generics) l.book ≡ generics_entered l.names l.given 0 l.generics l.fn.book;
      sound : IsSoundScope l.book.scope;
    }
