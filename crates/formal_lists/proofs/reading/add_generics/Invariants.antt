use Rattle.std.proofs.Common.{◌≡◌, ◌++◌, drop}
use Rattle.expr_types.specs.Known.{IsSoundScope}
use Rattle.formal_lists.specs.Reading as spec
use Rattle.formal_lists.proofs.reading.add_generics.Given as goal

abbrev pub invariant-loop-written : goal.invariant-loop-written
invariant-loop-written l =
    record {
      told : l.entries ++ spec.formals_from l.names l.book (drop l.written-index l.generics) ≡ l.fn.entries ++ spec.formals_from l.names l.fn.book l.generics;
      sound : IsSoundScope l.book.scope;
    }
