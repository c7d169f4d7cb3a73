use Rattle.std.proofs.Common.{◌≡◌, drop}
use Rattle.unit_meaning.specs.Units as spec
use Rattle.expr_types.specs.Known.{IsSoundScope}
use Rattle.unit_parts.proofs.labelling.labels.Given as goal

abbrev pub invariant-loop-written : goal.invariant-loop-written
invariant-loop-written l =
    record {
      told : spec.labels (drop l.written-index l.all) l.book ≡ spec.labels l.all l.fn.book;
      sound : IsSoundScope l.book.scope;
    }
