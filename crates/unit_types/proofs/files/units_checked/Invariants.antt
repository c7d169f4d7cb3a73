use Rattle.std.proofs.Common.{◌≡◌, [], drop}
use Rattle.unit_meaning.specs.Units as spec
use Rattle.unit_index.specs.Index.{known}
use Rattle.unit_types.proofs.files.units_checked.Given as goal

abbrev pub invariant-loop-unit : goal.invariant-loop-unit
invariant-loop-unit l =
    record {
      told : spec.units_checked l.names (known l.units) (known l.before) (drop l.unit-index l.all) l.book ≡ spec.units_checked l.names (known l.units) [] l.all l.fn.book;
      before : l.before ≡ record { all = l.all; count = l.unit-index };
    }
