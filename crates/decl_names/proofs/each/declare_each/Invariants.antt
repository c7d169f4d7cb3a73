use Rattle.std.proofs.Common.{◌≡◌, drop}
use Rattle.elab_meaning.specs.Declarations as spec
use Rattle.expr_types.specs.Known.{IsSoundScope}
use Rattle.decl_names.specs.Entries.{declared_as}
use Rattle.decl_names.proofs.each.declare_each.Given as goal

abbrev pub invariant-loop-name : goal.invariant-loop-name
invariant-loop-name l =
    record {
      told : spec.each (declared_as l.names l.entry) (drop l.name-index l.declared) l.book ≡ spec.each (declared_as l.names l.entry) l.declared l.fn.book;
      sound : IsSoundScope l.book.scope;
    }
