use Rattle.std.proofs.Common.{◌≡◌, drop}
use Rattle.elab_meaning.specs.Declarations as spec
use Rattle.expr_types.specs.Known.{IsSoundScope}
use Rattle.decl_names.proofs.declaring.declare_faulty.Given as goal

abbrev pub invariant-loop-name : goal.invariant-loop-name
invariant-loop-name l =
    record {
      told : spec.each spec.faulty (drop l.name-index l.names) l.book ≡ spec.each spec.faulty l.names l.fn.book;
      sound : IsSoundScope l.book.scope;
    }
