use Rattle.std.proofs.Common.{◌≡◌, drop}
use Rattle.elab_meaning.specs.Declarations as spec
use Rattle.expr_types.specs.Known.{IsSoundScope}
use Rattle.decl_types.proofs.declaration.declarations.Given as goal

abbrev pub invariant-loop-one : goal.invariant-loop-one
invariant-loop-one l =
    record {
      told : spec.declarations l.names (drop l.one-index l.all) l.book ≡ spec.declarations l.names l.all l.fn.book;
      sound : IsSoundScope l.book.scope;
    }
