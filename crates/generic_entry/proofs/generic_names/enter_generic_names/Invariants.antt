use Rattle.std.proofs.Common.{◌≡◌, drop}
use Rattle.unit_meaning.specs.Walk.{generic_names}
use Rattle.expr_types.specs.Known.{IsSoundScope}
use Rattle.generic_entry.proofs.generic_names.enter_generic_names.Given as goal

abbrev pub invariant-loop-name : goal.invariant-loop-name
invariant-loop-name l =
    record {
      told : generic_names l.given l.valued l.has_default l.place (drop l.name-index l.declared) l.book ≡ generic_names l.given l.valued l.has_default l.first l.declared l.fn.book;
      sound : IsSoundScope l.book.scope;
    }
