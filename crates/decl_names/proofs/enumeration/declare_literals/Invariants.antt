use Rattle.std.proofs.Common.{◌≡◌, ◌≤◌, ◌-◌, length, drop}
use Rattle.elab_meaning.specs.Declarations as spec
use Rattle.expr_types.specs.Known.{IsSoundScope}
use Rattle.decl_names.proofs.enumeration.declare_literals.Given as goal

abbrev pub invariant-loop-position : goal.invariant-loop-position
invariant-loop-position l =
    record {
      told : spec.literals_from l.number l.position (drop l.position l.literals) l.book ≡ spec.literals_from l.number 0 l.literals l.fn.book;
      bound : l.position ≤ length l.literals;
      sound : IsSoundScope l.book.scope;
    }

abbrev pub decreases-loop-position : goal.decreases-loop-position
decreases-loop-position l = length l.literals - l.position
