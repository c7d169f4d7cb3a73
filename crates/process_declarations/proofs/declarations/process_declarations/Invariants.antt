use Rattle.std.proofs.Common.{◌≡◌, drop}
use Rattle.std.specs.List.{fold}
use Rattle.unit_meaning.specs.Processes as spec
use Rattle.expr_types.specs.Known.{IsSoundScope}
use Rattle.process_declarations.specs.Parts.{declared_at}
use Rattle.process_declarations.proofs.declarations.process_declarations.Given as goal

abbrev pub invariant-loop-written : goal.invariant-loop-written
invariant-loop-written l =
    record {
      told : fold (spec.process_declaration l.names) (declared_at l.scope l.read) (drop l.written-index l.all) ≡ fold (spec.process_declaration l.names) (declared_at l.fn.scope l.fn.read) l.all;
      sound : IsSoundScope l.scope;
    }
