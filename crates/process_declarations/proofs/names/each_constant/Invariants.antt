use Rattle.std.proofs.Common.{◌≡◌, drop}
use Rattle.std.specs.List.{fold}
use Rattle.unit_meaning.specs.Processes as spec
use Rattle.expr_types.specs.Known.{IsSoundScope}
use Rattle.process_declarations.specs.Parts.{declared_at}
use Rattle.process_declarations.proofs.names.each_constant.Given as goal

abbrev pub invariant-loop-name : goal.invariant-loop-name
invariant-loop-name l =
    record {
      told : fold (spec.constant l.valued) (declared_at l.scope l.read) (drop l.name-index l.declared) ≡ fold (spec.constant l.valued) (declared_at l.fn.scope l.fn.read) l.declared;
      sound : IsSoundScope l.scope;
    }
