use Rattle.std.proofs.Common.{◌≡◌, drop}
use Rattle.unit_meaning.specs.Associations as spec
use Rattle.association_types.specs.Rules as rules
use Rattle.instance_matches.specs.Sound.{AreSound}
use Rattle.association_types.proofs.Steps.{left}
use Rattle.association_types.proofs.associations.generic_associations.Given as goal

abbrev pub invariant-loop-at : goal.invariant-loop-at
invariant-loop-at l =
    record {
      told : left (rules.generic_rule l.names l.scope) l.formals l.at (drop l.at l.all) l.notes l.list ≡ spec.associations (rules.generic_rule l.names l.scope) l.formals 0 l.all l.fn.notes;
      sound : AreSound l.list;
    }
