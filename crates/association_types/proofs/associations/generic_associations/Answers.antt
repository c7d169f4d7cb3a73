use Rattle.association_types.specs.Rules as rules
use Rattle.association_types.proofs.Steps.{step}
use Rattle.association_types.proofs.associations.generic_associations.Goals as goal

pub loop-at-preserved : goal.loop-at-preserved
loop-at-preserved c =
    record {
      told =
          step (rules.generic_rule c.args.names.now c.args.scope.now) c.args.formals.now c.args.all.now c.loop-at.at c.index-all-at.result c.loop-at.notes c.add_generic.new.notes c.loop-at.list c.add_generic.new.list _
          c.loop-at-test.true c.index-all-at.is c.in_ok-add_generic.ensures.ok c.loop-at.invariant.told;
      sound = c.in_ok-add_generic.ensures.sound;
    }
