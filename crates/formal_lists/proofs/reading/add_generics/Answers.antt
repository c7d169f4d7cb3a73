use Rattle.formal_lists.proofs.ReadOnce.{step}
use Rattle.formal_lists.proofs.reading.add_generics.Goals as goal

pub loop-written-preserved : goal.loop-written-preserved
loop-written-preserved c =
    record {
      told =
          step c.args.names.now c.args.generics.now c.loop-written.written-index c.written-item.result c.loop-written.book c.add_generic.new.book c.loop-written.entries c.add_generic.new.entries _
          c.loop-written-test.true c.written-item.is c.in_ok-add_generic.ensures.entries c.in_ok-add_generic.ensures.ok c.loop-written.invariant.told;
      sound = c.in_ok-add_generic.ensures.sound;
    }
