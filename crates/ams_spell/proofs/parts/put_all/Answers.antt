use Rattle.expr_spell.proofs.Loops.{joined_more}
use Rattle.ams_spell.proofs.parts.put_all.Goals as goal

pub loop-item-preserved : goal.loop-item-preserved
loop-item-preserved g c = joined_more g.T.Spell.kinds _ _ _ c.loop-item-test.true c.item-item.is _ _ _ c.loop-item.invariant c.in_ok-spell.ensures
