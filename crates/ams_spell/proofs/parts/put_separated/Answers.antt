use Rattle.expr_spell.proofs.Loops.{behind_more}
use Rattle.ams_spell.proofs.parts.put_separated.Goals as goal

pub loop-item-preserved : goal.loop-item-preserved
loop-item-preserved g c = behind_more g.T.Spell.kinds _ _ _ c.loop-item-test.true c.item-item.is _ _ _ _ _ c.loop-item.invariant c.in_ok-push.ensures.ok c.in_ok-spell-2.ensures
