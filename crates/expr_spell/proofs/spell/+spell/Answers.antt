use Rattle.expr_spell.specs.Spelling.{spelling}
use Rattle.expr_spell.proofs.Loops.{behind_more}
use Rattle.expr_spell.proofs.spell.+spell.Goals as goal

pub put_separated-loop-argument-preserved : goal.put_separated-loop-argument-preserved
put_separated-loop-argument-preserved t c = behind_more spelling _ _ _ c.loop-argument-test.true c.argument-item.is _ _ _ _ _ c.loop-argument.invariant c.in_ok-put_mark.ensures c.in_ok-put_expr-2.ensures
