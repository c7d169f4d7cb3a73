use Rattle.expr_spell.proofs.Loops.{joined_more, behind_more}
use Rattle.ams_spell.specs.Statements as spec
use Rattle.ams_spell.proofs.nested.+statements.Goals as goal

pub put_body-loop-statement-preserved : goal.put_body-loop-statement-preserved
put_body-loop-statement-preserved t c = joined_more spec.statement_kinds _ _ _ c.loop-statement-test.true c.statement-item.is _ _ _ c.loop-statement.invariant c.in_ok-put_statement.ensures

pub put_branches-loop-branch-preserved : goal.put_branches-loop-branch-preserved
put_branches-loop-branch-preserved t c =
    behind_more spec.branch_kinds _ _ _ c.loop-branch-test.true c.branch-item.is _ _ _ _ _ c.loop-branch.invariant c.in_ok-put_word-2.ensures c.in_ok-put_branch-2.ensures

pub put_alternatives-loop-alternative-preserved : goal.put_alternatives-loop-alternative-preserved
put_alternatives-loop-alternative-preserved t c =
    joined_more spec.alternative_kinds _ _ _ c.loop-alternative-test.true c.alternative-item.is _ _ _ c.loop-alternative.invariant c.in_ok-put_alternative.ensures
