use Rattle.expr_types.proofs.literal.+lowered.Given as goal

abbrev pub decreases-lowered : goal.decreases-lowered
decreases-lowered l = l.digits
