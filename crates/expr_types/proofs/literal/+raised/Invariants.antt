use Rattle.expr_types.proofs.literal.+raised.Given as goal

abbrev pub decreases-raised : goal.decreases-raised
decreases-raised l = l.exponent
