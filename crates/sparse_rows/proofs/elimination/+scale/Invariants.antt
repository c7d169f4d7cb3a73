use Rattle.sparse_rows.proofs.elimination.+scale.Given as goal

abbrev pub decreases-scale : goal.decreases-scale
decreases-scale l = l.turns
