use Rattle.kept_rows.proofs.turns.+scale.Given as goal

abbrev pub decreases-scale : goal.decreases-scale
decreases-scale l = l.turns
