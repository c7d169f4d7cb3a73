use Rattle.kept_rows.proofs.turns.+raise.Given as goal

abbrev pub decreases-raise : goal.decreases-raise
decreases-raise l = l.turns
