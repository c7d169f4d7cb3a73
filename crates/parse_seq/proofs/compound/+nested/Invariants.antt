use Rattle.parse_seq.proofs.compound.+nested.Given as goal

abbrev pub decreases-nested : goal.decreases-nested
decreases-nested l = l.levels
