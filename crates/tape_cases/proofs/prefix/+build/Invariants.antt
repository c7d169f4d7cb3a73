use Rattle.tape_cases.proofs.prefix.+build.Given as goal

abbrev pub decreases-build : goal.decreases-build
decreases-build l = l.levels
