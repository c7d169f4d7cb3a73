use Rattle.threaded_run.specs.Few.{own_names}
use Rattle.threaded_run.proofs.start.run.Given as goal

abbrev pub ghosts-run_named : goal.ghosts-run_named
ghosts-run_named g a = record { names = own_names a.blanks; part = 0 }
