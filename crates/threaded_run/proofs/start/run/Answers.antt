use Rattle.threaded_run.specs.Few.{few_attempts, all_named}
use Rattle.threaded_run.proofs.start.run.Goals as goal

pub run_named-requires-clause-named : goal.run_named-requires-clause-named
run_named-requires-clause-named g c = λ k h. all_named c.new.result

pub run_named-requires-clause-few : goal.run_named-requires-clause-few
run_named-requires-clause-few g c = λ k h. few_attempts (g.D.Design.system 0) c.requires.tries
