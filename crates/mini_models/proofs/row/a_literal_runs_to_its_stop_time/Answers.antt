-- The run computes.
use Rattle.std.proofs.Common.{refl}
use Rattle.ams_value.specs.Values.{equals}
use Rattle.step_data.specs.Same.{all_same}
use Rattle.step_model.specs.System.{attempt}
use Rattle.lockstep_model.specs.Lockstep.{phase, locate, goes_on, branch_events, gathered_with, with_element}
use Rattle.mini_models.proofs.row.a_literal_runs_to_its_stop_time.Goals as goal

pub returns-clause-events : goal.returns-clause-events
unfolding phase locate goes_on branch_events gathered_with with_element attempt all_same equals
returns-clause-events c = refl

pub returns-clause-end : goal.returns-clause-end
unfolding phase locate goes_on branch_events gathered_with with_element attempt all_same equals
returns-clause-end c = refl

pub returns-clause-cycles : goal.returns-clause-cycles
unfolding phase locate goes_on branch_events gathered_with with_element attempt all_same equals
returns-clause-cycles c = refl

pub returns-clause-tries : goal.returns-clause-tries
unfolding phase locate goes_on branch_events gathered_with with_element attempt all_same equals
returns-clause-tries c = refl
