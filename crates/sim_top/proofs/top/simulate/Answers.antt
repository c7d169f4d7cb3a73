use Rattle.word_rules.specs.Words.{texts}
use Rattle.sim_top.proofs.Points.{points_of_call}
use Rattle.sim_top.proofs.top.simulate.Goals as goal

pub returns-clause-points : goal.returns-clause-points
returns-clause-points g c =
    points_of_call c.points_meet_their_equations.ensures.text c.lines_of_run.ensures c.judge_and_perform_any.result (texts c.args.words.now) _ _ _ c.judge_and_perform_any.ensures
