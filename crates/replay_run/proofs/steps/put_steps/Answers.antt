use Rattle.std.proofs.lemmas.Result.{on_ok_weaker}
use Rattle.replay_model.specs.Replays.{steps_to_end}
use Rattle.replay_model.specs.Reaching.{enough_first, replay_is}
use Rattle.replay_run.proofs.Putting.{rest_puts}
use Rattle.replay_run.proofs.steps.put_steps.Goals as goal

pub returns-in-Ok-clause-puts : goal.returns-in-Ok-clause-puts
returns-in-Ok-clause-puts g c =
    rest_puts c.put_rest.result _ _ _ _ _ _ _ _ c.in-Ok.ensures.puts.ok c.put_schedule.ensures.puts.later c.put_rest.ensures.puts

pub returns-in-Ok-clause-state : goal.returns-in-Ok-clause-state
returns-in-Ok-clause-state g c =
    let sys = g.D.Design.system 0 in
    let enough = enough_first sys c.args.core.now c.put_schedule.new.core c.requires.fresh c.in-Ok.ensures.nears in
    on_ok_weaker c.put_rest.result
    (λ h. replay_is sys c.args.schedule.now c.args.core.now c.put_schedule.new.core c.put_rest.new.core c.requires.fresh c.in-Ok.ensures.state h)
    (c.put_rest.ensures.state (steps_to_end sys) enough)
