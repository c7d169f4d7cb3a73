use Rattle.std.proofs.Common.{List, [], subst}
use Rattle.step_data.specs.declared.event.Event.{Event}
use Rattle.lockstep_model.specs.Works.{events_of}
use Rattle.run_place.specs.Giving.{Gave}
use Rattle.replay_run.proofs.Putting.{step_fails}
use Rattle.replay_run.proofs.steps.turn.Goals as goal

pub returns-in-Err-put_list-clause-puts : goal.returns-in-Err-put_list-clause-puts
returns-in-Err-put_list-clause-puts g c =
    let whole : List Event = events_of c.args.core.now.led.walk.works in
    let rest : List Event = events_of c.step.new.self.led.walk.works in
    let gave : Gave [] c.step.new.out whole rest = subst (λ (o : List Event). Gave o c.step.new.out whole rest) c.requires.list c.in-Ok.ensures.gave in
    step_fails c.put_list.result c.in-Err-put_list.fault c.args.enums.now c.step.new.out whole rest _ _ _ _ _ gave c.put_list.ensures.puts c.in-Err-put_list.is
