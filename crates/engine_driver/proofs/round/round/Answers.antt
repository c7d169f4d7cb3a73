use Rattle.std.proofs.Common.{List, [], ◌++◌, ap, subst, ◌∙◌}
use Rattle.step_data.specs.declared.event.Event.{Event}
use Rattle.lockstep_model.specs.Walk.{Move, moved}
use Rattle.lockstep_model.specs.WalkLaws.{moved_keeps}
use Rattle.lockstep_model.specs.Works.{events_of}
use Rattle.engine_replies.specs.Replying.{reply_by}
use Rattle.engine_driver.proofs.round.round.Goals as goal

pub returns-in-Err-clause-stopped : goal.returns-in-Err-clause-stopped
returns-in-Err-clause-stopped g c =
    let laws = g.met.T.EventSink in
    laws.lost c.args.sink.now c.args.sink.now [] (events_of c.args.engine.now.walk.works) (laws.nothing c.args.sink.now)

pub returns-in-Err-take_in-clause-stopped : goal.returns-in-Err-take_in-clause-stopped
returns-in-Err-take_in-clause-stopped g c =
    let laws = g.met.T.EventSink in
    let m : Move = moved c.args.engine.now.walk (reply_by c.args.reply c.args.scratch.now.found) in
    subst (λ (xs : List Event). g.T.EventSink.stopped c.in-Err-take_in.fault c.args.sink.now c.take_in.new.self xs)
    (ap (λ (xs : List Event). xs ++ events_of m.walk.works) c.in-Ok.ensures.events ∙ (moved_keeps c.args.engine.now.walk (reply_by c.args.reply c.args.scratch.now.found)).events)
    (laws.ends c.in-Err-take_in.fault c.args.sink.now c.take_in.new.self c.pass_move.new.events (events_of m.walk.works) c.in-Err-take_in.ensures.err)
