use Rattle.std.proofs.Common.{◌≡◌, ◌++◌, ap, ◌∙◌, arith}
use Rattle.lockstep_model.specs.Walk as w
use Rattle.lockstep_model.specs.Walk.{Walk, Move, moved}
use Rattle.lockstep_model.specs.WalkLaws.{moved_keeps}
use Rattle.lockstep_model.specs.Works.{events_of}
use Rattle.engine_replies.specs.Replying.{reply_by}
use Rattle.engine_driver.specs.Standing.{told_on}
use Rattle.engine_driver.proofs.Turning.{counted_turn}
use Rattle.engine_driver.proofs.driver.to_the_end.Goals as goal

pub loop-turn-preserved : goal.loop-turn-preserved
loop-turn-preserved g c =
    let laws = g.met.T.EventSink in
    let first : Walk = c.args.engine.now.walk in
    let old : Walk = c.loop-turn.engine.walk in
    let new : Walk = c.round.new.engine.walk in
    let reply : w.Reply = reply_by c.loop-turn.reply c.loop-turn.scratch.found in
    let m : Move = moved old reply in
    let walk : new ≡ m.walk = c.in-Ok.ensures.walk in
    let rest : m.events ++ events_of new.works ≡ events_of old.works =
    ap (λ (y : Walk). m.events ++ events_of y.works) walk ∙ (moved_keeps old reply).events in
    let before = c.loop-turn.invariant.later in
    let after = c.round.ensures.later in
    record {
      fits = c.in-Ok.ensures.fits;
      room = c.in-Ok.ensures.room;
      empty = c.in-Ok.ensures.empty;
      told =
          told_on g.T.EventSink.gained c.args.sink.now c.loop-turn.sink c.round.new.sink (events_of first.works) (events_of old.works) (events_of new.works) m.events laws.joins c.loop-turn.invariant.told c.in-Ok.ensures.gained rest;
      later = omega arith;
      end = ap (λ (y : Walk). y.end) walk ∙ ((moved_keeps old reply).end ∙ c.loop-turn.invariant.end);
      counted =
          counted_turn first old new reply m c.in-Ok.turn.said c.in-Ok.turn.reply c.round.new.scratch.found c.loop-turn.line.seat c.round.new.line.seat c.requires.few c.loop-turn.invariant.counted c.in-Ok.ensures.spends c.in-Ok.ensures.owns c.in-Ok.ensures.begins walk c.in-Ok.ensures.says c.in-Ok.ensures.kind c.in-Ok.ensures.seat;
    }
