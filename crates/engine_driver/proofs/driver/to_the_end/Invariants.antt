use Rattle.std.proofs.Common.{◌≡◌, ◌≤◌, [], length}
use Rattle.step_model.specs.System.{attempt as attempt_of}
use Rattle.lockstep_model.specs.Walk.{Fits, moves_left}
use Rattle.lockstep_model.specs.Works.{events_of}
use Rattle.engine_replies.specs.Replying.{reply_by}
use Rattle.engine_driver.specs.Standing.{Told, Counted}
use Rattle.engine_driver.proofs.driver.to_the_end.Given as goal

abbrev pub invariant-loop-turn : goal.invariant-loop-turn
invariant-loop-turn g l =
    record {
      fits : Fits (attempt_of (g.D.Design.system 0)) l.engine.walk l.engine.walk.awaited (reply_by l.reply l.scratch.found);
      room : length l.scratch.found.x ≡ (g.D.Design.system 0).unknowns;
      empty : l.scratch.events ≡ [];
      told : Told g.T.EventSink.gained l.fn.sink l.sink (events_of l.fn.engine.walk.works) (events_of l.engine.walk.works);
      later : g.T.EventSink.faults l.fn.sink ≤ g.T.EventSink.faults l.sink;
      end : l.engine.walk.end ≡ l.fn.engine.walk.end;
      counted : Counted l.fn.engine.walk l.engine.walk (reply_by l.reply l.scratch.found) l.line.seat;
    }

abbrev pub decreases-loop-turn : goal.decreases-loop-turn
decreases-loop-turn g l = moves_left l.engine.walk
