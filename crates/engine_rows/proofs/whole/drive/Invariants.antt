use Rattle.std.proofs.Common.{◌≡◌, ◌++◌, length}
use Rattle.step_model.specs.System.{attempt as attempt_of}
use Rattle.lockstep_model.specs.Walk.{Fits, moves_left}
use Rattle.lockstep_model.specs.Works.{events_of}
use Rattle.engine_replies.specs.Replying.{reply_by}
use Rattle.engine_rows.proofs.whole.drive.Given as goal

abbrev pub invariant-loop-said : goal.invariant-loop-said
invariant-loop-said g l =
    record {
      fits : Fits (attempt_of (g.D.Design.system 0)) l.engine.walk l.engine.walk.awaited (reply_by l.reply l.made);
      room : length l.made.x ≡ (g.D.Design.system 0).unknowns;
      rest : l.out ++ events_of l.engine.walk.works ≡ l.fn.out ++ events_of l.fn.engine.walk.works;
      end : l.engine.walk.end ≡ l.fn.engine.walk.end;
    }

abbrev pub decreases-loop-said : goal.decreases-loop-said
decreases-loop-said g l = moves_left l.engine.walk
