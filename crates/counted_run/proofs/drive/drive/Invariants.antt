use Rattle.std.proofs.Common.{◌≡◌, ◌+◌, ◌*◌, ◌<◌, ◌^◌, []}
use Rattle.step_model.specs.System.{attempt as attempt_of}
use Rattle.lockstep_model.specs.Walk.{Fits, here, moves_left, reply_of}
use Rattle.lockstep_model.specs.Works.{events_of, attempts_in}
use Rattle.mixed_cycle.specs.Moving.{FitsIn}
use Rattle.run_counts.specs.Counts.{gained, total}
use Rattle.counted_run.proofs.drive.drive.Given as goal

-- the events of the works so far are counted, and the works left follow
abbrev pub invariant-loop-said : goal.invariant-loop-said
invariant-loop-said g l =
    let sys = g.D.Design.system 0 in
    record {
      fits : Fits (attempt_of sys) l.engine.walk l.engine.walk.awaited (reply_of l.answer);
      has_room : FitsIn sys.unknowns (reply_of l.answer);
      empty : here (reply_of l.answer) ≡ 0;
      list : l.out ≡ [];
      counted : gained l.counts (events_of l.engine.walk.works) ≡ gained l.fn.counts (events_of l.fn.engine.walk.works);
      few : total l.counts + (moves_left l.engine.walk + 1) * 2 ^ 64 < 2 ^ 128;
      attempts : l.engine.walk.own + attempts_in l.engine.walk.works ≡ l.fn.engine.walk.own + attempts_in l.fn.engine.walk.works;
      end : l.engine.walk.end ≡ l.fn.engine.walk.end;
    }

abbrev pub decreases-loop-said : goal.decreases-loop-said
decreases-loop-said g l = moves_left l.engine.walk
