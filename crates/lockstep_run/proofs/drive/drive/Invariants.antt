use Rattle.std.proofs.Common.{◌≡◌, ◌≤◌, []}
use Rattle.step_model.specs.System.{attempt as attempt_of}
use Rattle.lockstep_model.specs.Walk.{Fits, moves_left, reply_of}
use Rattle.lockstep_model.specs.Works.{events_of}
use Rattle.mixed_cycle.specs.Moving.{FitsIn}
use Rattle.trace_sink.specs.Puts.{Written}
use Rattle.trace_lines.specs.Lines.{event_lines}
use Rattle.lockstep_run.proofs.drive.drive.Given as goal

-- the lines of the works so far are written, and the works left follow
abbrev pub invariant-loop-end : goal.invariant-loop-end
invariant-loop-end g l =
    let sink = g.W.Sink in
    let sys = g.D.Design.system 0 in
    record {
      fits : Fits (attempt_of sys) l.engine.walk l.engine.walk.awaited (reply_of l.answer);
      has_room : FitsIn sys.unknowns (reply_of l.answer);
      list : l.out ≡ [];
      written : Written (sink.held l.fn.trace) (sink.held l.trace) (event_lines l.enums (events_of l.fn.engine.walk.works)) (event_lines l.enums (events_of l.engine.walk.works));
      later : sink.faults l.fn.trace ≤ sink.faults l.trace;
      end : l.engine.walk.end ≡ l.fn.engine.walk.end;
    }

abbrev pub decreases-loop-end : goal.decreases-loop-end
decreases-loop-end g l = moves_left l.engine.walk
