use Rattle.std.proofs.Common.{◌≡◌, ℕ, ◌≤◌, []}
use Rattle.lockstep_model.specs.Walk.{moves_left}
use Rattle.lockstep_model.specs.Works.{events_of}
use Rattle.trace_sink.specs.Puts.{Written}
use Rattle.trace_lines.specs.Lines.{event_lines}
use Rattle.replay_model.specs.Replays.{IsEnough}
use Rattle.replay_model.specs.Reaching.{Leads}
use Rattle.replay_run.proofs.steps.put_rest.Given as goal

-- the lines of the steps so far are written, and the steps left lead to the end
abbrev pub invariant-loop-end : goal.invariant-loop-end
invariant-loop-end g l =
    let sink = g.W.Sink in
    record {
      state : (n : ℕ) → IsEnough n l.fn.core → (left : ℕ) × Leads (g.D.Design.system 0) n left l.fn.core l.core;
      written : Written (sink.held l.fn.trace) (sink.held l.trace) (event_lines l.enums (events_of l.fn.core.led.walk.works)) (event_lines l.enums (events_of l.core.led.walk.works));
      later : sink.faults l.fn.trace ≤ sink.faults l.trace;
      list : l.out ≡ [];
      end : l.core.led.walk.end ≡ l.fn.core.led.walk.end;
    }

abbrev pub decreases-loop-end : goal.decreases-loop-end
decreases-loop-end g l = moves_left l.core.led.walk
