use Rattle.std.proofs.Common.{◌≡◌, ◌≤◌, [], drop}
use Rattle.lockstep_model.specs.Works.{events_of}
use Rattle.trace_sink.specs.Puts.{Written}
use Rattle.trace_lines.specs.Lines.{event_lines}
use Rattle.core_steps.specs.States.{stepped_all}
use Rattle.core_steps.specs.Ending.{Nears}
use Rattle.replay_run.proofs.steps.put_schedule.Given as goal

-- the lines of the steps so far are written, and the steps left follow
abbrev pub invariant-loop-step : goal.invariant-loop-step
invariant-loop-step g l =
    let sink = g.W.Sink in
    let sys = g.D.Design.system 0 in
    record {
      state : stepped_all sys (drop l.step-index l.schedule) l.core ≡ stepped_all sys l.schedule l.fn.core;
      written : Written (sink.held l.fn.trace) (sink.held l.trace) (event_lines l.enums (events_of l.fn.core.led.walk.works)) (event_lines l.enums (events_of l.core.led.walk.works));
      later : sink.faults l.fn.trace ≤ sink.faults l.trace;
      list : l.out ≡ [];
      end : l.core.led.walk.end ≡ l.fn.core.led.walk.end;
      nears : Nears 0 l.fn.core l.core;
    }
