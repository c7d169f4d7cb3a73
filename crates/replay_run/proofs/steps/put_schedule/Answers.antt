use Rattle.std.proofs.Common.{◌∙◌, arith}
use Rattle.std.proofs.lemmas.Grind.{common_steps}
use Rattle.replay_model.specs.Reaching.{nears_less}
use Rattle.replay_run.proofs.Putting.{some_more, rest_stops}
use Rattle.replay_run.proofs.steps.put_schedule.Goals as goal

pub loop-step-preserved : goal.loop-step-preserved
loop-step-preserved g c =
    record {
      state = grind (arith, common_steps);
      written = some_more _ _ _ _ _ _ c.loop-step.invariant.written c.in-Ok.ensures.puts.ok;
      later = let l = c.turn.ensures.puts.later in let m = c.loop-step.invariant.later in omega arith;
      list = c.in-Ok.ensures.list;
      end = c.in-Ok.ensures.end ∙ c.loop-step.invariant.end;
      nears = nears_less _ _ _ _ c.loop-step.invariant.nears c.in-Ok.ensures.nears;
    }

pub returns-in-Err-clause-puts : goal.returns-in-Err-clause-puts
returns-in-Err-clause-puts g c =
    rest_stops c.turn.result c.in-Err.fault _ _ _ _ _ _ _ _ _ _ c.loop-step.invariant.written c.loop-step.invariant.later c.turn.ensures.puts c.in-Err.is

pub returns-clause-puts : goal.returns-clause-puts
returns-clause-puts g c = record { ok = c.loop-step.invariant.written; err = tt; later = c.loop-step.invariant.later }
