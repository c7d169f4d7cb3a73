use Rattle.std.proofs.Common.{◌∙◌}
use Rattle.std.proofs.lemmas.Result.{err_from_is_err_and}
use Rattle.lockstep_model.specs.Works.{events_of}
use Rattle.core_steps.specs.Giving.{gave_then, gave_front, gave_all, none_at_end}
use Rattle.core_steps.proofs.core_of_two.CoreOfTwo.finish.Goals as goal

pub returns-in-Ended-clause-events : goal.returns-in-Ended-clause-events
returns-in-Ended-clause-events g c =
    gave_all c.args.out.now c.step.new.out (events_of c.args.self.now.led.walk.works) (events_of c.step.new.self.led.walk.works)
    (none_at_end c.step.new.self.led.walk c.in_ok-said.said c.in-Ended.end c.in-Ended.is c.in_ok-said.ensures.ended)
    (gave_then c.args.out.now c.loop-said.out c.step.new.out (events_of c.args.self.now.led.walk.works) (events_of c.loop-said.self.led.walk.works) (events_of c.step.new.self.led.walk.works)
    c.loop-said.invariant.gave c.in_ok-said.ensures.gave)

pub returns-in-Ended-clause-balanced : goal.returns-in-Ended-clause-balanced
returns-in-Ended-clause-balanced g c = λ total h. c.in_ok-said.ensures.balanced total (c.loop-said.invariant.balanced total h)

pub returns-in_err-said-clause-front : goal.returns-in_err-said-clause-front
returns-in_err-said-clause-front g c =
    let p = err_from_is_err_and c.from_residual.result c.from_residual.ensures.1 in
    rw p.1
    (gave_front c.args.out.now c.loop-said.out c.step.new.out (events_of c.args.self.now.led.walk.works) (events_of c.loop-said.self.led.walk.works) c.loop-said.invariant.gave c.in_err-said.ensures.front)

pub loop-said-preserved : goal.loop-said-preserved
loop-said-preserved g c =
    record {
      gave =
          gave_then c.args.out.now c.loop-said.out c.step.new.out (events_of c.args.self.now.led.walk.works) (events_of c.loop-said.self.led.walk.works) (events_of c.step.new.self.led.walk.works)
          c.loop-said.invariant.gave c.in_ok-said.ensures.gave;
      end = c.in_ok-said.ensures.end ∙ c.loop-said.invariant.end;
      balanced = λ total h. c.in_ok-said.ensures.balanced total (c.loop-said.invariant.balanced total h);
    }
