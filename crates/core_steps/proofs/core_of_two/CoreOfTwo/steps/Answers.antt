use Rattle.std.proofs.Common.{◌∙◌, arith, refl}
use Rattle.std.proofs.lemmas.Grind.{common_steps}
use Rattle.std.proofs.lemmas.Result.{err_from_is_err_and}
use Rattle.lockstep_model.specs.Works.{events_of}
use Rattle.core_steps.specs.Giving.{gave_then, gave_front}
use Rattle.core_steps.proofs.Nearing.{nears_on, all_done}
use Rattle.core_steps.proofs.core_of_two.CoreOfTwo.steps.Goals as goal

pub returns-in_err-step-clause-front : goal.returns-in_err-step-clause-front
returns-in_err-step-clause-front g c =
    let p = err_from_is_err_and c.from_residual.result c.from_residual.ensures.1 in
    rw p.1
    (gave_front c.args.out.now c.loop-step.out c.step.new.out (events_of c.args.self.now.led.walk.works) (events_of c.loop-step.self.led.walk.works) c.loop-step.invariant.gave c.in_err-step.ensures.front)

pub loop-step-preserved : goal.loop-step-preserved
loop-step-preserved g c =
    record {
      state = grind (arith, common_steps);
      gave =
          gave_then c.args.out.now c.loop-step.out c.step.new.out (events_of c.args.self.now.led.walk.works) (events_of c.loop-step.self.led.walk.works) (events_of c.step.new.self.led.walk.works)
          c.loop-step.invariant.gave c.in_ok-step.ensures.gave;
      end = c.in_ok-step.ensures.end ∙ c.loop-step.invariant.end;
      nears = nears_on c.args.schedule.now c.loop-step.step-index _ c.args.self.now c.loop-step.self c.step.new.self c.loop-step-test.true refl c.loop-step.invariant.nears c.in_ok-step.ensures.nears;
      balanced = λ total h. c.in_ok-step.ensures.balanced total (c.loop-step.invariant.balanced total h);
    }

pub returns-clause-ended : goal.returns-clause-ended
returns-clause-ended g c = λ some few. all_done c.args.schedule.now c.loop-step.step-index c.args.self.now c.loop-step.self c.loop-step-test.false c.loop-step.invariant.nears some few
