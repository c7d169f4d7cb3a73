use Rattle.std.proofs.Common.{◌≡◌, ℕ}
use Rattle.lockstep_model.specs.Walk.{moves_left}
use Rattle.lockstep_model.specs.Works.{events_of}
use Rattle.run_place.specs.Giving.{Gave}
use Rattle.core_steps.specs.Laws.{Balanced}
use Rattle.core_steps.proofs.core_of_two.CoreOfTwo.finish.Given as goal

abbrev pub invariant-loop-said : goal.invariant-loop-said
invariant-loop-said g l =
    record {
      gave : Gave l.fn.out l.out (events_of l.fn.self.led.walk.works) (events_of l.self.led.walk.works);
      end : l.self.led.walk.end ≡ l.fn.self.led.walk.end;
      balanced : (total : ℕ) → Balanced total l.fn.self.led l.fn.self.line → Balanced total l.self.led l.self.line;
    }

abbrev pub decreases-loop-said : goal.decreases-loop-said
decreases-loop-said g l = moves_left l.self.led.walk
