use Rattle.std.proofs.Common.{◌≡◌, ℕ, ◌+◌, drop}
use Rattle.lockstep_model.specs.Works.{events_of}
use Rattle.core_steps.specs.States.{stepped_all, engine_steps}
use Rattle.core_steps.specs.Ending.{Nears}
use Rattle.run_place.specs.Giving.{Gave}
use Rattle.core_steps.specs.Laws.{Balanced}
use Rattle.core_steps.proofs.core_of_two.CoreOfTwo.steps.Given as goal

abbrev pub invariant-loop-step : goal.invariant-loop-step
invariant-loop-step g l =
    record {
      state : stepped_all (g.D.Design.system 0) (drop l.step-index l.schedule) l.self ≡ stepped_all (g.D.Design.system 0) l.schedule l.fn.self;
      gave : Gave l.fn.out l.out (events_of l.fn.self.led.walk.works) (events_of l.self.led.walk.works);
      end : l.self.led.walk.end ≡ l.fn.self.led.walk.end;
      nears : (gone : ℕ) × (gone + engine_steps (drop l.step-index l.schedule) ≡ engine_steps l.schedule) × Nears gone l.fn.self l.self;
      balanced : (total : ℕ) → Balanced total l.fn.self.led l.fn.self.line → Balanced total l.self.led l.self.line;
    }
