use Rattle.std.proofs.Common.{ℕ, ap}
use Rattle.lockstep_model.specs.Lockstep.{lockstep}
use Rattle.lockstep_model.specs.Works.{attempts_in, events_of}
use Rattle.core_steps.specs.States.{State}
use Rattle.core_steps.specs.Giving.{events_on, front_on}
use Rattle.core_steps.specs.Laws.{Balanced}
use Rattle.core_steps.proofs.Spent.{first_balanced, all_spent}
use Rattle.core_steps.proofs.core_of_two.CoreOfTwo.replay.Goals as goal

pub returns-clause-events : goal.returns-clause-events
returns-clause-events g c =
    events_on c.finish.result c.args.out.now c.steps.new.out c.finish.new.out (events_of c.args.self.now.led.walk.works) (events_of (lockstep (g.D.Design.system 0)).works) (events_of c.steps.new.self.led.walk.works)
    c.in_ok-steps.ensures.gave (ap (λ (s : State). events_of s.led.walk.works) c.requires.fresh) c.finish.ensures.events

pub returns-clause-front : goal.returns-clause-front
returns-clause-front g c =
    front_on c.finish.result c.args.out.now c.steps.new.out c.finish.new.out (events_of c.args.self.now.led.walk.works) (events_of (lockstep (g.D.Design.system 0)).works) (events_of c.steps.new.self.led.walk.works)
    c.in_ok-steps.ensures.gave (ap (λ (s : State). events_of s.led.walk.works) c.requires.fresh) c.finish.ensures.front

pub returns-clause-attempts : goal.returns-clause-attempts
returns-clause-attempts g c =
    let total : ℕ = attempts_in (lockstep (g.D.Design.system 0)).works in
    let start : Balanced total c.args.self.now.led c.args.self.now.line = first_balanced (g.D.Design.system 0) c.args.self.now c.requires.fresh c.requires.room in
    all_spent c.finish.result total c.steps.new.self c.finish.new.self (c.in_ok-steps.ensures.balanced total start) c.finish.ensures.balanced c.finish.ensures.none_left c.finish.ensures.none_here
