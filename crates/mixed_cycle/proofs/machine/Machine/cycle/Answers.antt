use Rattle.std.proofs.Common.{◌≡◌, ◌||◌, Bool, List, All, IsTrue, length, refl, sym, subst, ap, ◌∙◌}
use Rattle.ams_value.specs.declared.val.Val.{Val}
use Rattle.lockstep_model.specs.declared.moves.Ask.{Ask}
use Rattle.lockstep_model.specs.declared.moves.Moved.TheVariants as says
use Rattle.step_data.specs.declared.breaks.Element.{Element}
use Rattle.mixed_cycle.specs.Cycling.{cycle_done, cycle_refused, cycle_lost, front_all, gathered_by, renews_by, cycle_from}
use Rattle.mixed_cycle.specs.Gathering.{gathered_all}
use Rattle.mixed_cycle.proofs.machine.Machine.cycle.Goals as goal

pub returns-in_ok-gather_unless-in-Done : goal.returns-in_ok-gather_unless-in-Done
returns-in_ok-gather_unless-in-Done g c =
    let sys = g.D.Design.system 0 in
    let m = c.args.self.now in
    let s = c.requires.sound in
    let timed : Bool = m.place.timed || c.args.to_time in
    let gathers : c.gather_unless.new.gathered ≡ gathered_by timed m.place.gathered c.breaks.result.now =
    c.in_ok-gather_unless-in-Done.ensures ∙ ap (λ (b : Bool). gathered_by b m.place.gathered c.breaks.result.now) c.is_timed_after-is_timed.ensures in
    cycle_done (g.D.Design.system 0) g.S.Stepper.part g.S.Stepper.count g.K.Kernel.state c.args.self.now c.cycle.new.self c.gather_unless.new.gathered c.swap.new.x c.swap.new.y c.in-Done.broke c.renews-is_renewed.result c.args.to_time _ c.cycle-in-Done.new.self c.args.out.now c.cycle.new.out (says.Ask c.ask_where.result)
    s c.requires.awaited c.requires.stage
    (record {
      ran_is = sym c.in-Done.is ∙ c.in_ok-ran.ensures.ran;
      stage_is = c.in_ok-ran.ensures.stage;
      digital_is = c.cycle.ensures.digital;
      time_is = c.cycle.ensures.time;
      domain_is = c.cycle.ensures.domain;
    })
    (λ going. gathers ∙ ap (λ (more : List Element). gathered_by timed m.place.gathered more) (c.breaks.ensures.value going))
    (subst (λ (xs : List Element). All (λ (e : Element). IsTrue (sys.is_element e)) xs) (sym gathers)
    (gathered_all (λ (e : Element). IsTrue (sys.is_element e)) timed m.place.gathered c.breaks.result.now s.stands.fits.elements c.breaks.ensures.elements))
    (λ going. c.swap.ensures.x_after ∙ c.frame.ensures.value going)
    (subst (λ (f : List Val). IsTrue (sys.is_frame f)) (sym c.swap.ensures.x_after) c.frame.ensures.fits)
    (ap (λ (f : List Val). length f) c.swap.ensures.x_after ∙ c.frame.ensures.length)
    (ap (λ (f : List Val). length f) c.swap.ensures.y_after ∙ s.room.frame)
    (c.renews-is_renewed.ensures ∙ ap (λ (f : List Val). renews_by m.place.timed c.args.to_time c.in-Done.broke m.frame f) (sym c.swap.ensures.x_after))
    refl
    c.cycle-in-Done.ensures
    c.in_ok-ran.ensures.events
    (ap (λ (a : Ask). says.Ask a) c.ask_where.ensures)

pub returns-in-Refused : goal.returns-in-Refused
returns-in-Refused g c =
    cycle_refused (g.D.Design.system 0) g.S.Stepper.part g.S.Stepper.count g.K.Kernel.state c.args.self.now c.cycle.new.self c.in-Refused.refusal c.args.to_time _ c.end_refused.new.self c.args.out.now c.cycle.new.out
    c.requires.sound c.requires.awaited c.requires.stage
    (record {
      ran_is = sym c.in-Refused.is ∙ c.in_ok-ran.ensures.ran;
      stage_is = c.in_ok-ran.ensures.stage;
      digital_is = c.cycle.ensures.digital;
      time_is = c.cycle.ensures.time;
      domain_is = c.cycle.ensures.domain;
    })
    refl
    c.end_refused.ensures
    c.in_ok-ran.ensures.events

pub returns-in_err-ran : goal.returns-in_err-ran
returns-in_err-ran g c =
    cycle_lost (g.D.Design.system 0) g.S.Stepper.part g.S.Stepper.count g.K.Kernel.state c.args.self.now _ c.args.to_time c.args.out.now c.cycle.new.out c.from_residual.result c.from_residual.ensures.0 c.requires.sound c.requires.stage c.in_err-ran.ensures.front

pub returns-in_err-gather_unless-in-Done : goal.returns-in_err-gather_unless-in-Done
returns-in_err-gather_unless-in-Done g c =
    cycle_lost (g.D.Design.system 0) g.S.Stepper.part g.S.Stepper.count g.K.Kernel.state c.args.self.now _ c.args.to_time c.args.out.now c.cycle.new.out c.from_residual-in_err-gather_unless-in-Done.result c.from_residual-in_err-gather_unless-in-Done.ensures.0 c.requires.sound c.requires.stage
    (front_all c.args.out.now c.cycle.new.out (cycle_from (g.D.Design.system 0) (g.K.Kernel.state c.args.self.now.kernel) c.args.self.now.place c.args.to_time).events c.in_ok-ran.ensures.events)
