use Rattle.std.proofs.Common.{List, All, IsTrue, sym, subst, ap, ◌∙◌}
use Rattle.step_data.specs.declared.breaks.Element.{Element}
use Rattle.lockstep_model.specs.Lockstep.{gathered_with}
use Rattle.mixed_cycle.specs.Cycling.{front_all}
use Rattle.mixed_cycle.specs.Gathering.{gather_all}
use Rattle.mixed_cycle.specs.Starting.{start_done, start_refused, start_lost}
use Rattle.mixed_cycle.proofs.machine.Machine.start.Goals as goal

pub returns-in_ok-gather-in-Done : goal.returns-in_ok-gather-in-Done
returns-in_ok-gather-in-Done g c =
    let sys = g.D.Design.system 0 in
    let m = c.args.self.now in
    let s = c.requires.sound in
    start_done (g.D.Design.system 0) g.S.Stepper.part g.S.Stepper.count g.K.Kernel.state c.args.self.now c.start.new.self c.gather.new.list c.frame.new.out c.in-Done.broke c.start-in-Done.new.self c.args.out.now c.start.new.out
    s c.requires.awaited c.requires.stage
    (record {
      ran_is = sym c.in-Done.is ∙ c.in_ok-ran.ensures.ran;
      stage_is = c.in_ok-ran.ensures.stage;
      digital_is = c.start.ensures.digital;
      time_is = c.start.ensures.time;
      domain_is = c.start.ensures.domain;
    })
    (λ going. c.in_ok-gather-in-Done.ensures ∙ ap (λ (more : List Element). gathered_with m.place.gathered more) (c.breaks.ensures.value going))
    (subst (λ (xs : List Element). All (λ (e : Element). IsTrue (sys.is_element e)) xs) (sym c.in_ok-gather-in-Done.ensures)
    (gather_all (λ (e : Element). IsTrue (sys.is_element e)) m.place.gathered c.breaks.result.now s.stands.fits.elements c.breaks.ensures.elements))
    c.frame.ensures.value
    c.frame.ensures.fits
    c.frame.ensures.length
    c.start-in-Done.ensures
    c.in_ok-ran.ensures.events

pub returns-in-Refused : goal.returns-in-Refused
returns-in-Refused g c =
    start_refused (g.D.Design.system 0) g.S.Stepper.part g.S.Stepper.count g.K.Kernel.state c.args.self.now c.start.new.self c.in-Refused.refusal c.end_refused.new.self c.args.out.now c.start.new.out
    c.requires.sound c.requires.awaited c.requires.stage
    (record {
      ran_is = sym c.in-Refused.is ∙ c.in_ok-ran.ensures.ran;
      stage_is = c.in_ok-ran.ensures.stage;
      digital_is = c.start.ensures.digital;
      time_is = c.start.ensures.time;
      domain_is = c.start.ensures.domain;
    })
    c.end_refused.ensures
    c.in_ok-ran.ensures.events

pub returns-in_err-ran : goal.returns-in_err-ran
returns-in_err-ran g c =
    start_lost (g.D.Design.system 0) g.S.Stepper.part g.S.Stepper.count g.K.Kernel.state c.args.self.now _ c.args.out.now c.start.new.out c.from_residual.result c.from_residual.ensures.0 c.requires.sound c.requires.stage c.in_err-ran.ensures.front

pub returns-in_err-gather-in-Done : goal.returns-in_err-gather-in-Done
returns-in_err-gather-in-Done g c =
    start_lost (g.D.Design.system 0) g.S.Stepper.part g.S.Stepper.count g.K.Kernel.state c.args.self.now _ c.args.out.now c.start.new.out c.from_residual-in_err-gather-in-Done.result c.from_residual-in_err-gather-in-Done.ensures.0 c.requires.sound c.requires.stage
    (front_all c.args.out.now c.start.new.out ((g.D.Design.system 0).start c.args.self.now.place.point).events c.in_ok-ran.ensures.events)
