use Rattle.std.specs.Prelude.{◌++◌, ◌-◌, ◌/◌, nat_lt, List, length, ℕ, ℤ}
use Rattle.std.proofs.Common.{sym, ap, subst, ◌∙◌}
use Rattle.lockstep_model.specs.Crossing.{differs}
use Rattle.step_model.specs.Answers.{trial_answer, trial_point}
use Rattle.step_data.specs.declared.breaks.ThresholdState.{ThresholdState}
use Rattle.run_place.specs.declared.place.RunPlace.{RunPlace}
use Rattle.run_place.specs.Giving.{olds_of}
use Rattle.mixed_cycle.specs.Landing.{landed_left, landed_events, side_left}
use Rattle.mixed_cycle.specs.Siding.{SideLands, landed_is, side_refused, side_landed, side_lost}
use Rattle.mixed_cycle.proofs.machine.Machine.side.Goals as goal
use Rattle.step_data.specs.declared.outcome.ChooseKind.TheVariants.{Timed}
use Rattle.step_model.specs.Kernel.{AddsFront}
use Rattle.lockstep_model.specs.Lockstep.{branches_or}

pub returns-in_ok-land-in-Good : goal.returns-in_ok-land-in-Good
returns-in_ok-land-in-Good g c =
    let sys = g.D.Design.system 0 in
    let m = c.args.self.now in
    let s = c.requires.sound in
    let lands : SideLands sys g.S.Stepper.part g.S.Stepper.count g.K.Kernel.state m c.next_time-next.result c.until-t.result c.choose-is_chosen.new.stepper c.choose-is_chosen.new.out c.swap.new.x c.swap.new.y c.choose-is_chosen.result c.differs-is_crossing.result =
    record {
      begins = record { sound = s; awaits = c.requires.awaited; stage = c.requires.stage; ready = c.requires.ready; late = c.requires.late; next_is = c.next_time-next.ensures.value; t_is = c.until-t.ensures };
      part_is = c.choose-is_chosen.ensures.part;
      made = c.choose-is_chosen.ensures.count ∙ c.trial-answer.ensures.count;
      branches_fit = c.choose-is_chosen.ensures.length;
      x_fits = ap (λ (y : List ℤ). length y) c.swap.ensures.x_after ∙ ap (λ (y : RunPlace). length y.at_hi) c.count_try.ensures ∙ s.stands.fits.at_hi_fits;
      at_hi_fits = ap (λ (y : List ℤ). length y) c.swap.ensures.y_after ∙ c.trial-answer.ensures.length;
      lands =
          landed_is (sys.trial m.frame m.place.tip (c.until-t.result - m.place.tip.t)) c.in-Good.err c.swap.new.y m.place.tip.x
          (sym c.in-Good.is ∙ c.trial-answer.ensures.answer
          ∙ ap (λ (y : RunPlace). trial_answer (sys.trial m.frame y.tip c.ticks_between-step.result)) c.count_try.ensures
          ∙ ap (λ (u : ℕ). trial_answer (sys.trial m.frame m.place.tip u)) c.ticks_between-step.ensures)
          (c.swap.ensures.y_after ∙ c.trial-answer.ensures.point
          ∙ ap (λ (y : RunPlace). trial_point y.tip.x (sys.trial m.frame y.tip c.ticks_between-step.result)) c.count_try.ensures
          ∙ ap (λ (u : ℕ). trial_point m.place.tip.x (sys.trial m.frame m.place.tip u)) c.ticks_between-step.ensures);
      chosen =
          c.choose-is_chosen.ensures.chosen (olds_of m.place)
          ∙ ap (λ (y : RunPlace). branches_or (olds_of m.place) (sys.choose m.frame y.tip.t Timed y.tip.x)) c.count_try.ensures;
      crossing = λ going. c.differs-is_crossing.ensures ∙ ap (λ (th : List ThresholdState). differs c.swap.new.y th) (c.thresholds.ensures.value going);
    } in
    side_landed sys g.S.Stepper.part g.S.Stepper.count g.K.Kernel.state m c.next_time-next.result c.until-t.result c.choose-is_chosen.new.stepper c.choose-is_chosen.new.out c.swap.new.x c.swap.new.y c.choose-is_chosen.result c.differs-is_crossing.result c.land.new.place c.args.out.now c.land.new.out
    lands
    (c.in_ok-land-in-Good.ensures.place
    ∙ ap (λ (y : RunPlace). landed_left c.differs-is_crossing.result c.until-t.result m.options.xres c.next_time-next.result c.choose-is_chosen.result c.choose-is_chosen.new.out (record y { at_hi = c.swap.new.y })) c.count_try.ensures)
    (c.in_ok-land-in-Good.ensures.ok
    ∙ ap (λ (y : RunPlace). c.args.out.now ++ landed_events c.differs-is_crossing.result c.until-t.result m.options.xres c.choose-is_chosen.result c.choose-is_chosen.new.out (record y { at_hi = c.swap.new.y })) c.count_try.ensures)

pub returns-in_err-land-in-Good : goal.returns-in_err-land-in-Good
returns-in_err-land-in-Good g c =
    let sys = g.D.Design.system 0 in
    let m = c.args.self.now in
    let s = c.requires.sound in
    let lands : SideLands sys g.S.Stepper.part g.S.Stepper.count g.K.Kernel.state m c.next_time-next.result c.until-t.result c.choose-is_chosen.new.stepper c.choose-is_chosen.new.out c.swap.new.x c.swap.new.y c.choose-is_chosen.result c.differs-is_crossing.result =
    record {
      begins = record { sound = s; awaits = c.requires.awaited; stage = c.requires.stage; ready = c.requires.ready; late = c.requires.late; next_is = c.next_time-next.ensures.value; t_is = c.until-t.ensures };
      part_is = c.choose-is_chosen.ensures.part;
      made = c.choose-is_chosen.ensures.count ∙ c.trial-answer.ensures.count;
      branches_fit = c.choose-is_chosen.ensures.length;
      x_fits = ap (λ (y : List ℤ). length y) c.swap.ensures.x_after ∙ ap (λ (y : RunPlace). length y.at_hi) c.count_try.ensures ∙ s.stands.fits.at_hi_fits;
      at_hi_fits = ap (λ (y : List ℤ). length y) c.swap.ensures.y_after ∙ c.trial-answer.ensures.length;
      lands =
          landed_is (sys.trial m.frame m.place.tip (c.until-t.result - m.place.tip.t)) c.in-Good.err c.swap.new.y m.place.tip.x
          (sym c.in-Good.is ∙ c.trial-answer.ensures.answer
          ∙ ap (λ (y : RunPlace). trial_answer (sys.trial m.frame y.tip c.ticks_between-step.result)) c.count_try.ensures
          ∙ ap (λ (u : ℕ). trial_answer (sys.trial m.frame m.place.tip u)) c.ticks_between-step.ensures)
          (c.swap.ensures.y_after ∙ c.trial-answer.ensures.point
          ∙ ap (λ (y : RunPlace). trial_point y.tip.x (sys.trial m.frame y.tip c.ticks_between-step.result)) c.count_try.ensures
          ∙ ap (λ (u : ℕ). trial_point m.place.tip.x (sys.trial m.frame m.place.tip u)) c.ticks_between-step.ensures);
      chosen =
          c.choose-is_chosen.ensures.chosen (olds_of m.place)
          ∙ ap (λ (y : RunPlace). branches_or (olds_of m.place) (sys.choose m.frame y.tip.t Timed y.tip.x)) c.count_try.ensures;
      crossing = λ going. c.differs-is_crossing.ensures ∙ ap (λ (th : List ThresholdState). differs c.swap.new.y th) (c.thresholds.ensures.value going);
    } in
    side_lost sys g.S.Stepper.part g.S.Stepper.count g.K.Kernel.state m _ c.next_time-next.result c.until-t.result c.choose-is_chosen.new.stepper c.choose-is_chosen.new.out c.swap.new.x c.swap.new.y c.choose-is_chosen.result c.differs-is_crossing.result c.args.out.now c.land.new.out c.from_residual.result c.from_residual.ensures.0
    lands
    (subst (λ (y : RunPlace). AddsFront c.args.out.now c.land.new.out (landed_events c.differs-is_crossing.result c.until-t.result m.options.xres c.choose-is_chosen.result c.choose-is_chosen.new.out (record y { at_hi = c.swap.new.y }))) c.count_try.ensures
    c.in_err-land-in-Good.ensures.err)

pub returns-in-Refused : goal.returns-in-Refused
returns-in-Refused g c =
    let sys = g.D.Design.system 0 in
    let m = c.args.self.now in
    let s = c.requires.sound in
    side_refused sys g.S.Stepper.part g.S.Stepper.count g.K.Kernel.state m c.next_time-next.result c.until-t.result c.trial-answer.new.stepper c.trial-answer.new.out c.in-Refused.cause (nat_lt (c.ticks_between-step.result / 2) m.options.hmin) c.refuse.new.place c.refuse.result c.args.out.now
    (record { sound = s; awaits = c.requires.awaited; stage = c.requires.stage; ready = c.requires.ready; late = c.requires.late; next_is = c.next_time-next.ensures.value; t_is = c.until-t.ensures })
    c.trial-answer.ensures.part c.trial-answer.ensures.count c.trial-answer.ensures.length
    (sym c.in-Refused.is ∙ c.trial-answer.ensures.answer
    ∙ ap (λ (y : RunPlace). trial_answer (sys.trial m.frame y.tip c.ticks_between-step.result)) c.count_try.ensures
    ∙ ap (λ (u : ℕ). trial_answer (sys.trial m.frame m.place.tip u)) c.ticks_between-step.ensures)
    (ap (λ (u : ℕ). nat_lt (u / 2) m.options.hmin) c.ticks_between-step.ensures)
    (c.refuse.ensures.place
    ∙ ap (λ (y : RunPlace). side_left (nat_lt (c.ticks_between-step.result / 2) m.options.hmin) c.until-t.result c.ticks_between-step.result c.in-Refused.cause.code y) c.count_try.ensures
    ∙ ap (λ (u : ℕ). side_left (nat_lt (c.ticks_between-step.result / 2) m.options.hmin) c.until-t.result u c.in-Refused.cause.code (record m.place { tries_left = m.place.tries_left - 1 })) c.ticks_between-step.ensures)
    c.refuse.ensures.said
