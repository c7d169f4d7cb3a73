use Rattle.std.specs.Prelude.{◌++◌, ◌<◌, max, List}
use Rattle.std.proofs.Common.{sym, ap, subst, ◌∙◌}
use Rattle.step_data.specs.declared.breaks.ThresholdState.{ThresholdState}
use Rattle.step_model.specs.Kernel.{AddsFront}
use Rattle.lockstep_model.specs.declared.moves.Ask.{Ask}
use Rattle.lockstep_model.specs.declared.moves.Moved.TheVariants as says
use Rattle.run_place.specs.declared.place.RunPlace.{RunPlace}
use Rattle.run_place.specs.Giving.{olds_of}
use Rattle.mixed_cycle.specs.Using.{crosses_at, used_left, used_events}
use Rattle.mixed_cycle.specs.Attempting.{Uses, crossing_order}
use Rattle.mixed_cycle.specs.Used.{own_used, own_lost}
use Rattle.mixed_cycle.proofs.machine.Machine.make_own.Goals as goal

pub take-requires-clause-order : goal.take-requires-clause-order
take-requires-clause-order g c crossing =
    let sys = g.D.Design.system 0 in
    let m = c.args.self.now in
    let uses : Uses sys g.S.Stepper.part g.K.Kernel.state m c.attempt.new.out c.choose-is_chosen.new.out c.choose-is_chosen.result c.gives_point-gives.result c.crosses-is_crossing.result =
    record {
      sound = c.requires.sound;
      awaits = c.requires.awaited;
      ahead = c.requires.ahead;
      made = c.attempt.ensures.value;
      room = c.attempt.ensures.length;
      branches_fit = c.choose-is_chosen.ensures.length;
      chosen = c.choose-is_chosen.ensures.chosen (olds_of m.place);
      gives_is = c.gives_point-gives.ensures;
      crosses_is = λ going. c.crosses-is_crossing.ensures ∙ ap (λ (th : List ThresholdState). crosses_at c.gives_point-gives.result c.attempt.new.out th) (c.thresholds.ensures.value going);
    } in
    subst (λ (y : RunPlace). max y.time y.tip.t < c.attempt.new.out.end) (sym c.count_try.ensures)
    (crossing_order sys g.S.Stepper.part g.K.Kernel.state m c.attempt.new.out c.choose-is_chosen.new.out c.choose-is_chosen.result c.gives_point-gives.result c.crosses-is_crossing.result uses crossing)

pub returns : goal.returns
returns g c =
    let sys = g.D.Design.system 0 in
    let m = c.args.self.now in
    let uses : Uses sys g.S.Stepper.part g.K.Kernel.state m c.attempt.new.out c.choose-is_chosen.new.out c.choose-is_chosen.result c.gives_point-gives.result c.crosses-is_crossing.result =
    record {
      sound = c.requires.sound;
      awaits = c.requires.awaited;
      ahead = c.requires.ahead;
      made = c.attempt.ensures.value;
      room = c.attempt.ensures.length;
      branches_fit = c.choose-is_chosen.ensures.length;
      chosen = c.choose-is_chosen.ensures.chosen (olds_of m.place);
      gives_is = c.gives_point-gives.ensures;
      crosses_is = λ going. c.crosses-is_crossing.ensures ∙ ap (λ (th : List ThresholdState). crosses_at c.gives_point-gives.result c.attempt.new.out th) (c.thresholds.ensures.value going);
    } in
    own_used sys g.S.Stepper.part g.S.Stepper.count g.K.Kernel.state m c.attempt.new.out c.choose-is_chosen.new.out c.choose-is_chosen.result c.gives_point-gives.result c.crosses-is_crossing.result c.choose-is_chosen.new.stepper c.take.new.place c.take.new.before c.awaited_after-self.result c.count_own-self.result (says.Ask c.ask_after.result) c.args.out.now c.take.new.out
    uses
    c.choose-is_chosen.ensures.part
    (c.choose-is_chosen.ensures.count ∙ c.attempt.ensures.count)
    c.count_own-self.ensures
    (c.in_ok-take.ensures.place
    ∙ ap (λ (y : RunPlace). used_left c.crosses-is_crossing.result c.gives_point-gives.result c.attempt.new.out m.options.xres c.choose-is_chosen.result c.choose-is_chosen.new.out y) c.count_try.ensures)
    c.in_ok-take.ensures.crossed
    (λ passes. c.in_ok-take.ensures.passed passes ∙ ap (λ (y : RunPlace). y.tip) c.count_try.ensures)
    c.awaited_after-self.ensures
    (ap (λ (x : Ask). says.Ask x) c.ask_after.ensures)
    (c.in_ok-take.ensures.ok
    ∙ ap (λ (y : RunPlace). c.args.out.now ++ used_events c.crosses-is_crossing.result c.gives_point-gives.result c.attempt.new.out m.options.xres c.choose-is_chosen.result c.choose-is_chosen.new.out y) c.count_try.ensures)

pub returns-in_err-take : goal.returns-in_err-take
returns-in_err-take g c =
    let sys = g.D.Design.system 0 in
    let m = c.args.self.now in
    let uses : Uses sys g.S.Stepper.part g.K.Kernel.state m c.attempt.new.out c.choose-is_chosen.new.out c.choose-is_chosen.result c.gives_point-gives.result c.crosses-is_crossing.result =
    record {
      sound = c.requires.sound;
      awaits = c.requires.awaited;
      ahead = c.requires.ahead;
      made = c.attempt.ensures.value;
      room = c.attempt.ensures.length;
      branches_fit = c.choose-is_chosen.ensures.length;
      chosen = c.choose-is_chosen.ensures.chosen (olds_of m.place);
      gives_is = c.gives_point-gives.ensures;
      crosses_is = λ going. c.crosses-is_crossing.ensures ∙ ap (λ (th : List ThresholdState). crosses_at c.gives_point-gives.result c.attempt.new.out th) (c.thresholds.ensures.value going);
    } in
    own_lost sys g.S.Stepper.part g.S.Stepper.count g.K.Kernel.state m _ c.attempt.new.out c.choose-is_chosen.new.out c.choose-is_chosen.result c.gives_point-gives.result c.crosses-is_crossing.result c.args.out.now c.take.new.out c.from_residual.result c.from_residual.ensures.0
    uses
    (subst (λ (y : RunPlace). AddsFront c.args.out.now c.take.new.out (used_events c.crosses-is_crossing.result c.gives_point-gives.result c.attempt.new.out m.options.xres c.choose-is_chosen.result c.choose-is_chosen.new.out y)) c.count_try.ensures c.in_err-take.ensures.err)
