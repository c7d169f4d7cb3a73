use Rattle.std.specs.Prelude.{◌++◌, ◌<◌, max, List}
use Rattle.std.proofs.Common.{sym, ap, subst, ◌∙◌}
use Rattle.step_data.specs.declared.breaks.ThresholdState.{ThresholdState}
use Rattle.step_model.specs.Kernel.{AddsFront}
use Rattle.run_place.specs.declared.place.RunPlace.{RunPlace}
use Rattle.run_place.specs.Giving.{olds_of}
use Rattle.mixed_cycle.specs.Using.{crosses_at, used_left, used_events}
use Rattle.mixed_cycle.specs.Attempting.{Uses, crossing_order}
use Rattle.mixed_cycle.specs.Used.{found_used, found_led, found_lost, found_sound}
use Rattle.mixed_cycle.proofs.machine.Machine.use_found.Goals as goal

pub take-requires-clause-order : goal.take-requires-clause-order
take-requires-clause-order g c crossing =
    let sys = g.D.Design.system 0 in
    let m = c.args.self.now in
    let made = c.args.made.now in
    let uses : Uses sys g.S.Stepper.part g.K.Kernel.state m made c.choose-is_chosen.new.out c.choose-is_chosen.result c.gives_point-gives.result c.crosses-is_crossing.result =
    record {
      sound = c.requires.sound;
      awaits = c.requires.awaited;
      ahead = c.requires.ahead;
      made = c.requires.made;
      room = c.requires.room;
      branches_fit = c.choose-is_chosen.ensures.length;
      chosen = c.choose-is_chosen.ensures.chosen (olds_of m.place);
      gives_is = c.gives_point-gives.ensures;
      crosses_is = λ going. c.crosses-is_crossing.ensures ∙ ap (λ (th : List ThresholdState). crosses_at c.gives_point-gives.result made th) (c.thresholds.ensures.value going);
    } in
    subst (λ (y : RunPlace). max y.time y.tip.t < made.end) (sym c.count_try.ensures)
    (crossing_order sys g.S.Stepper.part g.K.Kernel.state m made c.choose-is_chosen.new.out c.choose-is_chosen.result c.gives_point-gives.result c.crosses-is_crossing.result uses crossing)

pub returns-in_err-take : goal.returns-in_err-take
returns-in_err-take g c =
    let sys = g.D.Design.system 0 in
    let m = c.args.self.now in
    let made = c.args.made.now in
    let uses : Uses sys g.S.Stepper.part g.K.Kernel.state m made c.choose-is_chosen.new.out c.choose-is_chosen.result c.gives_point-gives.result c.crosses-is_crossing.result =
    record {
      sound = c.requires.sound;
      awaits = c.requires.awaited;
      ahead = c.requires.ahead;
      made = c.requires.made;
      room = c.requires.room;
      branches_fit = c.choose-is_chosen.ensures.length;
      chosen = c.choose-is_chosen.ensures.chosen (olds_of m.place);
      gives_is = c.gives_point-gives.ensures;
      crosses_is = λ going. c.crosses-is_crossing.ensures ∙ ap (λ (th : List ThresholdState). crosses_at c.gives_point-gives.result made th) (c.thresholds.ensures.value going);
    } in
    found_lost sys g.S.Stepper.part g.S.Stepper.count g.K.Kernel.state m _ made c.choose-is_chosen.new.out c.choose-is_chosen.result c.gives_point-gives.result c.crosses-is_crossing.result c.args.out.now c.take.new.out c.from_residual.result c.from_residual.ensures.0
    uses
    (subst (λ (y : RunPlace). AddsFront c.args.out.now c.take.new.out (used_events c.crosses-is_crossing.result c.gives_point-gives.result made m.options.xres c.choose-is_chosen.result c.choose-is_chosen.new.out y)) c.count_try.ensures c.in_err-take.ensures.err)

pub returns-else-stays : goal.returns-else-stays
returns-else-stays g c =
    let sys = g.D.Design.system 0 in
    let m = c.args.self.now in
    let made = c.args.made.now in
    let uses : Uses sys g.S.Stepper.part g.K.Kernel.state m made c.choose-is_chosen.new.out c.choose-is_chosen.result c.gives_point-gives.result c.crosses-is_crossing.result =
    record {
      sound = c.requires.sound;
      awaits = c.requires.awaited;
      ahead = c.requires.ahead;
      made = c.requires.made;
      room = c.requires.room;
      branches_fit = c.choose-is_chosen.ensures.length;
      chosen = c.choose-is_chosen.ensures.chosen (olds_of m.place);
      gives_is = c.gives_point-gives.ensures;
      crosses_is = λ going. c.crosses-is_crossing.ensures ∙ ap (λ (th : List ThresholdState). crosses_at c.gives_point-gives.result made th) (c.thresholds.ensures.value going);
    } in
    found_used sys g.S.Stepper.part g.S.Stepper.count g.K.Kernel.state m made c.choose-is_chosen.new.out c.choose-is_chosen.result c.gives_point-gives.result c.crosses-is_crossing.result c.choose-is_chosen.new.stepper c.take.new.place c.take.new.before c.args.out.now c.take.new.out
    uses c.choose-is_chosen.ensures.part c.choose-is_chosen.ensures.count
    (sym c.stays.ensures ∙ c.if-stays.false)
    (c.in_ok-take.ensures.place
    ∙ ap (λ (y : RunPlace). used_left c.crosses-is_crossing.result c.gives_point-gives.result made m.options.xres c.choose-is_chosen.result c.choose-is_chosen.new.out y) c.count_try.ensures)
    c.in_ok-take.ensures.crossed
    (λ passes. c.in_ok-take.ensures.passed passes ∙ ap (λ (y : RunPlace). y.tip) c.count_try.ensures)
    (c.in_ok-take.ensures.ok
    ∙ ap (λ (y : RunPlace). c.args.out.now ++ used_events c.crosses-is_crossing.result c.gives_point-gives.result made m.options.xres c.choose-is_chosen.result c.choose-is_chosen.new.out y) c.count_try.ensures)

pub returns-then-stays : goal.returns-then-stays
returns-then-stays g c =
    let sys = g.D.Design.system 0 in
    let m = c.args.self.now in
    let made = c.args.made.now in
    let uses : Uses sys g.S.Stepper.part g.K.Kernel.state m made c.choose-is_chosen.new.out c.choose-is_chosen.result c.gives_point-gives.result c.crosses-is_crossing.result =
    record {
      sound = c.requires.sound;
      awaits = c.requires.awaited;
      ahead = c.requires.ahead;
      made = c.requires.made;
      room = c.requires.room;
      branches_fit = c.choose-is_chosen.ensures.length;
      chosen = c.choose-is_chosen.ensures.chosen (olds_of m.place);
      gives_is = c.gives_point-gives.ensures;
      crosses_is = λ going. c.crosses-is_crossing.ensures ∙ ap (λ (th : List ThresholdState). crosses_at c.gives_point-gives.result made th) (c.thresholds.ensures.value going);
    } in
    found_led sys g.S.Stepper.part g.S.Stepper.count g.K.Kernel.state m c.proceed.new.self made c.choose-is_chosen.new.out c.choose-is_chosen.result c.gives_point-gives.result c.crosses-is_crossing.result c.choose-is_chosen.new.stepper c.take.new.place c.take.new.before c.args.out.now c.take.new.out c.proceed.new.out c.proceed.result
    uses c.choose-is_chosen.ensures.count
    (sym c.stays.ensures ∙ c.if-stays.true)
    (c.in_ok-take.ensures.place
    ∙ ap (λ (y : RunPlace). used_left c.crosses-is_crossing.result c.gives_point-gives.result made m.options.xres c.choose-is_chosen.result c.choose-is_chosen.new.out y) c.count_try.ensures)
    (c.in_ok-take.ensures.ok
    ∙ ap (λ (y : RunPlace). c.args.out.now ++ used_events c.crosses-is_crossing.result c.gives_point-gives.result made m.options.xres c.choose-is_chosen.result c.choose-is_chosen.new.out y) c.count_try.ensures)
    c.proceed.ensures

pub proceed-requires-clause-sound : goal.proceed-requires-clause-sound
proceed-requires-clause-sound g c =
    let sys = g.D.Design.system 0 in
    let m = c.args.self.now in
    let made = c.args.made.now in
    let uses : Uses sys g.S.Stepper.part g.K.Kernel.state m made c.choose-is_chosen.new.out c.choose-is_chosen.result c.gives_point-gives.result c.crosses-is_crossing.result =
    record {
      sound = c.requires.sound;
      awaits = c.requires.awaited;
      ahead = c.requires.ahead;
      made = c.requires.made;
      room = c.requires.room;
      branches_fit = c.choose-is_chosen.ensures.length;
      chosen = c.choose-is_chosen.ensures.chosen (olds_of m.place);
      gives_is = c.gives_point-gives.ensures;
      crosses_is = λ going. c.crosses-is_crossing.ensures ∙ ap (λ (th : List ThresholdState). crosses_at c.gives_point-gives.result made th) (c.thresholds.ensures.value going);
    } in
    found_sound sys g.S.Stepper.part g.K.Kernel.state m made c.choose-is_chosen.new.out c.choose-is_chosen.result c.gives_point-gives.result c.crosses-is_crossing.result c.choose-is_chosen.new.stepper c.take.new.place c.take.new.before
    uses c.choose-is_chosen.ensures.part
    (c.in_ok-take.ensures.place
    ∙ ap (λ (y : RunPlace). used_left c.crosses-is_crossing.result c.gives_point-gives.result made m.options.xres c.choose-is_chosen.result c.choose-is_chosen.new.out y) c.count_try.ensures)
    c.in_ok-take.ensures.crossed
    (λ passes. c.in_ok-take.ensures.passed passes ∙ ap (λ (y : RunPlace). y.tip) c.count_try.ensures)
