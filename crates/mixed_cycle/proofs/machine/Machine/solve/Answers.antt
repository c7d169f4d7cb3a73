use Rattle.std.proofs.Common.{sym, ap, ◌∙◌}
use Rattle.lockstep_model.specs.declared.moves.Ask.{Ask}
use Rattle.lockstep_model.specs.declared.moves.Moved.TheVariants as says
use Rattle.step_data.specs.declared.outcome.ChooseKind.{ChooseKind}
use Rattle.lockstep_model.specs.Lockstep.{branches_or}
use Rattle.run_place.specs.Giving.{olds_of}
use Rattle.mixed_cycle.specs.Solving.{solve_done, solve_lost, solve_refused}
use Rattle.mixed_cycle.proofs.machine.Machine.solve.Goals as goal

pub returns-in_ok-give_here-in-Good : goal.returns-in_ok-give_here-in-Good
returns-in_ok-give_here-in-Good g c =
    let m = c.args.self.now in
    let s = c.requires.sound in
    solve_done (g.D.Design.system 0) g.S.Stepper.part g.S.Stepper.count g.K.Kernel.state c.args.self.now c.settle-settled.new.stepper c.choose-is_chosen.new.out c.settle-settled.new.x c.choose-is_chosen.result c.args.to_time c.solve.new.self c.args.out.now c.give_here.new.out (says.Ask c.ask_where.result)
    s c.requires.awaited c.requires.stage c.requires.ready
    c.settle-settled.ensures.part (c.settle-settled.ensures.count ∙ c.choose-is_chosen.ensures.count) c.choose-is_chosen.ensures.length c.settle-settled.ensures.length
    (λ going. sym c.in-Good.is ∙ c.settle-settled.ensures.answer going)
    c.settle-settled.ensures.value
    (c.choose-is_chosen.ensures.chosen (olds_of m.place)
    ∙ ap (λ (k : ChooseKind). branches_or (olds_of m.place) ((g.D.Design.system 0).choose m.frame m.place.time k m.place.point)) c.kind_of.ensures)
    c.solve.ensures
    c.in_ok-give_here-in-Good.ensures.ok
    (ap (λ (a : Ask). says.Ask a) c.ask_where.ensures)

pub returns-in_err-give_here-in-Good : goal.returns-in_err-give_here-in-Good
returns-in_err-give_here-in-Good g c =
    let m = c.args.self.now in
    solve_lost (g.D.Design.system 0) g.S.Stepper.part g.S.Stepper.count g.K.Kernel.state c.args.self.now _ c.choose-is_chosen.new.out c.settle-settled.new.x c.choose-is_chosen.result c.args.to_time c.args.out.now c.give_here.new.out c.from_residual.result c.from_residual.ensures.0
    c.requires.sound c.requires.stage c.requires.ready
    (λ going. sym c.in-Good.is ∙ c.settle-settled.ensures.answer going)
    c.settle-settled.ensures.value
    (c.choose-is_chosen.ensures.chosen (olds_of m.place)
    ∙ ap (λ (k : ChooseKind). branches_or (olds_of m.place) ((g.D.Design.system 0).choose m.frame m.place.time k m.place.point)) c.kind_of.ensures)
    c.in_err-give_here-in-Good.ensures.err

pub returns-in-Refused : goal.returns-in-Refused
returns-in-Refused g c =
    solve_refused (g.D.Design.system 0) g.S.Stepper.part g.S.Stepper.count g.K.Kernel.state c.args.self.now c.settle-settled.new.stepper c.choose-is_chosen.new.out c.settle-settled.new.x c.in-Refused.cause c.args.to_time c.end_unsolvable.new.self c.args.out.now
    c.requires.sound c.requires.awaited c.requires.stage c.requires.ready
    c.settle-settled.ensures.part (c.settle-settled.ensures.count ∙ c.choose-is_chosen.ensures.count) c.choose-is_chosen.ensures.length
    (λ going. sym c.in-Refused.is ∙ c.settle-settled.ensures.answer going)
    c.settle-settled.ensures.value
    c.end_unsolvable.ensures
