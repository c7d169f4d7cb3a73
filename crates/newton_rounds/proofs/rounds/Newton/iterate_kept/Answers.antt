-- One round more, or the last one.
use Rattle.std.proofs.Common.{rules, ◌≡◌, ◌<◌, ◌≤◌, true, false, Ok, Err, sym, ap, ◌∙◌, arith}
use Rattle.design_meaning.specs.Newton.{newton}
use Rattle.design_meaning.specs.Steps.{rounds}
use Rattle.newton_rounds.specs.Rounds.{is_solution}
use Rattle.newton_rounds.proofs.Rounding.{newton_next, newton_done, newton_not_judged, newton_not_turned, newton_ends}
use Rattle.newton_rounds.proofs.rounds.Newton.iterate_kept.Goals as goal

pub returns-in_err-round_kept-clause-answer : goal.returns-in_err-round_kept-clause-answer
returns-in_err-round_kept-clause-answer g c =
    let p = g.S.EquationSet.problem c.args.set.now in
    let lt : c.loop-round._round < rounds = omega arith in
    let stops : newton rounds p c.args.x.now ≡ Err c.in_err-round_kept.field-0.0 =
    c.loop-round.invariant.told ∙ newton_not_turned rounds c.loop-round._round p c.loop-round.x c.in_err-round_kept.field-0.0 lt c.in_err-round_kept.ensures.answer in
    rw stops (search rules)

pub returns-in_err-is_solution-clause-answer : goal.returns-in_err-is_solution-clause-answer
returns-in_err-is_solution-clause-answer g c =
    let p = g.S.EquationSet.problem c.args.set.now in
    let lt : c.loop-round._round < rounds = omega arith in
    let stops : newton rounds p c.args.x.now ≡ Err c.in_err-is_solution.field-0.0 =
    c.loop-round.invariant.told
    ∙ newton_not_judged rounds c.loop-round._round p c.loop-round.x c.round_kept.new.x c.in_err-is_solution.field-0.0 lt c.in_ok-round_kept.ensures.answer (sym c.in_err-is_solution.ensures.answer) in
    rw stops (search rules)

pub returns-then-branch-clause-answer : goal.returns-then-branch-clause-answer
returns-then-branch-clause-answer g c =
    let p = g.S.EquationSet.problem c.args.set.now in
    let lt : c.loop-round._round < rounds = omega arith in
    let good : is_solution p c.round_kept.new.x ≡ Ok true = sym c.in_ok-is_solution.ensures.answer ∙ ap Ok c.if-branch.true in
    c.loop-round.invariant.told ∙ newton_done rounds c.loop-round._round p c.loop-round.x c.round_kept.new.x lt c.in_ok-round_kept.ensures.answer good

pub loop-round-preserved : goal.loop-round-preserved
loop-round-preserved g c =
    let p = g.S.EquationSet.problem c.args.set.now in
    let lt : c.loop-round._round < rounds = omega arith in
    let bad : is_solution p c.round_kept.new.x ≡ Ok false = sym c.in_ok-is_solution.ensures.answer ∙ ap Ok c.if-branch.false in
    record {
      told = c.loop-round.invariant.told ∙ newton_next rounds c.loop-round._round p c.loop-round.x c.round_kept.new.x lt c.in_ok-round_kept.ensures.answer bad;
      count = c.in_ok-round_kept.ensures.length ∙ c.loop-round.invariant.count;
      size = c.in_ok-is_solution.ensures.size ∙ c.in_ok-round_kept.ensures.size ∙ c.loop-round.invariant.size;
    }

pub returns-clause-answer : goal.returns-clause-answer
returns-clause-answer g c =
    let p = g.S.EquationSet.problem c.args.set.now in
    let all : rounds ≤ c.loop-round._round = omega arith in
    c.loop-round.invariant.told ∙ newton_ends rounds c.loop-round._round p c.loop-round.x all ∙ ap Err (sym c.cause.ensures)
