-- The parts of a round, joined.
use Rattle.std.proofs.Common.{rules, ◌≡◌, Err, sym, ap, ◌∙◌, arith}
use Rattle.fix_core.specs.Passes.{answer}
use Rattle.design_meaning.specs.Newton.{round}
use Rattle.newton_rounds.proofs.Lengths.{length-solution}
use Rattle.newton_rounds.proofs.Rounding.{round_not_filled, round_not_solved, round_is, solved_rows}
use Rattle.newton_rounds.proofs.rounds.Newton.round.Goals as goal

pub returns-in_err-of_evaluation-clause-answer : goal.returns-in_err-of_evaluation-clause-answer
returns-in_err-of_evaluation-clause-answer g c =
    let p = g.S.EquationSet.problem c.args.set.now in
    let stops : round p c.args.x.now ≡ Err c.in_err-of_evaluation.field-0.0 =
    round_not_filled p c.args.x.now c.fill.result c.fill.new.rows c.of_evaluation.result c.in_err-of_evaluation.field-0.0 c.fill.ensures.answer c.of_evaluation.ensures c.in_err-of_evaluation.was in
    rw stops (search rules)

pub returns-in_err-of_solution-clause-answer : goal.returns-in_err-of_solution-clause-answer
returns-in_err-of_solution-clause-answer g c =
    let p = g.S.EquationSet.problem c.args.set.now in
    let stops : round p c.args.x.now ≡ Err c.in_err-of_solution.field-0.0 =
    round_not_solved p c.args.x.now c.fill.result c.fill.new.rows c.of_evaluation.result c.in_ok-of_evaluation.field-0 c.solve.result c.solve.new.out c.of_solution.result c.in_err-of_solution.field-0.0
    c.fill.ensures.answer c.of_evaluation.ensures c.in_ok-of_evaluation.was c.solve.ensures.answer c.of_solution.ensures c.in_err-of_solution.was in
    rw stops (search rules)

pub correct-requires : goal.correct-requires
correct-requires g c =
    let found = solved_rows c.fill.new.rows c.solve.result c.solve.new.out c.of_solution.result c.in_ok-of_solution.field-0 c.solve.ensures.answer c.of_solution.ensures c.in_ok-of_solution.was in
    let long = length-solution c.fill.new.rows c.solve.new.out found in
    record { count = omega (arith, long, c.fill.ensures.count, c.requires.size, c.requires.point, c.self.view_is) }

pub invariant_of-self-2 : goal.invariant_of-self-2
invariant_of-self-2 g c =
    let found = solved_rows c.fill.new.rows c.solve.result c.solve.new.out c.of_solution.result c.in_ok-of_solution.field-0 c.solve.ensures.answer c.of_solution.ensures c.in_ok-of_solution.was in
    let long = length-solution c.fill.new.rows c.solve.new.out found in
    record {
      elimination_size = omega (arith, c.solve.ensures.size, c.solve.ensures.count, c.fill.ensures.count, c.self.invariant.elimination_size);
      correction_count = omega (arith, long, c.solve.ensures.count);
      residual_count = omega (arith, c.solve.ensures.count, c.fill.ensures.count, c.self.invariant.residual_count);
    }

pub returns-clause-answer : goal.returns-clause-answer
returns-clause-answer g c =
    let p = g.S.EquationSet.problem c.args.set.now in
    round_is p c.args.x.now c.fill.result c.fill.new.rows c.of_evaluation.result c.in_ok-of_evaluation.field-0 c.solve.result c.solve.new.out c.of_solution.result c.in_ok-of_solution.field-0 c.correct.result c.correct.new.x
    c.fill.ensures.answer c.of_evaluation.ensures c.in_ok-of_evaluation.was c.solve.ensures.answer c.of_solution.ensures c.in_ok-of_solution.was c.correct.ensures.answer
    ∙ ap (λ r. answer r c.correct.new.x) (sym c.of_correction.ensures)
