-- The parts of a round, joined.
use Rattle.std.proofs.Common.{rules, ◌≡◌, Err, sym, ap, ◌∙◌, arith}
use Rattle.fix_core.specs.Passes.{answer}
use Rattle.design_meaning.specs.Newton.{round}
use Rattle.kept_rows.specs.Joined.{rows_with}
use Rattle.newton_rounds.proofs.Rounding.{round_not_filled, round_not_solved, round_is}
use Rattle.newton_rounds.proofs.Keeping.{system_told}
use Rattle.newton_rounds.proofs.rounds.Newton.round_kept.Goals as goal

pub returns-in_err-of_evaluation-clause-answer : goal.returns-in_err-of_evaluation-clause-answer
returns-in_err-of_evaluation-clause-answer g c =
    let p = g.S.EquationSet.problem c.args.set.now in
    let m = c.args.elimination.now.matrix.items in
    let x = c.args.x.now in
    let told = system_told p m x c.residuals.new.out c.residuals.result c.requires.kept.matrix c.residuals.ensures in
    let stops : round p x ≡ Err c.in_err-of_evaluation.field-0.0 =
    round_not_filled p x c.residuals.result (rows_with m c.residuals.new.out) c.of_evaluation.result c.in_err-of_evaluation.field-0.0 told c.of_evaluation.ensures c.in_err-of_evaluation.was in
    rw stops (search rules)

pub returns-in_err-of_solution-clause-answer : goal.returns-in_err-of_solution-clause-answer
returns-in_err-of_solution-clause-answer g c =
    let p = g.S.EquationSet.problem c.args.set.now in
    let m = c.args.elimination.now.matrix.items in
    let x = c.args.x.now in
    let told = system_told p m x c.residuals.new.out c.residuals.result c.requires.kept.matrix c.residuals.ensures in
    let stops : round p x ≡ Err c.in_err-of_solution.field-0.0 =
    round_not_solved p x c.residuals.result (rows_with m c.residuals.new.out) c.of_evaluation.result c.in_ok-of_evaluation.field-0 c.unknowns.result c.unknowns.new.numbers c.of_solution.result c.in_err-of_solution.field-0.0
    told c.of_evaluation.ensures c.in_ok-of_evaluation.was c.unknowns.ensures c.of_solution.ensures c.in_err-of_solution.was in
    rw stops (search rules)

pub returns-clause-answer : goal.returns-clause-answer
returns-clause-answer g c =
    let p = g.S.EquationSet.problem c.args.set.now in
    let m = c.args.elimination.now.matrix.items in
    let x = c.args.x.now in
    let told = system_told p m x c.residuals.new.out c.residuals.result c.requires.kept.matrix c.residuals.ensures in
    let solved = c.unknowns.ensures ∙ ap (answer c.unknowns.result) (sym c.copy_from_slice.ensures) in
    round_is p x c.residuals.result (rows_with m c.residuals.new.out) c.of_evaluation.result c.in_ok-of_evaluation.field-0 c.unknowns.result c.copy_from_slice.new.self c.of_solution.result c.in_ok-of_solution.field-0 c.correct.result c.correct.new.x
    told c.of_evaluation.ensures c.in_ok-of_evaluation.was solved c.of_solution.ensures c.in_ok-of_solution.was c.correct.ensures.answer
    ∙ ap (λ r. answer r c.correct.new.x) (sym c.of_correction.ensures)
