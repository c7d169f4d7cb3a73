-- What scaling and elimination gave, joined.
use Rattle.std.proofs.Common.{◌≡◌, length, ◌∙◌, sym}
use Rattle.lin_solve.proofs.Whole.{solution_fails, solution_is}
use Rattle.sparse_rows.proofs.elimination.solve_rows.Goals as goal

pub returns-in_default-clause-answer : goal.returns-in_default-clause-answer
returns-in_default-clause-answer c = solution_fails c.args.rows.now _ c.in_default.ensures.answer

pub returns-clause-answer : goal.returns-clause-answer
returns-clause-answer c =
    let rows = c.scale_all.new.rows in
    solution_is c.args.rows.now rows (length rows) c.in-Ok.ensures.answer (sym c.scale_all.auto.rows) ∙ c.eliminate.ensures.answer
