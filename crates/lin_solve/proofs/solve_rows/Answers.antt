-- What scaling and elimination gave, joined.
use Rattle.std.proofs.Common.{◌≡◌, length, ◌∙◌, sym}
use Rattle.std.proofs.lemmas.List.{length-map}
use Rattle.lin_solve.specs.Entries.{items_of}
use Rattle.lin_solve.proofs.Whole.{solution_fails, solution_is}
use Rattle.lin_solve.proofs.solve_rows.Goals as goal

pub returns-in_default-clause-answer : goal.returns-in_default-clause-answer
returns-in_default-clause-answer c = solution_fails _ _ c.in_default.ensures.answer

pub returns-clause-answer : goal.returns-clause-answer
returns-clause-answer c =
    let rows = c.scale_all.new.rows in
    let n : length (items_of c.args.rows.now) ≡ length rows = length-map c.args.rows.now (λ r. r.items) ∙ sym c.scale_all.auto.rows in
    solution_is _ (items_of rows) (length rows) c.in-Ok.ensures.answer n ∙ c.eliminate.ensures.answer
