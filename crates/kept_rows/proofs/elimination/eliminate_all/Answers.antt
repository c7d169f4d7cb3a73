-- What scaling and the columns gave, joined.
use Rattle.std.proofs.Common.{◌≡◌, ℕ, List, length, Ok, ap, ◌∙◌, sym, arith}
use Rattle.fix_core.specs.Passes.{and_then}
use Rattle.kept_elimination.specs.Kept.{Column, Kept}
use Rattle.kept_rows.specs.Held.{kept_columns}
use Rattle.kept_rows.proofs.Columns.{eliminated_overflows, eliminated_is, kept_answer}
use Rattle.kept_rows.proofs.elimination.eliminate_all.Goals as goal

pub returns-in_default-clause-answer : goal.returns-in_default-clause-answer
returns-in_default-clause-answer c = eliminated_overflows c.args.rows.now _ c.in_default.ensures.answer

pub returns-clause-answer : goal.returns-clause-answer
returns-clause-answer c =
    let rows = c.scale_all.new.rows in
    let turns = c.scale_all.new.turns in
    let long : length turns ≡ length rows = omega (arith, c.scale_all.auto.turns, c.scale_all.auto.rows, c.requires.turns) in
    eliminated_is c.args.rows.now rows turns (length rows) c.scale_all.auto.rows long c.in-Ok.ensures.answer
    ∙ ap (and_then {B = Kept} (λ (columns : List Column). Ok (record { turns = turns; columns = columns }))) c.eliminate.ensures.answer
    ∙ kept_answer c.eliminate.result turns (kept_columns c.eliminate.new.columns)
