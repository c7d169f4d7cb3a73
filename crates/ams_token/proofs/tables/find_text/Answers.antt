use Rattle.std.proofs.Common.{rules}
use Rattle.std.proofs.lemmas.List.Sorted.{answers_always}
use Rattle.ams_token.proofs.TableLaws.{absent, found}
use Rattle.ams_token.proofs.tables.find_text.Goals as goal

pub returns-in-Ok : goal.returns-in-Ok
returns-in-Ok g c =
    found c.args.table.now c.index-table-at.result c.args.text.now c.in-Ok.at c.in-Ok.ensures.bound
    (c.in-Ok.ensures.position (λ y. y.1) (answers_always _ _ _ (λ f a r g called. search rules)))

pub returns-in-Err : goal.returns-in-Err
returns-in-Err g c =
    absent c.args.table.now c.args.text.now c.in-Err.field-0 c.requires
    (c.in-Err.ensures.position (λ y. y.1) (answers_always _ _ _ (λ f a r g called. search rules)))
