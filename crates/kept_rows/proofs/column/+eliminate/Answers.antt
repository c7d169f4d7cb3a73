-- The first column and the others.
use Rattle.std.proofs.Common.{◌≡◌, ◌<◌, ◌+◌, ◌∷◌, ℤ, List, length, drop, Ok, refl, ap, ◌∙◌, arith}
use Rattle.std.proofs.lemmas.List.{drop_at}
use Rattle.std.proofs.lemmas.Result.{err_from_is_err_and}
use Rattle.fix_core.specs.Passes.{and_then}
use Rattle.kept_elimination.specs.Kept.{Column, columns_of}
use Rattle.kept_rows.specs.Held.{column_of}
use Rattle.kept_rows.proofs.Columns.{columns_none, columns_fail, columns_are}
use Rattle.kept_rows.proofs.Rooms.{none_kept, kept_more}
use Rattle.kept_rows.proofs.column.+eliminate.Goals as goal

pub returns-then-is_empty-clause-answer : goal.returns-then-is_empty-clause-answer
returns-then-is_empty-clause-answer t c =
    let none : length c.args.rows.now ≡ 0 = grind arith in
    rw (none_kept c.args.columns.now (omega (arith, none, c.requires.columns))) (columns_none c.args.column c.args.rows.now (length c.args.rows.now) none)

pub returns-in_err-take-clause-answer : goal.returns-in_err-take-clause-answer
returns-in_err-take-clause-answer t c =
    let some : 0 < length c.args.rows.now = omega arith in
    let p = err_from_is_err_and c.from_residual.result c.from_residual.ensures.1 in
    rw (p.1, p.2) (columns_fail (length c.args.rows.now) c.args.column c.args.rows.now _ refl some c.in_err-take.ensures.answer)

pub returns-clause-answer : goal.returns-clause-answer
returns-clause-answer t c =
    let rows = c.args.rows.now in
    let first = c.split_at_mut-others.result.0.now in
    let left = c.split_at_mut-others.result.1.now in
    let back : drop 1 c.take.new.rows ≡ left = ap (drop 1) c.split_at_mut-others.ensures.value ∙ drop_at first left 1 c.split_at_mut-others.ensures.front_len in
    let count : length rows ≡ length left + 1 = omega (arith, c.split_at_mut-others.ensures.back_len, c.take.auto.rows, c.if-is_empty.ensures) in
    columns_are (length rows) (length left) c.args.column rows (drop 1 c.take.new.rows) (column_of c.take.new.self) refl count c.in_ok-take.ensures.answer
    ∙ ap (λ (z : List (List ℤ)). and_then (λ more. Ok (column_of c.take.new.self ∷ more)) (columns_of (length left) (c.args.column + 1) z)) back
    ∙ ap (and_then (λ more. Ok (column_of c.take.new.self ∷ more))) c.eliminate.ensures.answer
    ∙ kept_more c.eliminate.result c.split_at_mut-first.result.0.now c.eliminate.new.columns c.take.new.self c.split_at_mut-first.ensures.front_len
