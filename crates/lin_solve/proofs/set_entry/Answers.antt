-- One entry of one row is written.
use Rattle.std.proofs.Common.{◌≡◌, ◌+◌, ◌<◌, ℤ, List, [], length, get_or, set, ap, ◌∙◌, sym, arith, length-set}
use Rattle.std.proofs.lemmas.List.{length-map}
use Rattle.std.specs.Global.{Vec}
use Rattle.std.proofs.lemmas.List.Elements.{All-set}
use Rattle.fix_core.specs.Fixed.{IsInRange}
use Rattle.lin_solve.specs.Entries.{items_of, IsRow}
use Rattle.lin_solve.proofs.Steps.{item_at, items_set}
use Rattle.lin_solve.proofs.set_entry.Goals as goal

pub bounds-entries-column : goal.bounds-entries-column
bounds-entries-column c =
    let hi : c.args.row < length (items_of c.args.rows.now) = simp length-map c.requires.row in
    let e = item_at c.args.rows.now c.args.row c.index-rows-row.result [] c.requires.row in
    let l : c.args.column < length c.args.rows.now + 1 = omega arith in
    rw (c.as_mut_slice-entries.ensures.value ∙ sym e, (c.requires.rows c.args.row [] hi).long) l

pub returns-clause-written : goal.returns-clause-written
returns-clause-written c =
    let rows = c.args.rows.now in
    let v : Vec ℤ = get_or rows c.args.row c.index-rows-row.result in
    let entries = c.as_mut_slice-entries.result.now in
    let e = item_at rows c.args.row c.index-rows-row.result [] c.requires.row in
    let kept : length (set entries c.args.column c.args.v) ≡ v.len = length-set entries c.args.column c.args.v ∙ c.as_mut_slice-entries.ensures.len in
    items_set rows c.args.row v (set entries c.args.column c.args.v) kept ∙ ap (λ (r : List ℤ). set (items_of rows) c.args.row (set r c.args.column c.args.v)) (c.as_mut_slice-entries.ensures.value ∙ sym e)

pub returns-clause-rows : goal.returns-clause-rows
returns-clause-rows c =
    let rows = c.args.rows.now in
    let v : Vec ℤ = get_or rows c.args.row c.index-rows-row.result in
    let entries = c.as_mut_slice-entries.result.now in
    let hi : c.args.row < length (items_of rows) = simp length-map c.requires.row in
    let e = item_at rows c.args.row c.index-rows-row.result [] c.requires.row in
    let same : entries ≡ get_or (items_of rows) c.args.row [] = c.as_mut_slice-entries.ensures.value ∙ sym e in
    let old : IsRow (length rows + 1) entries = rw same (c.requires.rows c.args.row [] hi) in
    let number : IsInRange c.args.v = rw c.magnitude.ensures.value at c.magnitude.ensures.bound in
    let kept : length (set entries c.args.column c.args.v) ≡ v.len = length-set entries c.args.column c.args.v ∙ c.as_mut_slice-entries.ensures.len in
    let row : IsRow (length rows + 1) (set entries c.args.column c.args.v) =
    record { long = length-set entries c.args.column c.args.v ∙ old.long; within = All-set IsInRange entries c.args.column c.args.v number old.within } in
    rw (items_set rows c.args.row v (set entries c.args.column c.args.v) kept) (All-set (IsRow (length rows + 1)) (items_of rows) c.args.row (set entries c.args.column c.args.v) row c.requires.rows)
