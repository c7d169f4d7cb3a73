-- Rows are swapped as their lists are.
use Rattle.std.proofs.Common.{◌≡◌, ◌<◌, ℤ, length, ap, ◌∙◌, arith}
use Rattle.std.proofs.lemmas.List.{length-map}
use Rattle.std.specs.Global.{Vec}
use Rattle.std.specs.List.{swap}
use Rattle.lin_solve.specs.Entries.{items_of, IsRow}
use Rattle.lin_solve.proofs.Whole.{map-swap, All-swap}
use Rattle.lin_solve.proofs.choose_pivot.Goals as goal

pub pivot_place-place-requires-clause-column : goal.pivot_place-place-requires-clause-column
pivot_place-place-requires-clause-column c = λ k d h. omega (arith, (c.requires.rows k d h).long)

pub returns-clause-swapped : goal.returns-clause-swapped
returns-clause-swapped c =
    let rows = c.args.rows.now in
    let place = c.pivot_place-place.result in
    ap items_of c.swap.ensures.after ∙ map-swap (λ (r : Vec ℤ). r.items) rows 0 place c.requires.some c.pivot_place-place.ensures.within ∙ ap (swap (items_of rows) 0) c.pivot_place-place.ensures.place

pub returns-clause-rows : goal.returns-clause-rows
returns-clause-rows c =
    let rows = c.args.rows.now in
    let place = c.pivot_place-place.result in
    let firsts : 0 < length (items_of rows) = simp length-map c.requires.some in
    let insides : place < length (items_of rows) = simp length-map c.pivot_place-place.ensures.within in
    let here : items_of c.swap.new.self ≡ swap (items_of rows) 0 place = ap items_of c.swap.ensures.after ∙ map-swap (λ (r : Vec ℤ). r.items) rows 0 place c.requires.some c.pivot_place-place.ensures.within in
    rw here (All-swap (IsRow c.args.width) (items_of rows) 0 place firsts insides c.requires.rows)
