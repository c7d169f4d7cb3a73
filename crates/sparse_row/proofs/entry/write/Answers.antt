use Rattle.std.proofs.Common.{◌≡◌, ◌<◌, sym, ap, ◌∙◌, arith, true}
use Rattle.std.specs.Prelude.{is_ok, insert, remove, unsigned_abs}
use Rattle.sparse_row.specs.declared.entry.Entry.{Entry}
use Rattle.sparse_row.specs.Entries.{place_in, has_in, with_entry}
use Rattle.sparse_row.proofs.Edits.{has_place, place-le, with-removes, with-sets, with-inserts, with-keeps}
use Rattle.sparse_row.proofs.entry.write.Goals as goal

pub remove-requires : goal.remove-requires
remove-requires c =
    let place = c.place_of-place.ensures ∙ ap (place_in c.args.column) c.as_slice.ensures.value in
    let has = sym (c.has_at-is_kept.ensures ∙ ap (has_in c.args.column) c.as_slice-2.ensures.value) ∙ c.if-is_kept.true in
    omega (arith, place, has_place c.args.column c.args.entries.now.items has)

pub index_mut-requires : goal.index_mut-requires
index_mut-requires c =
    let place = c.place_of-place.ensures ∙ ap (place_in c.args.column) c.as_slice.ensures.value in
    let has = sym (c.has_at-is_kept.ensures ∙ ap (has_in c.args.column) c.as_slice-2.ensures.value) ∙ c.if-is_kept-2.true in
    omega (arith, place, has_place c.args.column c.args.entries.now.items has)

pub insert-requires : goal.insert-requires
insert-requires c =
    let place = c.place_of-place.ensures ∙ ap (place_in c.args.column) c.as_slice.ensures.value in
    omega (arith, place, place-le c.args.column c.args.entries.now.items)

pub returns-then-is_kept-clause-items : goal.returns-then-is_kept-clause-items
returns-then-is_kept-clause-items c =
    let place = c.place_of-place.ensures ∙ ap (place_in c.args.column) c.as_slice.ensures.value in
    let has = sym (c.has_at-is_kept.ensures ∙ ap (has_in c.args.column) c.as_slice-2.ensures.value) ∙ c.if-is_kept.true in
    c.remove.ensures.items ∙ ap (remove c.args.entries.now.items) place ∙ sym (with-removes c.args.column c.args.value c.args.entries.now.items has (sym c.magnitude.ensures.value ∙ c.if-magnitude-eq0.true))

pub returns-else-is_kept-clause-items : goal.returns-else-is_kept-clause-items
returns-else-is_kept-clause-items c =
    let has = sym (c.has_at-is_kept.ensures ∙ ap (has_in c.args.column) c.as_slice-2.ensures.value) ∙ c.if-is_kept.false in
    sym (with-keeps c.args.column c.args.value c.args.entries.now.items has (sym c.magnitude.ensures.value ∙ c.if-magnitude-eq0.true))

pub returns-then-is_kept-2-clause-items : goal.returns-then-is_kept-2-clause-items
returns-then-is_kept-2-clause-items c =
    let place = c.place_of-place.ensures ∙ ap (place_in c.args.column) c.as_slice.ensures.value in
    let has = sym (c.has_at-is_kept.ensures ∙ ap (has_in c.args.column) c.as_slice-2.ensures.value) ∙ c.if-is_kept-2.true in
    let some : 0 < unsigned_abs c.args.value = omega (arith, c.magnitude.ensures.value, c.if-magnitude-eq0.false) in
    rw place (sym (with-sets c.args.column c.args.value c.args.entries.now.items has some))

pub returns-else-is_kept-2-clause-items : goal.returns-else-is_kept-2-clause-items
returns-else-is_kept-2-clause-items c =
    let place = c.place_of-place.ensures ∙ ap (place_in c.args.column) c.as_slice.ensures.value in
    let has = sym (c.has_at-is_kept.ensures ∙ ap (has_in c.args.column) c.as_slice-2.ensures.value) ∙ c.if-is_kept-2.false in
    let some : 0 < unsigned_abs c.args.value = omega (arith, c.magnitude.ensures.value, c.if-magnitude-eq0.false) in
    let done : is_ok c.insert.result ≡ true = c.insert.ensures.succeeds (c.requires.room has) in
    let items = c.insert.ensures.items in
    let entry : Entry = record { column = c.args.column; value = c.args.value } in
    let inserted : insert c.args.entries.now.items c.place_of-place.result entry ≡ with_entry c.args.column c.args.value c.args.entries.now.items = rw place (sym (with-inserts c.args.column c.args.value c.args.entries.now.items has some)) in
    rw done at items ∙ inserted
