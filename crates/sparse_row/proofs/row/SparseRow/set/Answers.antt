use Rattle.std.proofs.Common.{◌≡◌, ◌<◌, ℤ, List, set, length, sym, ap, ◌∙◌, arith, zero-add}
use Rattle.fix_core.specs.Fixed.{IsInRange}
use Rattle.sparse_row.specs.Entries.{filled, place_in}
use Rattle.sparse_row.proofs.Sparse.{length-filled}
use Rattle.sparse_row.proofs.Edits.{sparse-with, filled-with, room_for, has-behind, with-behind}
use Rattle.sparse_row.proofs.row.SparseRow.set.Goals as goal

pub write-requires : goal.write-requires
write-requires c =
    let wide = ap (λ (z : List ℤ). length z) (sym c.self.view_is) ∙ length-filled 0 c.self.inside.width c.self.inside.entries.items in
    let below : c.args.column < c.self.inside.width = omega (arith, c.requires, wide) in
    record { room = λ has. omega (arith, room_for 0 c.self.inside.width c.args.column c.self.inside.entries.items (omega arith) below c.self.invariant.sparse has, c.self.invariant.room) }

-- the column is behind all others
pub append-requires : goal.append-requires
append-requires c =
    let wide = ap (λ (z : List ℤ). length z) (sym c.self.view_is) ∙ length-filled 0 c.self.inside.width c.self.inside.entries.items in
    let below : c.args.column < c.self.inside.width = omega (arith, c.requires, wide) in
    let is : place_in c.args.column c.self.inside.entries.items ≡ length c.self.inside.entries.items = rw c.as_slice.ensures.value at (c.is_behind.ensures c.if-is_behind.true 0 c.self.inside.width (rw c.as_slice.ensures.value c.self.invariant.sparse)) in
    omega (arith, room_for 0 c.self.inside.width c.args.column c.self.inside.entries.items (omega arith) below c.self.invariant.sparse (has-behind c.args.column c.self.inside.entries.items is), c.self.invariant.room)

pub invariant_of-self : goal.invariant_of-self
invariant_of-self c =
    let wide = ap (λ (z : List ℤ). length z) (sym c.self.view_is) ∙ length-filled 0 c.self.inside.width c.self.inside.entries.items in
    let below : c.args.column < c.self.inside.width = omega (arith, c.requires, wide) in
    let within : IsInRange c.args.v = omega (arith, c.magnitude.ensures.value, c.magnitude.ensures.bound) in
    let is : place_in c.args.column c.self.inside.entries.items ≡ length c.self.inside.entries.items = rw c.as_slice.ensures.value at (c.is_behind.ensures c.if-is_behind.true 0 c.self.inside.width (rw c.as_slice.ensures.value c.self.invariant.sparse)) in
    record {
      sparse = rw (c.append.ensures.items ∙ sym (with-behind c.args.column c.args.v c.self.inside.entries.items is)) (sparse-with 0 c.self.inside.width c.args.column c.args.v c.self.inside.entries.items (omega arith) below within c.self.invariant.sparse);
      room = omega (arith, c.self.invariant.room, c.append.ensures.room);
    }

pub returns-then-is_behind : goal.returns-then-is_behind
returns-then-is_behind c =
    let wide = ap (λ (z : List ℤ). length z) (sym c.self.view_is) ∙ length-filled 0 c.self.inside.width c.self.inside.entries.items in
    let below : c.args.column < c.self.inside.width = omega (arith, c.requires, wide) in
    let within : IsInRange c.args.v = omega (arith, c.magnitude.ensures.value, c.magnitude.ensures.bound) in
    let is : place_in c.args.column c.self.inside.entries.items ≡ length c.self.inside.entries.items = rw c.as_slice.ensures.value at (c.is_behind.ensures c.if-is_behind.true 0 c.self.inside.width (rw c.as_slice.ensures.value c.self.invariant.sparse)) in
    ap (filled 0 c.self.inside.width) (c.append.ensures.items ∙ sym (with-behind c.args.column c.args.v c.self.inside.entries.items is))
    ∙ filled-with 0 c.self.inside.width c.self.inside.width c.args.column c.args.column c.args.v c.self.inside.entries.items below (sym (zero-add c.args.column)) below within c.self.invariant.sparse
    ∙ ap (λ (z : List ℤ). set z c.args.column c.args.v) c.self.view_is

pub invariant_of-self-2 : goal.invariant_of-self-2
invariant_of-self-2 c =
    let wide = ap (λ (z : List ℤ). length z) (sym c.self.view_is) ∙ length-filled 0 c.self.inside.width c.self.inside.entries.items in
    let below : c.args.column < c.self.inside.width = omega (arith, c.requires, wide) in
    let within : IsInRange c.args.v = omega (arith, c.magnitude.ensures.value, c.magnitude.ensures.bound) in
    record {
      sparse = rw c.write.ensures.items (sparse-with 0 c.self.inside.width c.args.column c.args.v c.self.inside.entries.items (omega arith) below within c.self.invariant.sparse);
      room = omega (arith, c.self.invariant.room, c.write.ensures.room);
    }

pub returns : goal.returns
returns c =
    let wide = ap (λ (z : List ℤ). length z) (sym c.self.view_is) ∙ length-filled 0 c.self.inside.width c.self.inside.entries.items in
    let below : c.args.column < c.self.inside.width = omega (arith, c.requires, wide) in
    let within : IsInRange c.args.v = omega (arith, c.magnitude.ensures.value, c.magnitude.ensures.bound) in
    ap (filled 0 c.self.inside.width) c.write.ensures.items
    ∙ filled-with 0 c.self.inside.width c.self.inside.width c.args.column c.args.column c.args.v c.self.inside.entries.items below (sym (zero-add c.args.column)) below within c.self.invariant.sparse
    ∙ ap (λ (z : List ℤ). set z c.args.column c.args.v) c.self.view_is
