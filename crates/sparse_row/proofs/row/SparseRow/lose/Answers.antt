use Rattle.std.proofs.Common.{rules, ◌≡◌, ℤ, List, length, Err, sym, ap, ◌∙◌, arith}
use Rattle.lin_solve.specs.Elimination.{minus_row}
use Rattle.lin_solve.proofs.Steps.{minus_row-zero, zero_size}
use Rattle.sparse_row.proofs.Sparse.{length-filled, sparse_none}
use Rattle.sparse_row.proofs.Lookup.{filled-within}
use Rattle.sparse_row.proofs.Merging.{row_loses}
use Rattle.sparse_row.proofs.row.SparseRow.lose.Goals as goal

pub returns-then-magnitude-eq0-clause-answer : goal.returns-then-magnitude-eq0-clause-answer
returns-then-magnitude-eq0-clause-answer c =
    let none = zero_size c.args.factor (sym c.magnitude.ensures.value ∙ c.if-magnitude-eq0.true) in
    ap (λ (f : ℤ). minus_row f c.args.pivot.now c.args.self.now) none
    ∙ minus_row-zero c.args.pivot.now c.args.self.now c.requires.pivot (rw c.self.view_is at (filled-within c.self.inside.width c.self.inside.entries.items c.self.invariant.sparse))

pub merge-requires-clause-pivot : goal.merge-requires-clause-pivot
merge-requires-clause-pivot c =
    let row_width = ap (λ (z : List ℤ). length z) (sym c.self.view_is) ∙ length-filled 0 c.self.inside.width c.self.inside.entries.items in
    let pivot_width = ap (λ (z : List ℤ). length z) (sym c.pivot.view_is) ∙ length-filled 0 c.pivot.inside.width c.pivot.inside.entries.items in
    let same : c.pivot.inside.width ≡ c.self.inside.width = omega (arith, row_width, pivot_width, c.requires.pivot) in
    rw (c.as_slice-pivot.ensures.value, ← same) c.pivot.invariant.sparse

pub merge-requires-clause-out : goal.merge-requires-clause-out
merge-requires-clause-out c = rw c.clear.ensures.items (sparse_none 0 0)

pub merge-requires-clause-room : goal.merge-requires-clause-room
merge-requires-clause-room c =
    let row_width = ap (λ (z : List ℤ). length z) (sym c.self.view_is) ∙ length-filled 0 c.self.inside.width c.self.inside.entries.items in
    let spare_width = ap (λ (z : List ℤ). length z) (sym c.spare.view_is) ∙ length-filled 0 c.spare.inside.width c.spare.inside.entries.items in
    omega (arith, row_width, spare_width, c.requires.spare, c.spare.invariant.room, c.clear.ensures.capacity)

pub invariant_of-spare : goal.invariant_of-spare
invariant_of-spare c =
    let row_width = ap (λ (z : List ℤ). length z) (sym c.self.view_is) ∙ length-filled 0 c.self.inside.width c.self.inside.entries.items in
    let spare_width = ap (λ (z : List ℤ). length z) (sym c.spare.view_is) ∙ length-filled 0 c.spare.inside.width c.spare.inside.entries.items in
    let same : c.spare.inside.width ≡ c.self.inside.width = omega (arith, row_width, spare_width, c.requires.spare) in
    record { sparse = rw same c.merge.ensures.sparse; room = rw same c.merge.ensures.room }

pub returns-in_err-merge-clause-answer : goal.returns-in_err-merge-clause-answer
returns-in_err-merge-clause-answer c =
    let row_width = ap (λ (z : List ℤ). length z) (sym c.self.view_is) ∙ length-filled 0 c.self.inside.width c.self.inside.entries.items in
    let pivot_width = ap (λ (z : List ℤ). length z) (sym c.pivot.view_is) ∙ length-filled 0 c.pivot.inside.width c.pivot.inside.entries.items in
    let same : c.pivot.inside.width ≡ c.self.inside.width = omega (arith, row_width, pivot_width, c.requires.pivot) in
    let stops : minus_row c.args.factor c.args.pivot.now c.args.self.now ≡ Err c.in_err-merge.field-0.0 =
    row_loses c.args.factor c.self.inside.width c.pivot.inside.width c.clear.new.self.items c.pivot.inside.entries.items c.self.inside.entries.items c.as_slice-pivot.result.now c.as_slice-row.result.now c.args.pivot.now c.args.self.now
    c.pivot.view_is c.self.view_is same c.as_slice-pivot.ensures.value c.as_slice-row.ensures.value c.clear.ensures.items
    ∙ c.in_err-merge.ensures.answer in
    rw stops (search rules)

pub returns-in_err-merge-clause-spare : goal.returns-in_err-merge-clause-spare
returns-in_err-merge-clause-spare c =
    let spare_width = ap (λ (z : List ℤ). length z) (sym c.spare.view_is) ∙ length-filled 0 c.spare.inside.width c.spare.inside.entries.items in
    length-filled 0 c.spare.inside.width c.merge.new.out.items ∙ sym spare_width ∙ c.requires.spare

pub invariant_of-spare-2 : goal.invariant_of-spare-2
invariant_of-spare-2 c =
    let row_width = ap (λ (z : List ℤ). length z) (sym c.self.view_is) ∙ length-filled 0 c.self.inside.width c.self.inside.entries.items in
    let spare_width = ap (λ (z : List ℤ). length z) (sym c.spare.view_is) ∙ length-filled 0 c.spare.inside.width c.spare.inside.entries.items in
    let same : c.spare.inside.width ≡ c.self.inside.width = omega (arith, row_width, spare_width, c.requires.spare) in
    record { sparse = rw (c.swap.ensures.y_after, same) c.self.invariant.sparse; room = rw (c.swap.ensures.y_after, same) c.self.invariant.room }

pub returns-clause-answer : goal.returns-clause-answer
returns-clause-answer c =
    let row_width = ap (λ (z : List ℤ). length z) (sym c.self.view_is) ∙ length-filled 0 c.self.inside.width c.self.inside.entries.items in
    let pivot_width = ap (λ (z : List ℤ). length z) (sym c.pivot.view_is) ∙ length-filled 0 c.pivot.inside.width c.pivot.inside.entries.items in
    let same : c.pivot.inside.width ≡ c.self.inside.width = omega (arith, row_width, pivot_width, c.requires.pivot) in
    rw c.swap.ensures.x_after
    (row_loses c.args.factor c.self.inside.width c.pivot.inside.width c.clear.new.self.items c.pivot.inside.entries.items c.self.inside.entries.items c.as_slice-pivot.result.now c.as_slice-row.result.now c.args.pivot.now c.args.self.now
    c.pivot.view_is c.self.view_is same c.as_slice-pivot.ensures.value c.as_slice-row.ensures.value c.clear.ensures.items
    ∙ c.in_ok-merge.ensures.answer)

pub returns-clause-width : goal.returns-clause-width
returns-clause-width c =
    let row_width = ap (λ (z : List ℤ). length z) (sym c.self.view_is) ∙ length-filled 0 c.self.inside.width c.self.inside.entries.items in
    length-filled 0 c.self.inside.width c.swap.new.x.items ∙ sym row_width

pub returns-clause-spare : goal.returns-clause-spare
returns-clause-spare c =
    let spare_width = ap (λ (z : List ℤ). length z) (sym c.spare.view_is) ∙ length-filled 0 c.spare.inside.width c.spare.inside.entries.items in
    length-filled 0 c.spare.inside.width c.swap.new.y.items ∙ sym spare_width ∙ c.requires.spare
