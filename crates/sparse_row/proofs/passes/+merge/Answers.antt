use Rattle.std.proofs.Common.{rules, ◌≡◌, ◌-◌, ℤ, Err, sym, ap, ◌∙◌, arith}
use Rattle.fix_core.specs.Passes.{joined}
use Rattle.fix_core.specs.Fixed.{IsInRange, product_of, difference_of}
use Rattle.fix_core.specs.Laws.{difference_in_range}
use Rattle.lin_solve.specs.Elimination.{minus_row}
use Rattle.sparse_row.specs.Entries.{filled}
use Rattle.sparse_row.proofs.Merging.{at_of, sparse_wider, merge_ends_of, merge_more_of, merge_no_product, merge_no_difference, room_at, out_rises_on, rises_on}
use Rattle.sparse_row.proofs.passes.+merge.Goals as goal

pub returns-then-column-width-clause-answer : goal.returns-then-column-width-clause-answer
returns-then-column-width-clause-answer t c =
    merge_ends_of c.args.factor c.args.from c.min-column.result c.first_column.result c.first_column-2.result c.args.width c.args.out.now.items c.args.pivot.now c.args.row.now c.first_column.ensures c.first_column-2.ensures c.min-column.ensures c.if-column-width.true c.requires.from c.requires.pivot c.requires.row c.requires.out

pub returns-then-column-width-clause-sparse : goal.returns-then-column-width-clause-sparse
returns-then-column-width-clause-sparse t c = sparse_wider 0 c.args.from c.args.width c.args.out.now.items c.requires.from c.requires.out

pub returns-in_err-loss-clause-sparse : goal.returns-in_err-loss-clause-sparse
returns-in_err-loss-clause-sparse t c = sparse_wider 0 c.args.from c.args.width c.args.out.now.items c.requires.from c.requires.out

pub returns-in_err-value-clause-sparse : goal.returns-in_err-value-clause-sparse
returns-in_err-value-clause-sparse t c = sparse_wider 0 c.args.from c.args.width c.args.out.now.items c.requires.from c.requires.out

pub returns-in_err-loss-clause-answer : goal.returns-in_err-loss-clause-answer
returns-in_err-loss-clause-answer t c =
    let at = at_of c.args.from c.min-column.result c.first_column.result c.first_column-2.result c.args.width c.args.out.now.items c.args.pivot.now c.args.row.now c.first_column.ensures c.first_column-2.ensures c.min-column.ensures c.if-column-width.false c.requires.from c.requires.pivot c.requires.row c.requires.out in
    let stops : joined (filled 0 c.args.from c.args.out.now.items) (minus_row c.args.factor (filled c.args.from (c.args.width - c.args.from) c.args.pivot.now) (filled c.args.from (c.args.width - c.args.from) c.args.row.now)) ≡ Err c.in_err-loss.field-0.0 = merge_no_product c.args.factor c.args.from c.min-column.result c.args.width c.args.out.now.items c.args.pivot.now c.args.row.now c.in_err-loss.field-0.0 at (sym (c.mul.ensures ∙ ap (product_of c.args.factor) c.head_value.ensures) ∙ c.in_err-loss.was) in
    rw stops (search rules)

pub returns-in_err-value-clause-answer : goal.returns-in_err-value-clause-answer
returns-in_err-value-clause-answer t c =
    let at = at_of c.args.from c.min-column.result c.first_column.result c.first_column-2.result c.args.width c.args.out.now.items c.args.pivot.now c.args.row.now c.first_column.ensures c.first_column-2.ensures c.min-column.ensures c.if-column-width.false c.requires.from c.requires.pivot c.requires.row c.requires.out in
    let stops : joined (filled 0 c.args.from c.args.out.now.items) (minus_row c.args.factor (filled c.args.from (c.args.width - c.args.from) c.args.pivot.now) (filled c.args.from (c.args.width - c.args.from) c.args.row.now)) ≡ Err c.in_err-value.field-0.0 = merge_no_difference c.args.factor c.args.from c.min-column.result c.args.width c.args.out.now.items c.args.pivot.now c.args.row.now c.in_ok-loss.loss c.in_err-value.field-0.0 at (sym (c.mul.ensures ∙ ap (product_of c.args.factor) c.head_value.ensures) ∙ c.in_ok-loss.was) (sym (c.sub.ensures ∙ ap (λ (z : ℤ). difference_of z c.in_ok-loss.loss) c.head_value-2.ensures) ∙ c.in_err-value.was) in
    rw stops (search rules)

pub append-requires : goal.append-requires
append-requires t c =
    let at = at_of c.args.from c.min-column.result c.first_column.result c.first_column-2.result c.args.width c.args.out.now.items c.args.pivot.now c.args.row.now c.first_column.ensures c.first_column-2.ensures c.min-column.ensures c.if-column-width.false c.requires.from c.requires.pivot c.requires.row c.requires.out in
    record { room = omega (arith, c.requires.room, room_at c.args.from c.min-column.result c.args.width c.args.out.now.items c.args.pivot.now c.args.row.now at) }

pub overflow_add-column : goal.overflow_add-column
overflow_add-column t c =
    let at = at_of c.args.from c.min-column.result c.first_column.result c.first_column-2.result c.args.width c.args.out.now.items c.args.pivot.now c.args.row.now c.first_column.ensures c.first_column-2.ensures c.min-column.ensures c.if-column-width.false c.requires.from c.requires.pivot c.requires.row c.requires.out in
    omega (arith, at.below, c.ranges.width.fits)

pub merge-requires : goal.merge-requires
merge-requires t c =
    let at = at_of c.args.from c.min-column.result c.first_column.result c.first_column-2.result c.args.width c.args.out.now.items c.args.pivot.now c.args.row.now c.first_column.ensures c.first_column-2.ensures c.min-column.ensures c.if-column-width.false c.requires.from c.requires.pivot c.requires.row c.requires.out in
    let within : IsInRange c.in_ok-value.value = difference_in_range c.head_value-2.result c.in_ok-loss.loss c.in_ok-value.value (sym c.sub.ensures ∙ c.in_ok-value.was) in (
      omega (arith, c.decreases, at.from_le, at.below),
      (
        rises_on c.min-column.result c.args.width c.args.pivot.now c.behind-pivot.result.now at.pivot_rises c.behind-pivot.ensures,
        (
          rises_on c.min-column.result c.args.width c.args.row.now c.behind-row.result.now at.row_rises c.behind-row.ensures,
          (
            out_rises_on c.args.from c.min-column.result c.args.width c.args.out.now.items c.args.pivot.now c.args.row.now c.append.new.entries.items c.in_ok-value.value at within c.append.ensures.items,
            (omega (arith, at.below), omega (arith, c.requires.room, c.append.ensures.room)),
          ),
        ),
      ),
    )

pub returns-clause-answer : goal.returns-clause-answer
returns-clause-answer t c =
    let at = at_of c.args.from c.min-column.result c.first_column.result c.first_column-2.result c.args.width c.args.out.now.items c.args.pivot.now c.args.row.now c.first_column.ensures c.first_column-2.ensures c.min-column.ensures c.if-column-width.false c.requires.from c.requires.pivot c.requires.row c.requires.out in
    let within : IsInRange c.in_ok-value.value = difference_in_range c.head_value-2.result c.in_ok-loss.loss c.in_ok-value.value (sym c.sub.ensures ∙ c.in_ok-value.was) in
    merge_more_of c.args.factor c.args.from c.min-column.result c.args.width c.args.out.now.items c.args.pivot.now c.args.row.now c.append.new.entries.items c.behind-pivot.result.now c.behind-row.result.now c.in_ok-loss.loss c.in_ok-value.value at within (sym (c.mul.ensures ∙ ap (product_of c.args.factor) c.head_value.ensures) ∙ c.in_ok-loss.was) (sym (c.sub.ensures ∙ ap (λ (z : ℤ). difference_of z c.in_ok-loss.loss) c.head_value-2.ensures) ∙ c.in_ok-value.was) c.append.ensures.items c.behind-pivot.ensures c.behind-row.ensures
    ∙ c.merge.ensures.answer
