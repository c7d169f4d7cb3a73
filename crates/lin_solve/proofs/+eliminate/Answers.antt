-- What each part gave, joined to the answer for the whole.
use Rattle.std.proofs.Common.{◌≡◌, ◌+◌, ◌<◌, ℕ, [], length, drop, ap, ◌∙◌, sym, arith}
use Rattle.std.proofs.lemmas.List.{drop_all, drop-set, take_rest}
use Rattle.std.proofs.lemmas.Result.{err_from_is_err_and}
use Rattle.std.specs.Prelude.{unsigned_abs}
use Rattle.lin_solve.specs.Entries.{items_of}
use Rattle.lin_solve.specs.Elimination.{coefficient, unknowns}
use Rattle.lin_solve.proofs.Steps.{coefficient_is, zero_size}
use Rattle.lin_solve.proofs.Whole.{start, pivot_row, other_rows, by_zero, by_no_reduction, by_fault, by_no_unknown, by_unknowns, unknowns_none}
use Rattle.lin_solve.proofs.+eliminate.Goals as goal

pub returns-then-is_empty-clause-answer : goal.returns-then-is_empty-clause-answer
returns-then-is_empty-clause-answer t c =
    let none : length c.args.rows.now ≡ 0 = grind arith in
    let nothing : drop c.args.column c.args.unknowns.now ≡ [] = drop_all c.args.column c.args.unknowns.now (omega arith) in
    rw nothing (unknowns_none c.args.column (items_of c.args.rows.now) (length c.args.rows.now) none)

pub returns-then-magnitude-eq0-clause-answer : goal.returns-then-magnitude-eq0-clause-answer
returns-then-magnitude-eq0-clause-answer t c =
    let rows = c.args.rows.now in
    let col = c.args.column in
    let pivot = c.as_slice-pivot.result.now in
    let count : length rows ≡ length c.split_at_mut-front.result.1.now + 1 = omega arith in
    let s = start (items_of rows) _ _ _ _ pivot col (length rows) c.choose_pivot.ensures.swapped c.split_at_mut-front.ensures.value c.split_at_mut-front.ensures.front_len c.as_slice-pivot.ensures.value count in
    let w = pivot_row _ _ _ _ _ c.args.width c.split_at_mut-front.ensures.value c.split_at_mut-front.ensures.front_len c.as_slice-pivot.ensures.value c.choose_pivot.ensures.rows in
    let h : col < length pivot = omega (arith, w) in
    let x = coefficient_is col pivot c.index-pivot-column.result h c.index-pivot-column.is in
    let none : unsigned_abs c.index-pivot-column.result ≡ 0 = sym c.magnitude.ensures.value ∙ c.if-magnitude-eq0.true in
    s ∙ by_zero col (unknowns (length c.split_at_mut-front.result.1.now) (col + 1)) pivot (items_of c.split_at_mut-front.result.1.now) (x ∙ zero_size c.index-pivot-column.result none)

pub reduce_all-requires-clause-rows : goal.reduce_all-requires-clause-rows
reduce_all-requires-clause-rows t c =
    let w = pivot_row _ _ _ _ _ c.args.width c.split_at_mut-front.ensures.value c.split_at_mut-front.ensures.front_len c.as_slice-pivot.ensures.value c.choose_pivot.ensures.rows in
    rw w (other_rows _ _ _ c.args.width c.split_at_mut-front.ensures.value c.split_at_mut-front.ensures.front_len c.choose_pivot.ensures.rows)

pub returns-in_default-clause-answer : goal.returns-in_default-clause-answer
returns-in_default-clause-answer t c =
    let rows = c.args.rows.now in
    let col = c.args.column in
    let pivot = c.as_slice-pivot.result.now in
    let count : length rows ≡ length c.split_at_mut-front.result.1.now + 1 = omega arith in
    let s = start (items_of rows) _ _ _ _ pivot col (length rows) c.choose_pivot.ensures.swapped c.split_at_mut-front.ensures.value c.split_at_mut-front.ensures.front_len c.as_slice-pivot.ensures.value count in
    let w = pivot_row _ _ _ _ _ c.args.width c.split_at_mut-front.ensures.value c.split_at_mut-front.ensures.front_len c.as_slice-pivot.ensures.value c.choose_pivot.ensures.rows in
    let h : col < length pivot = omega (arith, w) in
    let x = coefficient_is col pivot c.index-pivot-column.result h c.index-pivot-column.is in
    let some : 0 < c.magnitude.result = omega arith in
    let size : 0 < unsigned_abs (coefficient col pivot) = rw (x, ← c.magnitude.ensures.value) some in
    s ∙ by_no_reduction col _ _ _ _ size c.in_default.ensures.answer

pub returns-in_err-eliminate-clause-answer : goal.returns-in_err-eliminate-clause-answer
returns-in_err-eliminate-clause-answer t c =
    let rows = c.args.rows.now in
    let col = c.args.column in
    let pivot = c.as_slice-pivot.result.now in
    let count : length rows ≡ length c.split_at_mut-front.result.1.now + 1 = omega arith in
    let s = start (items_of rows) _ _ _ _ pivot col (length rows) c.choose_pivot.ensures.swapped c.split_at_mut-front.ensures.value c.split_at_mut-front.ensures.front_len c.as_slice-pivot.ensures.value count in
    let w = pivot_row _ _ _ _ _ c.args.width c.split_at_mut-front.ensures.value c.split_at_mut-front.ensures.front_len c.as_slice-pivot.ensures.value c.choose_pivot.ensures.rows in
    let h : col < length pivot = omega (arith, w) in
    let x = coefficient_is col pivot c.index-pivot-column.result h c.index-pivot-column.is in
    let some : 0 < c.magnitude.result = omega arith in
    let size : 0 < unsigned_abs (coefficient col pivot) = rw (x, ← c.magnitude.ensures.value) some in
    let p = err_from_is_err_and c.from_residual.result c.from_residual.ensures.1 in
    let fault = ap (λ (n : ℕ). unknowns n (col + 1) (items_of c.reduce_all.new.rows)) (sym c.reduce_all.auto.rows) ∙ c.in_err-eliminate.ensures.answer in
    rw (p.1, p.2) (s ∙ by_fault col _ _ _ _ _ size c.in-Ok.ensures.answer fault)

pub returns-in_default-first_unknown-clause-answer : goal.returns-in_default-first_unknown-clause-answer
returns-in_default-first_unknown-clause-answer t c =
    let rows = c.args.rows.now in
    let col = c.args.column in
    let pivot = c.as_slice-pivot.result.now in
    let count : length rows ≡ length c.split_at_mut-front.result.1.now + 1 = omega arith in
    let s = start (items_of rows) _ _ _ _ pivot col (length rows) c.choose_pivot.ensures.swapped c.split_at_mut-front.ensures.value c.split_at_mut-front.ensures.front_len c.as_slice-pivot.ensures.value count in
    let w = pivot_row _ _ _ _ _ c.args.width c.split_at_mut-front.ensures.value c.split_at_mut-front.ensures.front_len c.as_slice-pivot.ensures.value c.choose_pivot.ensures.rows in
    let h : col < length pivot = omega (arith, w) in
    let x = coefficient_is col pivot c.index-pivot-column.result h c.index-pivot-column.is in
    let some : 0 < c.magnitude.result = omega arith in
    let size : 0 < unsigned_abs (coefficient col pivot) = rw (x, ← c.magnitude.ensures.value) some in
    let found = ap (λ (n : ℕ). unknowns n (col + 1) (items_of c.reduce_all.new.rows)) (sym c.reduce_all.auto.rows) ∙ c.in_ok-eliminate.ensures.answer in
    s ∙ by_no_unknown col _ _ _ _ _ _ size c.in-Ok.ensures.answer found (sym (simp take_rest at c.in_default-first_unknown.ensures))

pub returns-clause-answer : goal.returns-clause-answer
returns-clause-answer t c =
    let rows = c.args.rows.now in
    let col = c.args.column in
    let pivot = c.as_slice-pivot.result.now in
    let count : length rows ≡ length c.split_at_mut-front.result.1.now + 1 = omega arith in
    let s = start (items_of rows) _ _ _ _ pivot col (length rows) c.choose_pivot.ensures.swapped c.split_at_mut-front.ensures.value c.split_at_mut-front.ensures.front_len c.as_slice-pivot.ensures.value count in
    let w = pivot_row _ _ _ _ _ c.args.width c.split_at_mut-front.ensures.value c.split_at_mut-front.ensures.front_len c.as_slice-pivot.ensures.value c.choose_pivot.ensures.rows in
    let h : col < length pivot = omega (arith, w) in
    let x = coefficient_is col pivot c.index-pivot-column.result h c.index-pivot-column.is in
    let some : 0 < c.magnitude.result = omega arith in
    let size : 0 < unsigned_abs (coefficient col pivot) = rw (x, ← c.magnitude.ensures.value) some in
    let found = ap (λ (n : ℕ). unknowns n (col + 1) (items_of c.reduce_all.new.rows)) (sym c.reduce_all.auto.rows) ∙ c.in_ok-eliminate.ensures.answer in
    let room : col < length c.eliminate.new.unknowns = omega arith in
    rw (drop-set c.eliminate.new.unknowns col c.in-Ok-first_unknown.unknown room) (s ∙ by_unknowns col _ _ _ _ _ _ size c.in-Ok.ensures.answer found (sym (simp take_rest at c.in-Ok-first_unknown.ensures)))
