-- What each part gave, joined to the answer for the whole.
use Rattle.std.proofs.Common.{◌≡◌, ◌+◌, ◌<◌, ℕ, ℤ, List, [], length, drop, get_or, ap, ◌∙◌, sym, arith}
use Rattle.std.proofs.lemmas.List.{drop_all, drop-set, get_or_default}
use Rattle.std.proofs.lemmas.Result.{err_from_is_err_and}
use Rattle.std.specs.Prelude.{unsigned_abs}
use Rattle.lin_solve.specs.Elimination.{coefficient, unknowns}
use Rattle.lin_solve.proofs.Steps.{zero_size}
use Rattle.lin_solve.proofs.Whole.{by_zero, by_no_reduction, by_fault, by_no_unknown, by_unknowns, unknowns_none}
use Rattle.sparse_rows.proofs.Steps.{start}
use Rattle.sparse_rows.proofs.elimination.+eliminate.Goals as goal

pub returns-then-is_empty-clause-answer : goal.returns-then-is_empty-clause-answer
returns-then-is_empty-clause-answer t c =
    let none : length c.args.rows.now ≡ 0 = grind arith in
    let nothing : drop c.args.column c.args.unknowns.now ≡ [] = drop_all c.args.column c.args.unknowns.now (omega arith) in
    rw nothing (unknowns_none c.args.column c.args.rows.now (length c.args.rows.now) none)

pub returns-then-magnitude-eq0-clause-answer : goal.returns-then-magnitude-eq0-clause-answer
returns-then-magnitude-eq0-clause-answer t c =
    let rows = c.args.rows.now in
    let col = c.args.column in
    let front = c.split_at_mut-front.result.0.now in
    let pivot : List ℤ = get_or front 0 c.index-front-0.result in
    let read = get_or_default front 0 c.index-front-0.result pivot (omega (arith, c.split_at_mut-front.ensures.front_len)) in
    let others = c.split_at_mut-front.result.1.now in
    let count : length rows ≡ length others + 1 = omega arith in
    let s = start rows c.choose_pivot.new.rows front others pivot col (length rows) c.choose_pivot.ensures.swapped c.split_at_mut-front.ensures.value c.split_at_mut-front.ensures.front_len read count in
    let none : unsigned_abs c.get.result ≡ 0 = sym c.magnitude.ensures.value ∙ c.if-magnitude-eq0.true in
    s ∙ by_zero col (unknowns (length others) (col + 1)) pivot others (sym c.get.ensures ∙ zero_size c.get.result none)

pub returns-in_default-clause-answer : goal.returns-in_default-clause-answer
returns-in_default-clause-answer t c =
    let rows = c.args.rows.now in
    let col = c.args.column in
    let front = c.split_at_mut-front.result.0.now in
    let pivot : List ℤ = get_or front 0 c.index-front-0.result in
    let read = get_or_default front 0 c.index-front-0.result pivot (omega (arith, c.split_at_mut-front.ensures.front_len)) in
    let others = c.split_at_mut-front.result.1.now in
    let count : length rows ≡ length others + 1 = omega arith in
    let s = start rows c.choose_pivot.new.rows front others pivot col (length rows) c.choose_pivot.ensures.swapped c.split_at_mut-front.ensures.value c.split_at_mut-front.ensures.front_len read count in
    let some : 0 < c.magnitude.result = omega arith in
    let size : 0 < unsigned_abs (coefficient col pivot) = rw (← c.get.ensures, ← c.magnitude.ensures.value) some in
    s ∙ by_no_reduction col (unknowns (length others) (col + 1)) pivot others _ size c.in_default.ensures.answer

pub returns-in_err-eliminate-clause-answer : goal.returns-in_err-eliminate-clause-answer
returns-in_err-eliminate-clause-answer t c =
    let rows = c.args.rows.now in
    let col = c.args.column in
    let front = c.split_at_mut-front.result.0.now in
    let pivot : List ℤ = get_or front 0 c.index-front-0.result in
    let read = get_or_default front 0 c.index-front-0.result pivot (omega (arith, c.split_at_mut-front.ensures.front_len)) in
    let others = c.split_at_mut-front.result.1.now in
    let count : length rows ≡ length others + 1 = omega arith in
    let s = start rows c.choose_pivot.new.rows front others pivot col (length rows) c.choose_pivot.ensures.swapped c.split_at_mut-front.ensures.value c.split_at_mut-front.ensures.front_len read count in
    let some : 0 < c.magnitude.result = omega arith in
    let size : 0 < unsigned_abs (coefficient col pivot) = rw (← c.get.ensures, ← c.magnitude.ensures.value) some in
    let p = err_from_is_err_and c.from_residual.result c.from_residual.ensures.1 in
    let fault = ap (λ (n : ℕ). unknowns n (col + 1) c.reduce_all.new.rows) (sym c.reduce_all.auto.rows) ∙ c.in_err-eliminate.ensures.answer in
    rw (p.1, p.2) (s ∙ by_fault col (unknowns (length others) (col + 1)) pivot others c.reduce_all.new.rows _ size c.in-Ok.ensures.answer fault)

pub returns-in_default-first_unknown-clause-answer : goal.returns-in_default-first_unknown-clause-answer
returns-in_default-first_unknown-clause-answer t c =
    let rows = c.args.rows.now in
    let col = c.args.column in
    let front = c.split_at_mut-front.result.0.now in
    let pivot : List ℤ = get_or front 0 c.index-front-0.result in
    let read = get_or_default front 0 c.index-front-0.result pivot (omega (arith, c.split_at_mut-front.ensures.front_len)) in
    let others = c.split_at_mut-front.result.1.now in
    let count : length rows ≡ length others + 1 = omega arith in
    let s = start rows c.choose_pivot.new.rows front others pivot col (length rows) c.choose_pivot.ensures.swapped c.split_at_mut-front.ensures.value c.split_at_mut-front.ensures.front_len read count in
    let some : 0 < c.magnitude.result = omega arith in
    let size : 0 < unsigned_abs (coefficient col pivot) = rw (← c.get.ensures, ← c.magnitude.ensures.value) some in
    let found = ap (λ (n : ℕ). unknowns n (col + 1) c.reduce_all.new.rows) (sym c.reduce_all.auto.rows) ∙ c.in_ok-eliminate.ensures.answer in
    s ∙ by_no_unknown col (unknowns (length others) (col + 1)) pivot others c.reduce_all.new.rows (drop (col + 1) c.eliminate.new.unknowns) _ size c.in-Ok.ensures.answer found (sym c.in_default-first_unknown.ensures)

pub returns-clause-answer : goal.returns-clause-answer
returns-clause-answer t c =
    let rows = c.args.rows.now in
    let col = c.args.column in
    let front = c.split_at_mut-front.result.0.now in
    let pivot : List ℤ = get_or front 0 c.index-front-0.result in
    let read = get_or_default front 0 c.index-front-0.result pivot (omega (arith, c.split_at_mut-front.ensures.front_len)) in
    let others = c.split_at_mut-front.result.1.now in
    let count : length rows ≡ length others + 1 = omega arith in
    let s = start rows c.choose_pivot.new.rows front others pivot col (length rows) c.choose_pivot.ensures.swapped c.split_at_mut-front.ensures.value c.split_at_mut-front.ensures.front_len read count in
    let some : 0 < c.magnitude.result = omega arith in
    let size : 0 < unsigned_abs (coefficient col pivot) = rw (← c.get.ensures, ← c.magnitude.ensures.value) some in
    let found = ap (λ (n : ℕ). unknowns n (col + 1) c.reduce_all.new.rows) (sym c.reduce_all.auto.rows) ∙ c.in_ok-eliminate.ensures.answer in
    let room : col < length c.eliminate.new.unknowns = omega arith in
    rw (drop-set c.eliminate.new.unknowns col c.in-Ok-first_unknown.unknown room) (s ∙ by_unknowns col (unknowns (length others) (col + 1)) pivot others c.reduce_all.new.rows (drop (col + 1) c.eliminate.new.unknowns) c.in-Ok-first_unknown.unknown size c.in-Ok.ensures.answer found (sym c.in-Ok-first_unknown.ensures))
