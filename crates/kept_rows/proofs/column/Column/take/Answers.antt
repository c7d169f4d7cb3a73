-- The column that was taken.
use Rattle.std.proofs.Common.{◌≡◌, ◌<◌, ℤ, List, length, drop, set, get_or, ◌++◌, ap, ◌∙◌, sym, arith}
use Rattle.std.proofs.lemmas.List.{get_or_default}
use Rattle.std.specs.Prelude.{unsigned_abs}
use Rattle.lin_solve.specs.Elimination.{coefficient}
use Rattle.kept_elimination.specs.Kept.{reduction}
use Rattle.fix_core.specs.Passes.{each}
use Rattle.kept_rows.specs.Told.{first_step}
use Rattle.kept_rows.proofs.Columns.{step_start, step_is, step_left, drop_one}
use Rattle.kept_rows.proofs.column.Column.take.Goals as goal

pub reduce_all-requires-clause-divisor : goal.reduce_all-requires-clause-divisor
reduce_all-requires-clause-divisor c =
    let front = c.split_at_mut-first.result.0.now in
    let column = c.args.column in
    let one : 0 < length front = omega (arith, c.split_at_mut-first.ensures.front_len) in
    let p1 : List ℤ = get_or front 0 c.index-first-0.result in
    let p2 : List ℤ = get_or front 0 c.index-first-0-2.result in
    let same : p1 ≡ p2 = get_or_default front 0 c.index-first-0.result c.index-first-0-2.result one in
    let divisor : c.get-divisor.result ≡ coefficient column p2 = c.get-divisor.ensures ∙ ap (coefficient column) same in
    let some : 0 < c.magnitude.result = omega arith in
    rw (← divisor, ← c.magnitude.ensures.value) some

pub returns-clause-answer : goal.returns-clause-answer
returns-clause-answer c =
    let front = c.split_at_mut-first.result.0.now in
    let others = c.split_at_mut-first.result.1.now in
    let column = c.args.column in
    let place = c.choose_pivot-self.result in
    let left = c.reduce_all.new.rows in
    let fs = c.reduce_all.new.factors in
    let one : 0 < length front = omega (arith, c.split_at_mut-first.ensures.front_len) in
    let p1 : List ℤ = get_or front 0 c.index-first-0.result in
    let p2 : List ℤ = get_or front 0 c.index-first-0-2.result in
    let p3 : List ℤ = get_or front 0 c.index-first-0-3.result in
    let same : p1 ≡ p2 = get_or_default front 0 c.index-first-0.result c.index-first-0-2.result one in
    let read = get_or_default front 0 c.index-first-0-2.result p2 one in
    let divisor : c.get-divisor.result ≡ coefficient column p2 = c.get-divisor.ensures ∙ ap (coefficient column) same in
    let some : 0 < c.magnitude.result = omega arith in
    let size : 0 < unsigned_abs (coefficient column p2) = rw (← divisor, ← c.magnitude.ensures.value) some in
    let long : length fs ≡ length left = omega (arith, c.reduce_all.ensures.factors, c.reduce_all.auto.rows) in
    let start = step_start c.args.rows.now c.choose_pivot-self.new.rows front others p2 column place c.choose_pivot-self.ensures.place c.choose_pivot-self.ensures.swapped c.split_at_mut-first.ensures.value c.split_at_mut-first.ensures.front_len read in
    let done = start ∙ step_is column place p2 fs others left size long c.in-Ok.ensures.answer in
    let pivot : c.swap.new.x ≡ p2 = c.swap.ensures.x_after ∙ get_or_default front 0 c.index-first-0-3.result c.index-first-0-2.result one in
    step_left column place p2 c.swap.new.x fs left _ (first_step column c.args.rows.now) done pivot (drop_one front c.swap.new.y left c.split_at_mut-first.ensures.front_len)
