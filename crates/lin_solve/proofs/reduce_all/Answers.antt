-- One row more is done.
use Rattle.std.proofs.Common.{◌≡◌, ◌<◌, ◌≤◌, [], ℤ, length, get_or, set, ap, ◌∙◌, sym, arith}
use Rattle.std.proofs.lemmas.List.{length-map}
use Rattle.std.proofs.lemmas.Result.{err_from_is_err_and}
use Rattle.std.proofs.lemmas.List.Elements.{All-set}
use Rattle.std.specs.Global.{Vec}
use Rattle.std.specs.Vec.{with_items}
use Rattle.lin_solve.specs.Entries.{items_of, IsRow}
use Rattle.lin_solve.specs.Elimination.{reduced}
use Rattle.fix_core.specs.Laws.{each_more, each_fails, each_end}
use Rattle.lin_solve.proofs.Steps.{item_at, items_set}
use Rattle.lin_solve.proofs.reduce_all.Goals as goal

pub reduce-requires-clause-lengths : goal.reduce-requires-clause-lengths
reduce-requires-clause-lengths c =
    let h : c.loop-i.i < length c.loop-i.rows = omega arith in
    let hi : c.loop-i.i < length (items_of c.loop-i.rows) = simp length-map h in
    let e = item_at c.loop-i.rows c.loop-i.i c.index-rows-i.result [] h in
    let l = c.loop-i.invariant.rows c.loop-i.i [] hi in
    rw (c.as_mut_slice.ensures.value, ← e) (sym l.long)

pub reduce-requires-clause-column : goal.reduce-requires-clause-column
reduce-requires-clause-column c =
    let h : c.loop-i.i < length c.loop-i.rows = omega arith in
    let hi : c.loop-i.i < length (items_of c.loop-i.rows) = simp length-map h in
    let e = item_at c.loop-i.rows c.loop-i.i c.index-rows-i.result [] h in
    let l = c.loop-i.invariant.rows c.loop-i.i [] hi in
    rw (c.as_mut_slice.ensures.value, ← e, l.long) c.requires.column

pub reduce-requires-clause-within : goal.reduce-requires-clause-within
reduce-requires-clause-within c =
    let h : c.loop-i.i < length c.loop-i.rows = omega arith in
    let hi : c.loop-i.i < length (items_of c.loop-i.rows) = simp length-map h in
    let e = item_at c.loop-i.rows c.loop-i.i c.index-rows-i.result [] h in
    let l = c.loop-i.invariant.rows c.loop-i.i [] hi in
    rw (c.as_mut_slice.ensures.value, ← e) l.within

pub loop-i-preserved : goal.loop-i-preserved
loop-i-preserved c =
    let rows = c.loop-i.rows in
    let i = c.loop-i.i in
    let v : Vec ℤ = get_or rows i c.index-rows-i.result in
    let ys = c.reduce.new.row in
    let h : i < length rows = omega arith in
    let hi : i < length (items_of rows) = simp length-map h in
    let kept : length ys ≡ v.len = c.reduce.auto.row ∙ c.as_mut_slice.ensures.len in
    let read : v.items ≡ get_or (items_of rows) i v.items = sym (item_at rows i c.index-rows-i.result v.items h) in
    let written : items_of (set rows i (with_items v ys)) ≡ set (items_of rows) i ys = items_set rows i v ys kept in
    let done = rw c.as_mut_slice.ensures.value at c.in_ok-reduce.ensures.answer in
    let row : IsRow (length c.args.pivot.now) ys = record { long = c.reduce.auto.row ∙ ap length c.as_mut_slice.ensures.value ∙ ap length read ∙ (c.loop-i.invariant.rows i v.items hi).long; within = c.in_ok-reduce.ensures.within } in
    record {
      so_far = c.loop-i.invariant.so_far ∙ rw written (each_more (reduced c.args.column c.args.pivot.now) (items_of rows) i v.items ys hi read done);
      rows = rw written (All-set (IsRow (length c.args.pivot.now)) (items_of rows) i ys row c.loop-i.invariant.rows);
    }

pub returns-in_err-reduce-clause-answer : goal.returns-in_err-reduce-clause-answer
returns-in_err-reduce-clause-answer c =
    let rows = c.loop-i.rows in
    let i = c.loop-i.i in
    let v : Vec ℤ = get_or rows i c.index-rows-i.result in
    let h : i < length rows = omega arith in
    let hi : i < length (items_of rows) = simp length-map h in
    let read : v.items ≡ get_or (items_of rows) i v.items = sym (item_at rows i c.index-rows-i.result v.items h) in
    let fails = rw c.as_mut_slice.ensures.value at c.in_err-reduce.ensures.answer in
    let p = err_from_is_err_and c.from_residual.result c.from_residual.ensures.1 in
    rw (p.1, p.2) (c.loop-i.invariant.so_far ∙ each_fails (reduced c.args.column c.args.pivot.now) (items_of rows) i v.items _ hi read fails)

pub returns-in_err-reduce-clause-rows : goal.returns-in_err-reduce-clause-rows
returns-in_err-reduce-clause-rows c =
    let rows = c.loop-i.rows in
    let i = c.loop-i.i in
    let v : Vec ℤ = get_or rows i c.index-rows-i.result in
    let ys = c.reduce.new.row in
    let h : i < length rows = omega arith in
    let hi : i < length (items_of rows) = simp length-map h in
    let kept : length ys ≡ v.len = c.reduce.auto.row ∙ c.as_mut_slice.ensures.len in
    let read : v.items ≡ get_or (items_of rows) i v.items = sym (item_at rows i c.index-rows-i.result v.items h) in
    let row : IsRow (length c.args.pivot.now) ys = record { long = c.reduce.auto.row ∙ ap length c.as_mut_slice.ensures.value ∙ ap length read ∙ (c.loop-i.invariant.rows i v.items hi).long; within = c.in_err-reduce.ensures.within } in
    rw (items_set rows i v ys kept) (All-set (IsRow (length c.args.pivot.now)) (items_of rows) i ys row c.loop-i.invariant.rows)

pub returns-clause-answer : goal.returns-clause-answer
returns-clause-answer c =
    let all : length (items_of c.loop-i.rows) ≤ c.loop-i.i = simp length-map (omega arith) in
    c.loop-i.invariant.so_far ∙ each_end (reduced c.args.column c.args.pivot.now) (items_of c.loop-i.rows) c.loop-i.i all
