use Rattle.std.proofs.Common.{◌<◌, length, ◌∙◌, sym, arith}
use Rattle.std.proofs.lemmas.Result.{err_from_is_err_and}
use Rattle.std.proofs.lemmas.List.Elements.{All-set}
use Rattle.fix_core.specs.Fixed.{IsInRange}
use Rattle.fix_core.specs.Laws.{difference_in_range}
use Rattle.sparse_row.proofs.Multiples.{column_below, lost_here, lost_no_difference}
use Rattle.sparse_row.proofs.products.subtract.Goals as goal

pub bounds-numbers-entry : goal.bounds-numbers-entry
bounds-numbers-entry c =
    let below = column_below 0 (length c.args.numbers.now) c.args.entries.now c.loop-entry.entry-index c.entry-item.result (omega arith) c.entry-item.is c.requires.columns in
    omega (arith, below)

pub offset_bounds-numbers-entry : goal.offset_bounds-numbers-entry
offset_bounds-numbers-entry c =
    let below = column_below 0 (length c.args.numbers.now) c.args.entries.now c.loop-entry.entry-index c.entry-item.result (omega arith) c.entry-item.is c.requires.columns in
    omega (arith, below)

pub bounds-numbers-entry-in-loop-entry : goal.bounds-numbers-entry-in-loop-entry
bounds-numbers-entry-in-loop-entry c =
    let below = column_below 0 (length c.args.numbers.now) c.args.entries.now c.loop-entry.entry-index c.entry-item.result (omega arith) c.entry-item.is c.requires.columns in
    omega (arith, below)

pub offset_bounds-numbers-entry-in-loop-entry : goal.offset_bounds-numbers-entry-in-loop-entry
offset_bounds-numbers-entry-in-loop-entry c =
    let below = column_below 0 (length c.args.numbers.now) c.args.entries.now c.loop-entry.entry-index c.entry-item.result (omega arith) c.entry-item.is c.requires.columns in
    omega (arith, below)

pub loop-entry-preserved : goal.loop-entry-preserved
loop-entry-preserved c =
    let below = column_below 0 (length c.args.numbers.now) c.args.entries.now c.loop-entry.entry-index c.entry-item.result (omega arith) c.entry-item.is c.requires.columns in
    let inside : c.entry-item.result.column < length c.loop-entry.numbers = omega (arith, below) in
    record {
      so_far = c.loop-entry.invariant.so_far ∙ lost_here c.args.factor c.args.entries.now c.loop-entry.numbers c.loop-entry.entry-index c.entry-item.result c.index-numbers-entry.result c.in_ok-loss.loss c.in_ok-numbers.field-0 (omega arith) c.entry-item.is inside c.index-numbers-entry.is (sym c.in_ok-loss.ensures) (sym c.in_ok-numbers.ensures);
      within = All-set IsInRange c.loop-entry.numbers c.entry-item.result.column c.in_ok-numbers.field-0 (difference_in_range c.index-numbers-entry.result c.in_ok-loss.loss c.in_ok-numbers.field-0 (sym c.in_ok-numbers.ensures)) c.loop-entry.invariant.within;
    }

pub returns-in_err-numbers-clause-answer : goal.returns-in_err-numbers-clause-answer
returns-in_err-numbers-clause-answer c =
    let below = column_below 0 (length c.args.numbers.now) c.args.entries.now c.loop-entry.entry-index c.entry-item.result (omega arith) c.entry-item.is c.requires.columns in
    let inside : c.entry-item.result.column < length c.loop-entry.numbers = omega (arith, below) in
    let p = err_from_is_err_and c.from_residual-in_err-numbers.result c.from_residual-in_err-numbers.ensures.1 in
    rw (p.1, p.2) (c.loop-entry.invariant.so_far ∙ lost_no_difference c.args.factor c.args.entries.now c.loop-entry.numbers c.loop-entry.entry-index c.entry-item.result c.index-numbers-entry.result c.in_ok-loss.loss _ (omega arith) c.entry-item.is inside c.index-numbers-entry.is (sym c.in_ok-loss.ensures) (sym c.in_err-numbers.ensures))
