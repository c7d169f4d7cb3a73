use Rattle.std.proofs.Common.{◌<◌, length, ◌∙◌, sym, arith}
use Rattle.std.proofs.lemmas.Result.{err_from_is_err_and}
use Rattle.fix_core.specs.Laws.{each_more, each_fails, each_end}
use Rattle.sparse_row.specs.Reads.{tenfold_entry}
use Rattle.sparse_row.proofs.Raising.{entry_is, entry_fails, sparse_set}
use Rattle.sparse_row.proofs.scaling.raise.Goals as goal

pub loop-i-preserved : goal.loop-i-preserved
loop-i-preserved c =
    let es = c.loop-i.entries in
    let e = c.index-entries-i.result in
    let h : c.loop-i.i < length es = omega arith in
    let v = c.in_ok-value.value in
    record {
      so_far = c.loop-i.invariant.so_far ∙ each_more tenfold_entry es c.loop-i.i e _ h c.index-entries-i.is (entry_is e v (sym c.in_ok-value.ensures));
      sparse = λ from width s. sparse_set from width es c.loop-i.i e v h c.index-entries-i.is (sym c.in_ok-value.ensures) (c.loop-i.invariant.sparse from width s);
    }

pub returns-in_err-value-clause-answer : goal.returns-in_err-value-clause-answer
returns-in_err-value-clause-answer c =
    let es = c.loop-i.entries in
    let e = c.index-entries-i.result in
    let h : c.loop-i.i < length es = omega arith in
    let p = err_from_is_err_and c.from_residual.result c.from_residual.ensures.1 in
    rw (p.1, p.2) (c.loop-i.invariant.so_far ∙ each_fails tenfold_entry es c.loop-i.i e _ h c.index-entries-i.is (entry_fails e _ (sym c.in_err-value.ensures)))

pub returns-clause-answer : goal.returns-clause-answer
returns-clause-answer c = c.loop-i.invariant.so_far ∙ each_end tenfold_entry c.loop-i.entries c.loop-i.i (omega arith)
