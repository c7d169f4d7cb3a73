-- One number more.
use Rattle.std.proofs.Common.{◌<◌, length, ◌∙◌, sym, arith}
use Rattle.std.proofs.lemmas.List.Elements.{All-set}
use Rattle.fix_core.specs.Fixed.{IsInRange, tenfold_of}
use Rattle.fix_core.specs.Laws.{each_more}
use Rattle.lin_solve.proofs.Steps.{tenfold-within}
use Rattle.lin_solve.proofs.tenfold.Goals as goal

pub loop-i-preserved : goal.loop-i-preserved
loop-i-preserved c =
    let h : c.loop-i.i < length c.loop-i.row = omega arith in
    record {
      so_far = c.loop-i.invariant.so_far ∙ each_more tenfold_of c.loop-i.row c.loop-i.i c.index-row-i.result _ h c.index-row-i.is (sym c.in_ok-row.ensures);
      within = All-set IsInRange _ _ _ (tenfold-within _ _ (sym c.in_ok-row.ensures)) c.loop-i.invariant.within;
    }
