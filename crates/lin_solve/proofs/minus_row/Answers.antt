-- One entry more is done.
use Rattle.std.proofs.Common.{◌<◌, length, ◌∙◌, sym, arith}
use Rattle.std.proofs.lemmas.List.Elements.{All-set}
use Rattle.fix_core.specs.Fixed.{IsInRange}
use Rattle.fix_core.specs.Laws.{difference_in_range}
use Rattle.lin_solve.proofs.Steps.{minus_row_more}
use Rattle.lin_solve.proofs.minus_row.Goals as goal

pub loop-i-preserved : goal.loop-i-preserved
loop-i-preserved c =
    let hp : c.loop-i.i < length c.args.pivot.now = omega arith in
    let hx : c.loop-i.i < length c.loop-i.row = omega arith in
    record {
      so_far = c.loop-i.invariant.so_far ∙ minus_row_more _ _ _ _ _ _ _ _ hp hx c.index-pivot-i.is c.index-row-i.is (sym c.in_ok-loss.ensures) (sym c.in_ok-row.ensures);
      within = All-set IsInRange _ _ _ (difference_in_range _ _ _ (sym c.in_ok-row.ensures)) c.loop-i.invariant.within;
    }
