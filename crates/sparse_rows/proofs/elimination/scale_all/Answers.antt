-- One row more is done.
use Rattle.std.proofs.Common.{◌≡◌, ◌<◌, ℤ, List, length, get_or, ◌∙◌, arith}
use Rattle.std.proofs.lemmas.List.{get_or_default}
use Rattle.std.proofs.lemmas.List.Elements.{All-set}
use Rattle.lin_solve.specs.Elimination.{scaled}
use Rattle.fix_core.specs.Laws.{each_more}
use Rattle.sparse_rows.proofs.elimination.scale_all.Goals as goal

pub loop-i-preserved : goal.loop-i-preserved
loop-i-preserved c =
    let rows = c.loop-i.rows in
    let i = c.loop-i.i in
    let x : List ℤ = get_or rows i c.index-rows-i.result in
    let h : i < length rows = omega arith in
    let read = get_or_default rows i c.index-rows-i.result x h in
    record {
      so_far = c.loop-i.invariant.so_far ∙ each_more (scaled 12) rows i x c.scale.new.row h read c.in_ok-scale.ensures.answer;
      rows = All-set (λ row. length row ≡ c.args.width) rows i c.scale.new.row (c.scale.ensures.width ∙ c.loop-i.invariant.rows i c.index-rows-i.result h) c.loop-i.invariant.rows;
    }
