-- One row more is scaled.
use Rattle.std.proofs.Common.{◌≡◌, ◌<◌, ℤ, List, length, get_or, ◌∙◌, sym, arith}
use Rattle.std.proofs.lemmas.List.{get_or_default}
use Rattle.std.proofs.lemmas.List.Elements.{All-set}
use Rattle.std.proofs.lemmas.Result.{err_from_is_err_and}
use Rattle.kept_elimination.specs.Kept.{scaling}
use Rattle.kept_rows.specs.Told.{scaling_by}
use Rattle.kept_rows.proofs.Zipping.{zip_start, zip_more, zip_fails, zip_end}
use Rattle.kept_rows.proofs.turns.scale_all.Goals as goal

pub loop-i-init : goal.loop-i-init
loop-i-init c = record { so_far = zip_start scaling_by (scaling 12) c.args.turns.now c.args.rows.now; rows = c.requires.rows }

pub loop-i-preserved : goal.loop-i-preserved
loop-i-preserved c =
    let rows = c.loop-i.rows in
    let i = c.loop-i.i in
    let x : List ℤ = get_or rows i c.index-rows-i.result in
    let h : i < length rows = omega arith in
    let read = get_or_default rows i c.index-rows-i.result x h in
    let t : i < length c.loop-i.turns = omega arith in
    record {
      so_far = c.loop-i.invariant.so_far ∙ zip_more scaling_by (scaling 12) c.loop-i.turns rows i c.in_ok-turns.field-0 x c.scale.new.row t h read c.in_ok-turns.ensures.answer;
      rows = All-set (λ row. length row ≡ c.args.width) rows i c.scale.new.row (c.scale.ensures.width ∙ c.loop-i.invariant.rows i c.index-rows-i.result h) c.loop-i.invariant.rows;
    }

pub returns-in_err-turns-clause-answer : goal.returns-in_err-turns-clause-answer
returns-in_err-turns-clause-answer c =
    let rows = c.loop-i.rows in
    let i = c.loop-i.i in
    let x : List ℤ = get_or rows i c.index-rows-i.result in
    let h : i < length rows = omega arith in
    let read = get_or_default rows i c.index-rows-i.result x h in
    let p = err_from_is_err_and c.from_residual.result c.from_residual.ensures.1 in
    rw (p.1, p.2) (c.loop-i.invariant.so_far ∙ zip_fails scaling_by (scaling 12) c.loop-i.turns rows i x _ h read c.in_err-turns.ensures.answer)

pub returns-clause-answer : goal.returns-clause-answer
returns-clause-answer c = c.loop-i.invariant.so_far ∙ zip_end scaling_by (scaling 12) c.loop-i.turns c.loop-i.rows c.loop-i.i (omega arith) (omega arith)
