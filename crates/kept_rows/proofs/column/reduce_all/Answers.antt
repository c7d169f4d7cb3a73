-- One row more is done.
use Rattle.std.proofs.Common.{◌≡◌, ◌<◌, ℤ, List, set, length, get_or, ap, ◌∙◌, sym, arith, length-set}
use Rattle.std.proofs.lemmas.List.{get_or_default}
use Rattle.std.proofs.lemmas.List.Elements.{All-set}
use Rattle.std.proofs.lemmas.Result.{err_from_is_err_and}
use Rattle.kept_elimination.specs.Kept.{reduction}
use Rattle.kept_rows.specs.Told.{reduction_by}
use Rattle.kept_rows.proofs.Zipping.{zip_start, zip_more, zip_fails, zip_end}
use Rattle.kept_rows.proofs.column.reduce_all.Goals as goal

pub loop-i-init : goal.loop-i-init
loop-i-init c = record { so_far = zip_start reduction_by (reduction c.args.column c.args.pivot.now) c.args.factors.now c.args.rows.now; rows = c.requires.rows; factors = c.requires.factors; spare = c.requires.spare }

pub loop-i-preserved : goal.loop-i-preserved
loop-i-preserved c =
    let rows = c.loop-i.rows in
    let i = c.loop-i.i in
    let f = reduction c.args.column c.args.pivot.now in
    let x : List ℤ = get_or rows i c.index-rows-i.result in
    let h : i < length rows = omega arith in
    let read = get_or_default rows i c.index-rows-i.result x h in
    let t : i < length c.loop-i.factors = omega (arith, c.loop-i.invariant.factors) in
    let wide = c.loop-i.invariant.rows i c.index-rows-i.result h in
    let more = zip_more reduction_by f c.loop-i.factors rows i c.in_ok-factor.factor x c.reduce.new.row t h read c.in_ok-factor.ensures.answer in
    record {
      so_far = rw c.set.ensures (c.loop-i.invariant.so_far ∙ more);
      rows = All-set (λ row. length row ≡ length c.args.pivot.now) rows i c.reduce.new.row (c.reduce.ensures.width ∙ wide) c.loop-i.invariant.rows;
      factors = ap length c.set.ensures ∙ length-set c.loop-i.factors i c.in_ok-factor.factor ∙ c.loop-i.invariant.factors ∙ sym (length-set rows i c.reduce.new.row);
      spare = c.reduce.ensures.spare ∙ wide;
    }

pub returns-in_err-factor-clause-answer : goal.returns-in_err-factor-clause-answer
returns-in_err-factor-clause-answer c =
    let rows = c.loop-i.rows in
    let i = c.loop-i.i in
    let f = reduction c.args.column c.args.pivot.now in
    let x : List ℤ = get_or rows i c.index-rows-i.result in
    let h : i < length rows = omega arith in
    let read = get_or_default rows i c.index-rows-i.result x h in
    let p = err_from_is_err_and c.from_residual.result c.from_residual.ensures.1 in
    rw (p.1, p.2) (c.loop-i.invariant.so_far ∙ zip_fails reduction_by f c.loop-i.factors rows i x _ h read c.in_err-factor.ensures.answer)

pub returns-clause-answer : goal.returns-clause-answer
returns-clause-answer c = c.loop-i.invariant.so_far ∙ zip_end reduction_by (reduction c.args.column c.args.pivot.now) c.loop-i.factors c.loop-i.rows c.loop-i.i (omega (arith, c.loop-i.invariant.factors)) (omega arith)
