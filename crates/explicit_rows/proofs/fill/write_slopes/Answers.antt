use Rattle.std.proofs.Common.{rules, ◌≡◌, ◌<◌, ◌+◌, Err, [], length, get_or, set, drop, sym, ap, ◌∙◌, arith}
use Rattle.std.proofs.lemmas.List.{length-set}
use Rattle.equation_values.specs.Reading.{readings_in}
use Rattle.explicit_rows.specs.Writing.{with_slopes}
use Rattle.explicit_rows.proofs.Filled.{slope_at, slopes_more, slopes_stop, slopes_end, others_stay}
use Rattle.explicit_rows.proofs.fill.write_slopes.Goals as goal

pub returns-in_err-slope-clause-answer : goal.returns-in_err-slope-clause-answer
returns-in_err-slope-clause-answer c =
    let slope = slope_at c.args.pair.now (readings_in c.args.values.now) c.args.unknowns.now in
    let stops : with_slopes slope c.args.places.now (get_or c.args.rows.now c.args.row []) ≡ Err c.in_err-slope.field-0.0 =
    c.loop-i.invariant.told ∙ slopes_stop slope c.args.places.now (get_or c.loop-i.rows c.args.row []) c.loop-i.i c.in_err-slope.field-0.0 c.loop-i-test.true (sym c.constant_or_slope.ensures ∙ c.in_err-slope.was) in
    rw stops (search rules)

pub loop-i-preserved : goal.loop-i-preserved
loop-i-preserved c =
    let slope = slope_at c.args.pair.now (readings_in c.args.values.now) c.args.unknowns.now in
    let row = c.args.row in
    let rows = c.loop-i.rows in
    let place = get_or c.args.places.now c.loop-i.i 0 in
    let low : row < length rows = omega (arith, c.requires.row, c.loop-i.invariant.count) in
    record {
      told = c.loop-i.invariant.told
          ∙ slopes_more slope c.args.places.now rows row c.loop-i.i c.in_ok-slope.slope c.loop-i-test.true low (sym c.constant_or_slope.ensures ∙ c.in_ok-slope.was)
          ∙ ap (λ r. with_slopes slope (drop (c.loop-i.i + 1) c.args.places.now) (get_or r row [])) (sym c.set.ensures);
      others = c.set.ensures ∙ others_stay c.args.rows.now rows row (set (get_or rows row []) place c.in_ok-slope.slope) low c.loop-i.invariant.others
          ∙ ap (λ r. set c.args.rows.now row (get_or r row [])) (sym c.set.ensures);
      count = ap length c.set.ensures ∙ length-set rows row (set (get_or rows row []) place c.in_ok-slope.slope) ∙ c.loop-i.invariant.count;
    }

pub returns-clause-answer : goal.returns-clause-answer
returns-clause-answer c =
    c.loop-i.invariant.told ∙ slopes_end (slope_at c.args.pair.now (readings_in c.args.values.now) c.args.unknowns.now) c.args.places.now (get_or c.loop-i.rows c.args.row []) c.loop-i.i c.loop-i-test.false
