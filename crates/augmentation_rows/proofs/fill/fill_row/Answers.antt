use Rattle.std.proofs.Common.{Ok, sym, ap, ◌∙◌}
use Rattle.equation_values.specs.Reading.{readings_in}
use Rattle.augmentation_rows.specs.Forms.{row_by}
use Rattle.augmentation_rows.proofs.Filled.{row_filled}
use Rattle.augmentation_rows.proofs.fill.fill_row.Goals as goal

pub returns-clause-answer : goal.returns-clause-answer
returns-clause-answer c =
    row_filled (row_by c.args.form.now) (readings_in c.args.values.now) c.args.flat.now c.args.rows.now c.clear.new.self c.write_slopes.new.rows c.args.row c.unknown_count.result c.in_ok-residual.residual
    c.requires.known c.requires.size c.unknown_count.ensures c.requires.row (sym c.residual.ensures ∙ c.in_ok-residual.was) c.clear.ensures c.write_slopes.ensures.written
    ∙ ap Ok (sym c.set.ensures)
