use Rattle.std.proofs.Common.{◌+◌, Ok, pos, replicate, length, sym, ap, ◌∙◌}
use Rattle.std.proofs.lemmas.List.{length-set}
use Rattle.equation_values.specs.Reading.{readings_in}
use Rattle.common_rows.specs.Forms.{slope_by}
use Rattle.common_rows.proofs.Filled.{row_filled, entries_below}
use Rattle.common_rows.proofs.rows.fill_row.Goals as goal

pub write_entries-requires-clause-places : goal.write_entries-requires-clause-places
write_entries-requires-clause-places c =
    entries_below (slope_by c.args.form.now) c.args.unknowns.now c.args.entries.now (length c.clear.new.self) c.requires.entries
    (c.requires.size ∙ sym (ap length c.clear.ensures ∙ length-set c.args.rows.now c.args.row (replicate (length c.args.rows.now + 1) (pos 0))))

pub returns-clause-answer : goal.returns-clause-answer
returns-clause-answer c =
    row_filled c.args.form.now (readings_in c.args.values.now) c.args.unknowns.now c.args.entries.now c.args.rows.now c.clear.new.self c.write_entries.new.rows c.args.row c.in_ok-residual.residual
    c.requires.entries c.requires.size c.requires.row (sym c.residual.ensures ∙ c.in_ok-residual.was) c.clear.ensures c.write_entries.ensures.written
    ∙ ap Ok (sym c.set.ensures)
