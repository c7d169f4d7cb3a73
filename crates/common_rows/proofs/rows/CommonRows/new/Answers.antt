use Rattle.std.proofs.Common.{◌∙◌}
use Rattle.common_rows.proofs.Structural.{few_ends}
use Rattle.common_rows.proofs.rows.CommonRows.new.Goals as goal

pub entries_of-requires : goal.entries_of-requires
entries_of-requires c = few_ends c.args.flat.now c.as_slice.result.now c.requires.numbers (c.as_slice.ensures ∙ c.in_ok-forms.ensures)
