use Rattle.std.proofs.Common.{◌++◌, sym, ap, ◌∙◌}
use Rattle.flat_expr.specs.declared.expr.Unknown.TheVariants.{Quantity}
use Rattle.common_rows.specs.Forms.{slope_by}
use Rattle.common_rows.specs.Entries.{kept}
use Rattle.common_rows.proofs.Filled.{asked_next, asked_end}
use Rattle.common_rows.proofs.entries.form_entries.Goals as goal

pub loop-i-preserved : goal.loop-i-preserved
loop-i-preserved c =
    let slope = slope_by c.args.form.now in
    let done = c.loop-i.entries in
    c.loop-i.invariant
    ∙ asked_next slope c.loop-i.i c.args.unknowns.now (Quantity 0) done c.add_entry.new.entries c.loop-i-test.true
    (c.in_ok-add_entry.ensures ∙ ap (λ z. done ++ kept c.loop-i.i z) c.slope.ensures)

pub returns : goal.returns
returns c = sym (c.loop-i.invariant ∙ asked_end (slope_by c.args.form.now) c.loop-i.i c.args.unknowns.now c.loop-i.entries c.loop-i-test.false)
