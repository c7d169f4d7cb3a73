use Rattle.std.proofs.Common.{Err, ◌≡◌, sym, ap, ◌∙◌}
use Rattle.statement_values.specs.Parts.{fits_both}
use Rattle.statement_lists.proofs.Waving.{one_made, one_refused, all_made}
use Rattle.statement_lists.proofs.wave.transactions.Goals as goal

pub returns-in-Err-clause-refused : goal.returns-in-Err-clause-refused
returns-in-Err-clause-refused g c = λ r e.
    let same : c.in-Err.refusal ≡ r = cc in
    c.loop-element.invariant ∙ one_refused (g.A.Activation.context c.args.at.now) (g.A.Activation.local c.args.at.now) (fits_both c.args.subtypes.now) c.args.limit c.loop-element.before
    c.args.elements.now c.loop-element.found.items c.loop-element.element-index c.element-item.result c.in-Err.refusal
    c.loop-element-test.true c.element-item.is (sym c.transaction.ensures ∙ c.in-Err.is) ∙ ap Err same

pub loop-element-preserved : goal.loop-element-preserved
loop-element-preserved g c =
    rw (c.in-Ok-push.ensures.items, c.delay_before_next-before.ensures)
    (c.loop-element.invariant ∙ one_made (g.A.Activation.context c.args.at.now) (g.A.Activation.local c.args.at.now) (fits_both c.args.subtypes.now) c.args.limit c.loop-element.before
    c.args.elements.now c.loop-element.found.items c.loop-element.element-index c.element-item.result c.in-Ok.made
    c.loop-element-test.true c.element-item.is (sym c.transaction.ensures ∙ c.in-Ok.is))

pub returns-clause-ok : goal.returns-clause-ok
returns-clause-ok g c =
    c.loop-element.invariant ∙ all_made (g.A.Activation.context c.args.at.now) (g.A.Activation.local c.args.at.now) (fits_both c.args.subtypes.now) c.args.limit c.loop-element.before
    c.args.elements.now c.loop-element.found.items c.loop-element.element-index c.loop-element-test.false
