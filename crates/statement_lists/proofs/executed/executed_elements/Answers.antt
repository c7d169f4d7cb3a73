use Rattle.std.proofs.Common.{Ok, Err, ◌≡◌, ◌++◌, sym, ap, ◌∙◌}
use Rattle.statement_lists.specs.Executed.{executed_of}
use Rattle.statement_lists.proofs.Breaking.{one_made, one_refused, all_made}
use Rattle.statement_lists.proofs.executed.executed_elements.Goals as goal

pub returns-in-Err-clause-refused : goal.returns-in-Err-clause-refused
returns-in-Err-clause-refused g c = λ r e.
    let same : c.in-Err.refusal ≡ r = cc in
    let answer : executed_of (g.A.Activation.context c.args.at.now) (g.A.Activation.local c.args.at.now) (c.args.earlier.now ++ c.loop-element.made) c.element-item.result ≡ Err c.in-Err.refusal
    = rw c.as_slice.ensures at (sym c.executed.ensures ∙ c.in-Err.is) in
    c.loop-element.invariant ∙ one_refused (g.A.Activation.context c.args.at.now) (g.A.Activation.local c.args.at.now) c.args.earlier.now c.loop-element.made
    c.args.elements.now c.loop-element.element-index c.element-item.result c.in-Err.refusal c.loop-element-test.true c.element-item.is answer ∙ ap Err same

pub loop-element-preserved : goal.loop-element-preserved
loop-element-preserved g c =
    let answer : executed_of (g.A.Activation.context c.args.at.now) (g.A.Activation.local c.args.at.now) (c.args.earlier.now ++ c.loop-element.made) c.element-item.result ≡ Ok c.in-Ok.next
    = rw c.as_slice.ensures at (sym c.executed.ensures ∙ c.in-Ok.is) in
    rw c.in-Ok-push.ensures.ok
    (c.loop-element.invariant ∙ one_made (g.A.Activation.context c.args.at.now) (g.A.Activation.local c.args.at.now) c.args.earlier.now c.loop-element.made
    c.args.elements.now c.loop-element.element-index c.element-item.result c.in-Ok.next c.loop-element-test.true c.element-item.is answer)

pub returns-clause-ok : goal.returns-clause-ok
returns-clause-ok g c =
    c.loop-element.invariant ∙ all_made (g.A.Activation.context c.args.at.now) (g.A.Activation.local c.args.at.now) c.args.earlier.now c.loop-element.made
    c.args.elements.now c.loop-element.element-index c.loop-element-test.false
