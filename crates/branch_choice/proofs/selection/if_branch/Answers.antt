use Rattle.std.proofs.Common.{Ok, ap, sym, ◌∙◌}
use Rattle.equation_values.specs.Reading.{readings_in}
use Rattle.branch_choice.proofs.Chosen.{chosen_here, chosen_later, chosen_fault, chosen_last}
use Rattle.branch_choice.proofs.selection.if_branch.Goals as goal

pub returns-in-Ok-true-clause-value : goal.returns-in-Ok-true-clause-value
returns-in-Ok-true-clause-value c =
    sym (c.loop-number.invariant ∙ chosen_here c.args.arms.now _ c.index-arms-number.result (readings_in c.args.values.now) c.loop-number-test.true c.index-arms-number.is
    (sym c.truth.ensures ∙ c.in-Ok-true.is ∙ ap Ok c.in-Ok-true.field-0-test))

pub returns-in-Err-clause-value : goal.returns-in-Err-clause-value
returns-in-Err-clause-value c =
    sym (c.loop-number.invariant ∙ chosen_fault c.args.arms.now _ c.index-arms-number.result (readings_in c.args.values.now) c.in-Err.fault c.loop-number-test.true c.index-arms-number.is
    (sym c.truth.ensures ∙ c.in-Err.is))

pub loop-number-preserved : goal.loop-number-preserved
loop-number-preserved c =
    c.loop-number.invariant ∙ chosen_later c.args.arms.now _ c.index-arms-number.result (readings_in c.args.values.now) c.loop-number-test.true c.index-arms-number.is
    (sym c.truth.ensures ∙ c.in-Ok-false.is ∙ ap Ok c.in-Ok-false.field-0-test)

pub returns-clause-value : goal.returns-clause-value
returns-clause-value c =
    sym (c.loop-number.invariant ∙ chosen_last c.args.arms.now c.loop-number.number (readings_in c.args.values.now) c.loop-number-test.false c.loop-number.auto.number-end)
