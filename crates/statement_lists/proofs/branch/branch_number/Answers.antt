use Rattle.std.proofs.Common.{Ok, ap, sym, ◌∙◌}
use Rattle.statement_lists.specs.Branches.{branch_number}
use Rattle.statement_lists.proofs.Taken.{none_passed, passed, taken, fails, all_passed}
use Rattle.statement_lists.proofs.branch.branch_number.Goals as goal

pub loop-number-init : goal.loop-number-init
loop-number-init g c = none_passed c.args.branches.now (branch_number (g.A.Activation.context c.args.at.now) (g.A.Activation.local c.args.at.now))

pub returns-in-Ok-true : goal.returns-in-Ok-true
returns-in-Ok-true g c =
    sym (c.loop-number.invariant ∙ taken (g.A.Activation.context c.args.at.now) (g.A.Activation.local c.args.at.now) c.args.branches.now _ c.index-branches-number.result
    c.loop-number-test.true c.index-branches-number.is (sym c.truth.ensures ∙ c.in-Ok-true.is ∙ ap Ok c.in-Ok-true.field-0-test))

pub returns-in-Err : goal.returns-in-Err
returns-in-Err g c =
    sym (c.loop-number.invariant ∙ fails (g.A.Activation.context c.args.at.now) (g.A.Activation.local c.args.at.now) c.args.branches.now _ c.index-branches-number.result c.in-Err.refusal
    c.loop-number-test.true c.index-branches-number.is (sym c.truth.ensures ∙ c.in-Err.is))

pub loop-number-preserved : goal.loop-number-preserved
loop-number-preserved g c =
    c.loop-number.invariant ∙ passed (g.A.Activation.context c.args.at.now) (g.A.Activation.local c.args.at.now) c.args.branches.now _ c.index-branches-number.result
    c.loop-number-test.true c.index-branches-number.is (sym c.truth.ensures ∙ c.in-Ok-false.is ∙ ap Ok c.in-Ok-false.field-0-test)

pub returns : goal.returns
returns g c =
    sym (c.loop-number.invariant ∙ all_passed (g.A.Activation.context c.args.at.now) (g.A.Activation.local c.args.at.now) c.args.branches.now c.loop-number.number
    c.loop-number.auto.number-end c.loop-number-test.false)
