use Rattle.simultaneous_types.proofs.Cases as cases
use Rattle.simultaneous_types.proofs.alternatives.case_statement.Goals as goal

pub returns : goal.returns
returns c =
    cases.whole c.args.setting.now c.args.scope.now c.args.place c.args.alternatives.now c.case_behind.result c.case_behind.new.notes
    c.args.expr.now c.args.notes.now c.typed.new.notes c.in_ok-selector.selector c.in_ok-selector.ensures.0 c.in_ok-selector.ensures.1 c.case_behind.ensures
