use Rattle.std.proofs.Common.{sym, subst}
use Rattle.unit_meaning.specs.Concurrent as spec
use Rattle.unit_meaning.specs.Simultaneous as simultaneous
use Rattle.expr_types.specs.Known.{Finds}
use Rattle.concurrent_types.proofs.dispatch.concurrent.Goals as goal

pub returns-in-Case-clause-found : goal.returns-in-Case-clause-found
returns-in-Case-clause-found c =
    subst (λ s. Finds (spec.concurrent c.args.setting.now c.args.scope.now c.args.label.now s c.args.notes.now) c.case_equation.result c.case_equation.new.notes) (sym c.in-Case.is)
    (subst (λ all. Finds (spec.equation_made (simultaneous.case_statement c.args.setting.now c.args.scope.now c.in-Case.place c.in-Case.expr all c.args.notes.now)) c.case_equation.result c.case_equation.new.notes) c.as_slice-alternatives.ensures c.case_equation.ensures)
