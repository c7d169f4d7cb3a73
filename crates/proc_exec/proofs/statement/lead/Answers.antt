use Rattle.std.proofs.Common.{ap, sym, ◌∙◌, subst}
use Rattle.flat_expr.specs.declared.statement.Statement.{out-Statement}
use Rattle.process_place.specs.Moves.{moved}
use Rattle.process_stack.specs.Stacks.{round_of}
use Rattle.process_control.specs.Performing.{Performs}
use Rattle.process_control.proofs.Passing.{out_for}
use Rattle.proc_exec.proofs.statement.lead.Goals as goal

pub returns-in-For-clause-performs : goal.returns-in-For-clause-performs
returns-in-For-clause-performs g c =
    let here = g.A.Activation.context c.args.at.now in
    let l = g.A.Activation.local c.args.at.now in
    subst (λ z. Performs (moved here l c.args.text.now (round_of c.args.text.now c.args.stack.now.frames) c.args.stack.now.next z) c.args.text.now l l c.perform_for.new.stack c.perform_for.result)
    (sym (ap out-Statement c.in-For.is ∙ out_for c.in-For.number c.in-For.left c.in-For.direction c.in-For.right c.in-For.body)) c.perform_for.ensures.performs
