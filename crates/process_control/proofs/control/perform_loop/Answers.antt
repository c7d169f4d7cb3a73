use Rattle.flat_expr.specs.declared.statement.Statement.TheOpen.{Statement-F}
use Rattle.process_control.proofs.Entering.{entered}
use Rattle.process_control.proofs.control.perform_loop.Goals as goal

pub returns-clause-performs : goal.returns-clause-performs
returns-clause-performs g c =
    entered c.args.text.now (g.A.Activation.local c.args.at.now) c.args.stack.now c.enter.new.stack (Statement-F.Loop c.args.condition.now c.args.body.now) 0 c.len.result _ c.enter.result c.requires.begun c.len.ensures c.enter.ensures
