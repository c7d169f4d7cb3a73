use Rattle.std.proofs.Common.{◌≡◌, false}
use Rattle.flat_expr.specs.declared.statement.Statement.{out-Statement}
use Rattle.proc_exec.specs.Performing.{is_leading}
use Rattle.proc_exec.proofs.Performing.{passed}
use Rattle.proc_exec.proofs.statement.perform.Goals as goal

pub returns-clause-performs : goal.returns-clause-performs
returns-clause-performs g c =
    let other : is_leading (out-Statement c.args.statement.now) ≡ false = (let same = c.is_leading.ensures in let no_lead = c.if-is_leading.false in cc) in
    passed (g.E.Activation.context c.args.world.now) (g.E.Activation.local c.args.world.now) (g.E.Activation.local c.change-outcome.new.world) c.args.text.now c.args.stack.now c.pass.new.stack
    (out-Statement c.args.statement.now) c.change-outcome.result c.pass.result c.requires.begun other c.change-outcome.ensures.leads c.pass.ensures
