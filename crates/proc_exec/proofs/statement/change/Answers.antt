use Rattle.std.proofs.Common.{ap, sym, ◌∙◌, subst}
use Rattle.flat_expr.specs.declared.statement.Statement.{out-Statement}
use Rattle.process_effects.specs.Effects.{Leads}
use Rattle.proc_exec.specs.Performing.{changed}
use Rattle.proc_exec.proofs.Performing.{out_assert, out_break}
use Rattle.proc_exec.proofs.statement.change.Goals as goal

pub returns-in-Assert-clause-leads : goal.returns-in-Assert-clause-leads
returns-in-Assert-clause-leads g c =
    let l = g.E.Activation.local c.args.world.now in
    subst (λ z. Leads (changed (g.E.Activation.context c.args.world.now) l z) l (g.E.Activation.local c.perform_assert.new.world) c.perform_assert.result)
    (sym (ap out-Statement c.in-Assert.is ∙ out_assert c.in-Assert.condition c.in-Assert.text c.in-Assert.severity)) c.perform_assert.ensures.leads

pub returns-in-Break-clause-leads : goal.returns-in-Break-clause-leads
returns-in-Break-clause-leads g c =
    let l = g.E.Activation.local c.args.world.now in
    subst (λ z. Leads (changed (g.E.Activation.context c.args.world.now) l z) l (g.E.Activation.local c.perform_break.new.world) c.perform_break.result)
    (sym (ap out-Statement c.in-Break.is ∙ out_break c.in-Break.elements c.in-Break.condition)) c.perform_break.ensures.leads
