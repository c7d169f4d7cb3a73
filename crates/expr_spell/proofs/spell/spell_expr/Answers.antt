use Rattle.std.proofs.Common.{◌++◌, ◌∙◌, ap}
use Rattle.expr_spell.specs.Spelling.{spelling}
use Rattle.expr_spell.proofs.Spelled as spelled
use Rattle.expr_spell.proofs.spell.spell_expr.Goals as goal

pub returns-clause-spelled : goal.returns-clause-spelled
returns-clause-spelled c tokens spells =
    c.in_ok-put_expr.ensures ∙ (ap (λ out. out ++ spelling c.args.expr.now) c.new-out.ensures ∙ (spelled.expression spells.0 spells.1).written _ tokens spells.2 spells.3)
