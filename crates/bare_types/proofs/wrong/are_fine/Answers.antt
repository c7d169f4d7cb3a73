use Rattle.std.proofs.Common.{ap, [], Some, map}
use Rattle.elab_meaning.specs.Expressions.{expression, arguments}
use Rattle.unit_meaning.specs.Settings.{running}
use Rattle.bare_types.proofs.WrongNames.{arguments_step}
use Rattle.bare_types.proofs.wrong.are_fine.Goals as goal

pub loop-expr-preserved : goal.loop-expr-preserved
loop-expr-preserved c =
    let step = arguments_step running (expression c.args.setting.now.texts c.args.scope.now) (expression c.names.result.now c.args.scope.now) c.args.exprs.now c.loop-expr.expr-index c.expr-item.result c.loop-expr.notes c.expression.new.notes c.in_ok-found.found c.loop-expr.fine c.still_fine-fine.result (arguments running (Some []) (map (expression c.args.setting.now.texts c.args.scope.now) c.args.exprs.now) c.args.notes.now) (ap (λ t. expression t c.args.scope.now) c.names.ensures) c.expr-item.is c.loop-expr-test.true c.in_ok-found.ensures.found.0 c.in_ok-found.ensures.found.1 c.still_fine-fine.ensures c.loop-expr.invariant.notes c.loop-expr.invariant.told in
    record { notes = step.0; told = step.1 }
