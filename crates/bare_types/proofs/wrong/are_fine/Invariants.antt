use Rattle.std.proofs.Common.{◌≡◌, ◌&&◌, [], Some, map, drop, is_some}
use Rattle.elab_meaning.specs.Expressions.{expression, arguments}
use Rattle.unit_meaning.specs.Settings.{running}
use Rattle.bare_types.proofs.wrong.are_fine.Given as goal

abbrev pub invariant-loop-expr : goal.invariant-loop-expr
invariant-loop-expr l =
    let rest = arguments running (Some []) (map (expression l.setting.texts l.scope) (drop l.expr-index l.exprs)) l.notes in
    let whole = arguments running (Some []) (map (expression l.setting.texts l.scope) l.exprs) l.fn.notes in
    record {
      notes : rest.0 ≡ whole.0;
      told : (l.fine && is_some rest.1) ≡ is_some whole.1;
    }
