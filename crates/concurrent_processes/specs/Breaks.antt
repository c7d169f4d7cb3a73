-- Parts of concurrent breaks.
use Rattle.std.specs.Prelude.{List, Option}
use Rattle.ams_tree.specs.declared.expression.Expr.{Expr}
use Rattle.flat_expr.specs.declared.expr.FlatExpr.{FlatExpr}
use Rattle.flat_expr.specs.declared.expr.SignalName.{SignalName}
use Rattle.name_scope.specs.declared.scope.Scope.{Scope}
use Rattle.elab_meaning.specs.declared.fault.Notes.{Notes}
use Rattle.elab_meaning.specs.declared.part.Part.{Part}
use Rattle.elab_meaning.specs.Parts.{both}
use Rattle.unit_meaning.specs.Settings.{Setting, condition, paired}
use Rattle.unit_meaning.specs.Bare.{sensitivity}

-- the signals behind `on`, and the condition
abbrev pub names_and_condition : Setting → Scope → List Expr → Option Expr → Notes → Notes × Part (List SignalName × Option FlatExpr)
names_and_condition w scope names when n =
    let all = sensitivity w scope names n in
    let c = condition w scope when all.0 in
    (c.0, both paired all.1 c.1)
