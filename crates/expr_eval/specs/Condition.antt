-- When an expression can be evaluated.
use Rattle.ams_value.specs.declared.value_type.ValueType.{ValueType}
use Rattle.flat_expr.specs.declared.expr.FlatExpr.{FlatExpr}
use Rattle.design_meaning.specs.Readings.{Readings}
use Rattle.design_meaning.specs.Typed.{Scope, HasType}
use Rattle.value_types.specs.Typing.{ReadsFor}

-- it is well typed in a scope, and each signal that it reads and each variable of that scope has a value of its type
pub record CanEvaluate (r : Readings) (e : FlatExpr) : Type 0 where
  pub scope : Scope
  pub kind : ValueType
  pub typed : HasType scope e kind
  pub reads : ReadsFor scope r e
