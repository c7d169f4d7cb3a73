-- The values of well-typed expressions.
use Rattle.std.specs.Prelude.{◌≡◌, ◌≤◌, true, IsTrue, map, Some, Ok}
use Rattle.std.specs.List.{All}
use Rattle.fix_core.specs.Units.{most_ticks}
use Rattle.ams_value.specs.declared.val.Val.{Val}
use Rattle.ams_value.specs.declared.value_type.ValueType.{ValueType}
use Rattle.ams_value.specs.Types.{type_of, is_in_range}
use Rattle.flat_expr.specs.declared.expr.SignalName.{SignalName}
use Rattle.flat_expr.specs.declared.expr.FlatExpr.{FlatExpr}
use Rattle.flat_expr.specs.Expr.{reads_in}
use Rattle.design_meaning.specs.Readings.{Readings, seen_of}
use Rattle.design_meaning.specs.Value.{value_of}
use Rattle.design_meaning.specs.Typed.{Scope, HasType, IsOfType, Reads, signal_type}

-- readings in which each signal that the expression reads, and each variable, has a value of its type; equations are told
-- nothing of other signals
pub record ReadsFor (scope : Scope) (r : Readings) (e : FlatExpr) : Type 0 where
  pub signals : (s : SignalName) (k : ValueType) → reads_in s e ≡ true → signal_type scope s ≡ Some k → IsOfType scope.enumerations k (seen_of r s).value
  pub variables : map type_of r.variables ≡ scope.variables
  pub variables_range : All (λ v. IsTrue (is_in_range scope.enumerations v)) r.variables
  pub now : r.now ≤ most_ticks

-- there the value of the expression is of the expression's type and lies in its range
abbrev pub ReadValuesAreTyped : Type 0
ReadValuesAreTyped =
    (scope : Scope) (r : Readings) (e : FlatExpr) (k : ValueType) (v : Val)
    → ReadsFor scope r e → HasType scope e k → value_of e r ≡ Ok v → IsOfType scope.enumerations k v

-- so it is where each name has a value of its type
abbrev pub ValuesAreTyped : Type 0
ValuesAreTyped =
    (scope : Scope) (r : Readings) (e : FlatExpr) (k : ValueType) (v : Val)
    → Reads scope r → HasType scope e k → value_of e r ≡ Ok v → IsOfType scope.enumerations k v
