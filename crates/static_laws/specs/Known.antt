-- Static values are the values of their expressions (IEEE 1076, 9.4).
use Rattle.std.specs.Prelude.{◌≡◌, ℕ, List, IfSome, Result, Ok}
use Rattle.ams_tree.specs.declared.expression.Expr.{Expr}
use Rattle.ams_value.specs.declared.val.Val.{Val}
use Rattle.name_scope.specs.declared.scope.Scope.{Scope}
use Rattle.elab_meaning.specs.declared.fault.Notes.{Notes}
use Rattle.elab_meaning.specs.declared.typed.Context.{Context}
use Rattle.elab_meaning.specs.declared.typed.StaticValue.{StaticValue}
use Rattle.elab_meaning.specs.declared.typed.StaticValue.TheVariants.{Known}
use Rattle.elab_meaning.specs.declared.typed.Typed.{Typed}
use Rattle.elab_meaning.specs.Expressions.{expression}
use Rattle.design_meaning.specs.declared.fault.EvalFault.{EvalFault}
use Rattle.design_meaning.specs.Readings.{Readings}
use Rattle.design_meaning.specs.Value.{value_of}

-- of a value that is known
abbrev pub OnKnown : (Val → Type 0) → StaticValue → Type 0
OnKnown P (Known v) = P v
OnKnown P _ = Unit {0}

-- whatever is read, this is the value
abbrev pub Always : (Readings → Result Val EvalFault) → Val → Type 0
Always value v = (r : Readings) → value r ≡ Ok v

-- where the value is known, it is that of the expression
abbrev pub HasItsValue : Typed → Type 0
HasItsValue t = OnKnown (Always (value_of t.expr)) t.value

-- a value that is known before the run is the value of the expression at each time of the run
abbrev pub KnownValuesAreValues : Type 0
KnownValuesAreValues = (texts : List (List ℕ)) (scope : Scope) (x : Expr) (c : Context) (n : Notes) → IfSome (expression texts scope x c n).1 HasItsValue
