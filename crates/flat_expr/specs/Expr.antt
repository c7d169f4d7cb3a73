-- What a typed expression is of, and which signals it reads.
use Rattle.std.specs.Prelude.{Bool, true, false, ◌||◌, nat_eq}
use Rattle.ams_value.specs.declared.value_type.ValueType.{ValueType}
use Rattle.ams_value.specs.declared.value_type.ValueType.TheVariants as kind
use Rattle.flat_expr.specs.declared.expr.SignalName.{SignalName}
use Rattle.flat_expr.specs.declared.expr.SignalName.TheVariants.{Signal, Threshold, Domain}
use Rattle.flat_expr.specs.declared.expr.Function.{Function}
use Rattle.flat_expr.specs.declared.expr.Function.TheVariants as function
use Rattle.flat_expr.specs.declared.expr.FlatExpr.{FlatExpr, out-FlatExpr}
use Rattle.flat_expr.specs.declared.expr.FlatExpr.TheOpen.{FlatExpr-F}
use Rattle.flat_expr.specs.declared.expr.FlatExpr.TheFolds.{fold-FlatExpr}
use Rattle.ams_value.specs.Types.{type_of}

abbrev pub kind_of_call : Function → ValueType
kind_of_call function.Integer = kind.Integer
kind_of_call _ = kind.Real

abbrev pub kind_at : FlatExpr-F FlatExpr → ValueType
kind_at (FlatExpr-F.Literal value) = type_of value
kind_at (FlatExpr-F.Signal name k) = k
kind_at (FlatExpr-F.Event name) = kind.Boolean
kind_at (FlatExpr-F.Unknown u) = kind.Real
kind_at (FlatExpr-F.Variable number k) = k
kind_at FlatExpr-F.NowTime = kind.Time
kind_at FlatExpr-F.NowReal = kind.Real
kind_at (FlatExpr-F.Unary op k a) = k
kind_at (FlatExpr-F.Binary op k a b) = k
kind_at (FlatExpr-F.Call f a) = kind_of_call f
kind_at (FlatExpr-F.Index a b range) = kind.Bit

-- the type of the value of an expression
abbrev pub kind_of : FlatExpr → ValueType
kind_of x = kind_at (out-FlatExpr x)

abbrev pub same_signal : SignalName → SignalName → Bool
same_signal (Signal i) (Signal j) = nat_eq i j
same_signal (Threshold i) (Threshold j) = nat_eq i j
same_signal Domain Domain = true
same_signal _ _ = false

abbrev pub reads_at : SignalName → FlatExpr-F Bool → Bool
reads_at s (FlatExpr-F.Signal name k) = same_signal name s
reads_at s (FlatExpr-F.Unary op k a) = a
reads_at s (FlatExpr-F.Binary op k a b) = a || b
reads_at s (FlatExpr-F.Call f a) = a
reads_at s (FlatExpr-F.Index a b range) = a || b
reads_at s _ = false

-- the value of this signal stands in the expression
abbrev pub reads_in : SignalName → FlatExpr → Bool
reads_in s = fold-FlatExpr Bool (reads_at s)
