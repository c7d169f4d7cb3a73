-- When a rejection limit can be evaluated.
use Rattle.std.specs.Prelude.{⊤}
use Rattle.std.specs.Option.{ForSome}
use Rattle.flat_expr.specs.declared.statement.DelayMechanism.{DelayMechanism}
use Rattle.flat_expr.specs.declared.statement.DelayMechanism.TheVariants as mechanism
use Rattle.design_meaning.specs.Readings.{Readings}
use Rattle.expr_eval.specs.Condition.{CanEvaluate}

-- the expression that is written can be
abbrev pub CanEvaluateLimit : Readings → DelayMechanism → Type 0
CanEvaluateLimit r mechanism.Transport = ⊤
CanEvaluateLimit r (mechanism.Inertial limit) = ForSome limit (CanEvaluate r)
