-- A function of expressions that is defined by its steps, variant by variant.
use Rattle.std.proofs.Common.{◌≡◌, ℕ, ap, sym, ◌∙◌}
use Rattle.ams_value.specs.declared.val.Val.{Val}
use Rattle.ams_value.specs.declared.op.UnaryOperator.{UnaryOperator}
use Rattle.ams_value.specs.declared.op.BinaryOperator.{BinaryOperator}
use Rattle.ams_value.specs.declared.value_type.ValueType.{ValueType}
use Rattle.flat_expr.specs.declared.expr.SignalName.{SignalName}
use Rattle.flat_expr.specs.declared.expr.Unknown.{Unknown}
use Rattle.flat_expr.specs.declared.expr.Function.{Function}
use Rattle.flat_expr.specs.declared.expr.IndexRange.{IndexRange}
use Rattle.flat_expr.specs.declared.expr.FlatExpr.{FlatExpr}
use Rattle.flat_expr.specs.declared.expr.FlatExpr.TheOpen.{FlatExpr-F}
use Rattle.flat_expr.specs.declared.expr.FlatExpr.TheVariants as e
use Rattle.flat_expr.specs.declared.expr.FlatExpr.TheVariants.{rolls-Literal, rolls-Signal, rolls-Event, rolls-Unknown, rolls-Variable, rolls-NowTime, rolls-NowReal, rolls-Unary, rolls-Binary, rolls-Call, rolls-Index}
use Rattle.flat_expr.specs.declared.expr.FlatExpr.TheFolds.{fold-FlatExpr, fold-roll-FlatExpr}

module _ (A : Type 0) (step : FlatExpr-F A → A) where
  abbrev folded : FlatExpr → A
  folded = fold-FlatExpr A step

  pub at_literal : (v : Val) → folded (e.Literal v) ≡ step (FlatExpr-F.Literal v)
  at_literal v = ap folded (sym (rolls-Literal v)) ∙ fold-roll-FlatExpr A step (FlatExpr-F.Literal v)

  pub at_signal : (s : SignalName) (k : ValueType) → folded (e.Signal s k) ≡ step (FlatExpr-F.Signal s k)
  at_signal s k = ap folded (sym (rolls-Signal s k)) ∙ fold-roll-FlatExpr A step (FlatExpr-F.Signal s k)

  pub at_event : (s : SignalName) → folded (e.Event s) ≡ step (FlatExpr-F.Event s)
  at_event s = ap folded (sym (rolls-Event s)) ∙ fold-roll-FlatExpr A step (FlatExpr-F.Event s)

  pub at_unknown : (u : Unknown) → folded (e.Unknown u) ≡ step (FlatExpr-F.Unknown u)
  at_unknown u = ap folded (sym (rolls-Unknown u)) ∙ fold-roll-FlatExpr A step (FlatExpr-F.Unknown u)

  pub at_variable : (i : ℕ) (k : ValueType) → folded (e.Variable i k) ≡ step (FlatExpr-F.Variable i k)
  at_variable i k = ap folded (sym (rolls-Variable i k)) ∙ fold-roll-FlatExpr A step (FlatExpr-F.Variable i k)

  pub at_now_time : folded e.NowTime ≡ step FlatExpr-F.NowTime
  at_now_time = ap folded (sym rolls-NowTime) ∙ fold-roll-FlatExpr A step FlatExpr-F.NowTime

  pub at_now_real : folded e.NowReal ≡ step FlatExpr-F.NowReal
  at_now_real = ap folded (sym rolls-NowReal) ∙ fold-roll-FlatExpr A step FlatExpr-F.NowReal

  pub at_unary : (op : UnaryOperator) (k : ValueType) (a : FlatExpr) → folded (e.Unary op k a) ≡ step (FlatExpr-F.Unary op k (folded a))
  at_unary op k a = ap folded (sym (rolls-Unary op k a)) ∙ fold-roll-FlatExpr A step (FlatExpr-F.Unary op k a)

  pub at_binary : (op : BinaryOperator) (k : ValueType) (a b : FlatExpr) → folded (e.Binary op k a b) ≡ step (FlatExpr-F.Binary op k (folded a) (folded b))
  at_binary op k a b = ap folded (sym (rolls-Binary op k a b)) ∙ fold-roll-FlatExpr A step (FlatExpr-F.Binary op k a b)

  pub at_call : (f : Function) (a : FlatExpr) → folded (e.Call f a) ≡ step (FlatExpr-F.Call f (folded a))
  at_call f a = ap folded (sym (rolls-Call f a)) ∙ fold-roll-FlatExpr A step (FlatExpr-F.Call f a)

  pub at_index : (a i : FlatExpr) (range : IndexRange) → folded (e.Index a i range) ≡ step (FlatExpr-F.Index (folded a) (folded i) range)
  at_index a i range = ap folded (sym (rolls-Index a i range)) ∙ fold-roll-FlatExpr A step (FlatExpr-F.Index a i range)
