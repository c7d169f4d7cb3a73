-- The meaning of an expression follows from those of its operands.
use Rattle.std.specs.Prelude.{◌≡◌, ℕ}
use Rattle.ams_value.specs.declared.val.Val.{Val}
use Rattle.ams_value.specs.declared.value_type.ValueType.{ValueType}
use Rattle.ams_value.specs.declared.op.UnaryOperator.{UnaryOperator}
use Rattle.ams_value.specs.declared.op.BinaryOperator.{BinaryOperator}
use Rattle.flat_expr.specs.declared.expr.SignalName.{SignalName}
use Rattle.flat_expr.specs.declared.expr.Unknown.{Unknown}
use Rattle.flat_expr.specs.declared.expr.Function.{Function}
use Rattle.flat_expr.specs.declared.expr.IndexRange.{IndexRange}
use Rattle.flat_expr.specs.declared.expr.FlatExpr.{FlatExpr}
use Rattle.flat_expr.specs.declared.expr.FlatExpr.TheOpen.{FlatExpr-F}
use Rattle.flat_expr.specs.declared.expr.FlatExpr.TheVariants as e
use Rattle.design_meaning.specs.Value.{meaning_at, meaning_of}

pub record MeaningByVariants : Type 0 where
  pub literal : (v : Val) → meaning_of (e.Literal v) ≡ meaning_at (FlatExpr-F.Literal v)
  pub signal : (s : SignalName) (k : ValueType) → meaning_of (e.Signal s k) ≡ meaning_at (FlatExpr-F.Signal s k)
  pub event : (s : SignalName) → meaning_of (e.Event s) ≡ meaning_at (FlatExpr-F.Event s)
  pub unknown : (u : Unknown) → meaning_of (e.Unknown u) ≡ meaning_at (FlatExpr-F.Unknown u)
  pub variable : (i : ℕ) (k : ValueType) → meaning_of (e.Variable i k) ≡ meaning_at (FlatExpr-F.Variable i k)
  pub now_time : meaning_of e.NowTime ≡ meaning_at FlatExpr-F.NowTime
  pub now_real : meaning_of e.NowReal ≡ meaning_at FlatExpr-F.NowReal
  pub unary : (op : UnaryOperator) (k : ValueType) (a : FlatExpr) → meaning_of (e.Unary op k a) ≡ meaning_at (FlatExpr-F.Unary op k (meaning_of a))
  pub binary : (op : BinaryOperator) (k : ValueType) (a b : FlatExpr) → meaning_of (e.Binary op k a b) ≡ meaning_at (FlatExpr-F.Binary op k (meaning_of a) (meaning_of b))
  pub call : (f : Function) (a : FlatExpr) → meaning_of (e.Call f a) ≡ meaning_at (FlatExpr-F.Call f (meaning_of a))
  pub index : (a i : FlatExpr) (range : IndexRange) → meaning_of (e.Index a i range) ≡ meaning_at (FlatExpr-F.Index (meaning_of a) (meaning_of i) range)
