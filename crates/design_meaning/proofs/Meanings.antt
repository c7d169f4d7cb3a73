-- The meaning of an expression, variant by variant.
use Rattle.std.proofs.Common.{◌≡◌, ap, sym, ◌∙◌}
use Rattle.ams_value.specs.declared.val.Val.{Val}
use Rattle.flat_expr.specs.declared.expr.Unknown.{Unknown}
use Rattle.flat_expr.specs.declared.expr.FlatExpr.TheOpen.{FlatExpr-F}
use Rattle.flat_expr.specs.declared.expr.FlatExpr.TheVariants as e
use Rattle.flat_expr.specs.declared.expr.FlatExpr.TheVariants.{rolls-Literal, rolls-Signal, rolls-Event, rolls-Unknown, rolls-Variable, rolls-NowTime, rolls-NowReal, rolls-Unary, rolls-Binary, rolls-Call, rolls-Index}
use Rattle.flat_expr.specs.declared.expr.FlatExpr.TheFolds.{fold-roll-FlatExpr}
use Rattle.design_meaning.specs.Value.{Meaning, meaning_at, meaning_of}
use Rattle.design_meaning.specs.Variants.{MeaningByVariants}

pub meaning-literal : (v : Val) → meaning_of (e.Literal v) ≡ meaning_at (FlatExpr-F.Literal v)
meaning-literal v = ap meaning_of (sym (rolls-Literal v)) ∙ fold-roll-FlatExpr Meaning meaning_at (FlatExpr-F.Literal v)

pub meaning-unknown : (u : Unknown) → meaning_of (e.Unknown u) ≡ meaning_at (FlatExpr-F.Unknown u)
meaning-unknown u = ap meaning_of (sym (rolls-Unknown u)) ∙ fold-roll-FlatExpr Meaning meaning_at (FlatExpr-F.Unknown u)

pub variants : MeaningByVariants
variants = record {
  literal = meaning-literal;
  signal = λ s k. ap meaning_of (sym (rolls-Signal s k)) ∙ fold-roll-FlatExpr Meaning meaning_at (FlatExpr-F.Signal s k);
  event = λ s. ap meaning_of (sym (rolls-Event s)) ∙ fold-roll-FlatExpr Meaning meaning_at (FlatExpr-F.Event s);
  unknown = meaning-unknown;
  variable = λ i k. ap meaning_of (sym (rolls-Variable i k)) ∙ fold-roll-FlatExpr Meaning meaning_at (FlatExpr-F.Variable i k);
  now_time = ap meaning_of (sym rolls-NowTime) ∙ fold-roll-FlatExpr Meaning meaning_at FlatExpr-F.NowTime;
  now_real = ap meaning_of (sym rolls-NowReal) ∙ fold-roll-FlatExpr Meaning meaning_at FlatExpr-F.NowReal;
  unary = λ op k a. ap meaning_of (sym (rolls-Unary op k a)) ∙ fold-roll-FlatExpr Meaning meaning_at (FlatExpr-F.Unary op k a);
  binary = λ op k a b. ap meaning_of (sym (rolls-Binary op k a b)) ∙ fold-roll-FlatExpr Meaning meaning_at (FlatExpr-F.Binary op k a b);
  call = λ f a. ap meaning_of (sym (rolls-Call f a)) ∙ fold-roll-FlatExpr Meaning meaning_at (FlatExpr-F.Call f a);
  index = λ a i range. ap meaning_of (sym (rolls-Index a i range)) ∙ fold-roll-FlatExpr Meaning meaning_at (FlatExpr-F.Index a i range);
}
