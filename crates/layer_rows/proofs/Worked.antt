-- The quotient of two quantities can be evaluated wherever no variable is read.
use Rattle.std.proofs.Common.{◌≡◌, ◌≤◌, Bool, false, Option, Some, [], refl, sym, ap, ◌∙◌, subst, arith}
use Rattle.fix_core.specs.Units.{most_ticks}
use Rattle.ams_value.specs.declared.op.BinaryOperator.TheVariants.{Divide}
use Rattle.ams_value.specs.declared.value_type.ValueType.{ValueType}
use Rattle.ams_value.specs.declared.value_type.ValueType.TheVariants.{Real}
use Rattle.flat_expr.specs.declared.expr.SignalName.{SignalName}
use Rattle.flat_expr.specs.declared.expr.Unknown.{Unknown}
use Rattle.flat_expr.specs.declared.expr.Unknown.TheVariants.{Quantity}
use Rattle.flat_expr.specs.declared.expr.FlatExpr.{FlatExpr}
use Rattle.flat_expr.specs.declared.expr.FlatExpr.TheOpen.{FlatExpr-F}
use Rattle.flat_expr.specs.declared.expr.FlatExpr.TheVariants as e
use Rattle.flat_expr.specs.declared.expr.FlatExpr.TheVariants.{rolls-Unknown, rolls-Binary}
use Rattle.flat_expr.specs.declared.expr.FlatExpr.TheFolds.{fold-roll-FlatExpr}
use Rattle.flat_expr.specs.Expr.{reads_at, reads_in}
use Rattle.design_meaning.specs.Readings.{Readings}
use Rattle.design_meaning.specs.Typed.{Scope, typed, type_at, agreed, binary_result, unknown_type}
use Rattle.expr_eval.specs.Condition.{CanEvaluate}

two : Scope
two = record { enumerations = []; signals = []; thresholds = 0; quantities = 2; references = 0; dots = 0; variables = [] }

abbrev pub ratio : FlatExpr
ratio = e.Binary Divide Real (e.Unknown (Quantity 0)) (e.Unknown (Quantity 1))

typed_unknown : (u : Unknown) → typed two (e.Unknown u) ≡ unknown_type two u
unfolding two
typed_unknown u = ap (typed two) (sym (rolls-Unknown u)) ∙ fold-roll-FlatExpr (Option ValueType) (type_at two) (FlatExpr-F.Unknown u)

typed_ratio : typed two ratio ≡ Some Real
unfolding two
typed_ratio =
    ap (typed two) (sym (rolls-Binary Divide Real (e.Unknown (Quantity 0)) (e.Unknown (Quantity 1))))
    ∙ fold-roll-FlatExpr (Option ValueType) (type_at two) (FlatExpr-F.Binary Divide Real (e.Unknown (Quantity 0)) (e.Unknown (Quantity 1)))
    ∙ ap (λ s. agreed Real (binary_result Divide s (typed two (e.Unknown (Quantity 1))))) (typed_unknown (Quantity 0))
    ∙ ap (λ s. agreed Real (binary_result Divide (Some Real) s)) (typed_unknown (Quantity 1))

reads_unknown : (s : SignalName) (u : Unknown) → reads_in s (e.Unknown u) ≡ false
reads_unknown s u = ap (reads_in s) (sym (rolls-Unknown u)) ∙ fold-roll-FlatExpr Bool (reads_at s) (FlatExpr-F.Unknown u)

reads_ratio : (s : SignalName) → reads_in s ratio ≡ false
reads_ratio s =
    ap (reads_in s) (sym (rolls-Binary Divide Real (e.Unknown (Quantity 0)) (e.Unknown (Quantity 1))))
    ∙ fold-roll-FlatExpr Bool (reads_at s) (FlatExpr-F.Binary Divide Real (e.Unknown (Quantity 0)) (e.Unknown (Quantity 1)))
    ∙ rw (reads_unknown s (Quantity 0), reads_unknown s (Quantity 1)) refl

pub ratio_is_evaluable : (r : Readings) (q : FlatExpr) → r.variables ≡ [] → r.now ≤ most_ticks → q ≡ ratio → CanEvaluate r q
unfolding two
ratio_is_evaluable r q none late is =
    subst (CanEvaluate r) (sym is) (record {
      scope = two;
      kind = Real;
      typed = typed_ratio;
      reads = record {
        signals = λ s k on known. absurd (let off : reads_in s ratio ≡ false = reads_ratio s in cc);
        variables = rw none refl;
        variables_range = rw none (λ k d h. absurd (omega (arith, h)));
        now = late;
      };
    })
