-- A row that is typed can be evaluated.
use Rattle.std.proofs.Common.{◌≡◌, ◌≤◌, ℕ, zero, suc, ℤ, Bool, false, Some, [], ◌∷◌, refl, subst, arith}
use Rattle.std.specs.Prelude.{nat_lt}
use Rattle.std.proofs.lemmas.Bool.Decides.{nat_tests}
use Rattle.fix_core.specs.Units.{most_ticks}
use Rattle.ams_value.specs.declared.value_type.ValueType.{ValueType}
use Rattle.ams_value.specs.declared.value_type.ValueType.TheVariants.{Boolean}
use Rattle.flat_expr.specs.declared.expr.SignalName.{SignalName}
use Rattle.flat_expr.specs.declared.expr.SignalName.TheVariants as name
use Rattle.flat_expr.specs.declared.expr.FlatExpr.{FlatExpr}
use Rattle.design_meaning.specs.Readings.{seen_of}
use Rattle.design_meaning.specs.Typed.{typed, if_true, signal_type, IsOfType}
use Rattle.expr_eval.specs.Condition.{CanEvaluate}
use Rattle.tape_cases.specs.Rows.{rows_scope, readings_at}

none_below : (n : ℕ) → nat_lt n 0 ≡ false
none_below n = grind (arith, nat_tests)

no_threshold : {A : Type 0} (n : ℕ) (k : ValueType) → if_true (nat_lt n 0) Boolean ≡ Some k → A
no_threshold n k h = let never : if_true false Boolean ≡ Some k = subst (λ (b : Bool). if_true b Boolean ≡ Some k) (none_below n) h in absurd (cc)

signals_fit : (a b c : ℤ) (t : ℕ) (s : SignalName) (k : ValueType) → signal_type rows_scope s ≡ Some k → IsOfType (2 ∷ []) k (seen_of (readings_at a b c t) s).value
signals_fit a b c t (name.Signal zero) k h = record { kind_is = cc; range = refl }
signals_fit a b c t (name.Signal (suc zero)) k h = record { kind_is = cc; range = refl }
signals_fit a b c t (name.Signal (suc (suc n))) k h = absurd (cc)
signals_fit a b c t (name.Threshold n) k h = no_threshold n k h
signals_fit a b c t name.Domain k h = record { kind_is = cc; range = refl }

pub typed_is_evaluable : (a b c : ℤ) (t : ℕ) (e : FlatExpr) (k : ValueType) → t ≤ most_ticks → typed rows_scope e ≡ Some k → CanEvaluate (readings_at a b c t) e
typed_is_evaluable a b c t e k late h =
    record {
      scope = rows_scope;
      kind = k;
      typed = h;
      reads = record {
        signals = λ s kind on known. signals_fit a b c t s kind known;
        variables = refl;
        variables_range = λ i d g. absurd (omega (arith, g));
        now = late;
      };
    }
