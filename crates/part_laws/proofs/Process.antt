-- Expressions of a process.
use Rattle.std.proofs.Common.{ℕ, List, Option, Some, None, IfSome}
use Rattle.ams_tree.specs.declared.expression.Expr.{Expr}
use Rattle.ams_value.specs.declared.value_type.ValueType.{ValueType}
use Rattle.ams_value.specs.declared.value_type.ValueType.TheVariants.{Boolean}
use Rattle.flat_expr.specs.declared.expr.FlatExpr.{FlatExpr}
use Rattle.flat_design.specs.declared.objects.Objects.{Objects}
use Rattle.flat_design.specs.declared.objects.Process.{Process}
use Rattle.name_scope.specs.declared.thing.Kind.TheVariants.{Of}
use Rattle.name_scope.specs.declared.scope.Scope.{Scope}
use Rattle.elab_meaning.specs.declared.fault.Notes.{Notes}
use Rattle.elab_meaning.specs.declared.typed.Context.{Context}
use Rattle.elab_meaning.specs.declared.part.Part.{Part}
use Rattle.elab_meaning.specs.declared.part.Part.TheVariants.{Kept, Wrong, Hidden}
use Rattle.unit_meaning.specs.Settings.{Setting, running, must_be, may_be}
use Rattle.design_rules.specs.Types.{process_scope, IsVisible, IsExpression}
use Rattle.design_rules.specs.Statements.{MayBe}
use Rattle.typed_laws.specs.Fitting.{ScopeFits, HasRoom}
use Rattle.part_laws.specs.Parts.{OnKept, KeepsPart, ProcessPartsFit}
use Rattle.part_laws.proofs.Parts.{IsOfKind, must_keeps, may_keeps}

pub kept_as : (A : Type 0) (R S : A → Type 0) → ((a : A) → R a → S a) → (p : Part A) → OnKept R p → OnKept S p
kept_as A R S h (Kept a) k = h a k
kept_as A R S h Wrong k = tt
kept_as A R S h Hidden k = tt

option_as : (A : Type 0) (R S : A → Type 0) → ((a : A) → R a → S a) → (o : Option A) → IfSome o R → IfSome o S
option_as A R S h (Some a) k = h a k
option_as A R S h None k = tt

module _ (objects : Objects) (p : Process) (ps : List ℕ) (w : Setting) (scope : Scope) (fits : ScopeFits (process_scope objects p) (IsVisible p.variables ps) scope) where
  abbrev OfKind : ValueType → FlatExpr → Type 0
  OfKind k = IsOfKind (process_scope objects p) (IsVisible p.variables ps) w scope fits k

  is_expression : (k : ValueType) (e : FlatExpr) → OfKind k e → IsExpression objects p ps k e
  is_expression k e h = record { typed = h.typed; visible = h.visible }

pub process_parts_fit : ProcessPartsFit
process_parts_fit = record {
  must = λ objects p ps w scope c k x n fits.
      let read = must_keeps (process_scope objects p) (IsVisible p.variables ps) w scope fits c k x n in
      record {
        grows = read.grows;
        right = λ room. kept_as FlatExpr (OfKind objects p ps w scope fits k) (IsExpression objects p ps k) (is_expression objects p ps w scope fits k) (must_be w scope c (Of k) x n).1 (read.right room);
      };
  may = λ objects p ps w scope c k x n fits. may_fits objects p ps w scope c k x n fits;
  conditions = λ objects p ps w scope x n fits. may_fits objects p ps w scope running Boolean x n fits;
}
  where
    may_fits : (objects : Objects) (p : Process) (ps : List ℕ) (w : Setting) (scope : Scope) (c : Context) (k : ValueType) (x : Option Expr) (n : Notes)
        → ScopeFits (process_scope objects p) (IsVisible p.variables ps) scope → KeepsPart (Option FlatExpr) (HasRoom (process_scope objects p)) (MayBe objects p ps k) n (may_be w scope c (Of k) x n)
    may_fits objects p ps w scope c k x n fits =
        let read = may_keeps (process_scope objects p) (IsVisible p.variables ps) w scope fits c k x n in
        record {
          grows = read.grows;
          right = λ room.
              kept_as (Option FlatExpr) (λ (o : Option FlatExpr). IfSome o (OfKind objects p ps w scope fits k)) (MayBe objects p ps k)
              (λ o h. option_as FlatExpr (OfKind objects p ps w scope fits k) (IsExpression objects p ps k) (is_expression objects p ps w scope fits k) o h) (may_be w scope c (Of k) x n).1
              (read.right room);
        }
