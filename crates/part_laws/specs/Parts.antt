-- Expressions that are parts of statements.
use Rattle.std.specs.Prelude.{ℕ, List, Option}
use Rattle.ams_tree.specs.declared.expression.Expr.{Expr}
use Rattle.ams_value.specs.declared.value_type.ValueType.{ValueType}
use Rattle.ams_value.specs.declared.value_type.ValueType.TheVariants.{Boolean}
use Rattle.flat_expr.specs.declared.expr.FlatExpr.{FlatExpr}
use Rattle.flat_design.specs.declared.objects.Objects.{Objects}
use Rattle.flat_design.specs.declared.objects.Process.{Process}
use Rattle.name_scope.specs.declared.thing.Kind.TheVariants.{Of}
use Rattle.name_scope.specs.declared.scope.Scope.{Scope}
use Rattle.elab_meaning.specs.declared.fault.Notes.{Notes}
use Rattle.elab_meaning.specs.declared.part.Part.{Part}
use Rattle.elab_meaning.specs.declared.part.Part.TheVariants.{Kept}
use Rattle.elab_meaning.specs.declared.typed.Context.{Context}
use Rattle.unit_meaning.specs.Settings.{Setting, must_be, may_be, condition}
use Rattle.design_rules.specs.Types.{process_scope, IsVisible, IsExpression}
use Rattle.design_rules.specs.Statements.{MayBe}
use Rattle.reading_laws.specs.Growing.{Grows}
use Rattle.typed_laws.specs.Fitting.{ScopeFits, HasRoom}

-- a part that is kept is so
abbrev pub OnKept : {A : Type 0} → (A → Type 0) → Part A → Type 0
OnKept R (Kept a) = R a
OnKept R part = Unit {0}

-- reading a part adds to the notes, and what is kept is so where the notes behind it are
pub record KeepsPart (A : Type 0) (K : Notes → Type 0) (R : A → Type 0) (n : Notes) (found : Notes × Part A) : Type 0 where
  pub grows : Grows n found.0
  pub right : K found.0 → OnKept R found.1

-- what is read in loops with these parameters
abbrev pub ProcessReads : (A : Type 0) → Objects → Process → List ℕ → Scope → (A → Type 0) → Notes → Notes × Part A → Type 0
ProcessReads A objects p ps scope R n found =
    ScopeFits (process_scope objects p) (IsVisible p.variables ps) scope → KeepsPart A (HasRoom (process_scope objects p)) R n found

-- expressions of a process that must be of a type, or may be left out, and conditions
pub record ProcessPartsFit : Type 0 where
  pub must : (objects : Objects) (p : Process) (ps : List ℕ) (w : Setting) (scope : Scope) (c : Context) (k : ValueType) (x : Expr) (n : Notes)
      → ProcessReads FlatExpr objects p ps scope (IsExpression objects p ps k) n (must_be w scope c (Of k) x n)
  pub may : (objects : Objects) (p : Process) (ps : List ℕ) (w : Setting) (scope : Scope) (c : Context) (k : ValueType) (x : Option Expr) (n : Notes)
      → ProcessReads (Option FlatExpr) objects p ps scope (MayBe objects p ps k) n (may_be w scope c (Of k) x n)
  pub conditions : (objects : Objects) (p : Process) (ps : List ℕ) (w : Setting) (scope : Scope) (x : Option Expr) (n : Notes)
      → ProcessReads (Option FlatExpr) objects p ps scope (MayBe objects p ps Boolean) n (condition w scope x n)
