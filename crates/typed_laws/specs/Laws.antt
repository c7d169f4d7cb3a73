-- Expressions that are read are well typed.
use Rattle.std.specs.Prelude.{ℕ, List, IfSome}
use Rattle.ams_tree.specs.declared.expression.Expr.{Expr}
use Rattle.flat_design.specs.declared.objects.Variable.{Variable}
use Rattle.name_scope.specs.declared.scope.Scope.{Scope}
use Rattle.elab_meaning.specs.declared.fault.Notes.{Notes}
use Rattle.elab_meaning.specs.declared.typed.Context.{Context}
use Rattle.elab_meaning.specs.Expressions.{expression}
use Rattle.design_meaning.specs.Typed as flat
use Rattle.design_rules.specs.Types.{IsVisible}
use Rattle.typed_laws.specs.Fitting.{ScopeFits, HasRoom, IsRead}

-- an expression that keeps the rules, in a scope whose names stand for objects of a flat design that has room for what is noted,
-- is a well-typed expression of the design, of the type that was found. It names the variables that the scope sees: those of a
-- process and the parameters of the loops round it, or none
abbrev pub ReadExpressionsAreTyped : Type 0
ReadExpressionsAreTyped =
    (objects : flat.Scope) (variables : List Variable) (parameters : List ℕ) (texts : List (List ℕ)) (scope : Scope) (x : Expr) (c : Context) (n : Notes)
    → ScopeFits objects (IsVisible variables parameters) scope → HasRoom objects (expression texts scope x c n).0
    → IfSome (expression texts scope x c n).1 (IsRead objects (IsVisible variables parameters))
