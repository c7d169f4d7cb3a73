-- What an expression breaks doesn't depend on what is noted before it.
use Rattle.std.specs.Prelude.{◌≡◌, ◌++◌, ℕ, List}
use Rattle.ams_tree.specs.declared.expression.Expr.{Expr}
use Rattle.name_scope.specs.declared.scope.Scope.{Scope}
use Rattle.elab_meaning.specs.declared.fault.Fault.{Fault}
use Rattle.elab_meaning.specs.declared.fault.Notes.{Notes}
use Rattle.elab_meaning.specs.declared.typed.Context.{Context}
use Rattle.elab_meaning.specs.Expressions.{expression}

-- two readings add the same faults, from `n` to `on` and from `m` to `to`
pub record BreaksAlike (n m on to : Notes) : Type 0 where
  pub more : List Fault
  pub first : on.faults ≡ n.faults ++ more
  pub second : to.faults ≡ m.faults ++ more

abbrev pub ExpressionsBreakAlike : Type 0
ExpressionsBreakAlike =
    (texts : List (List ℕ)) (scope : Scope) (x : Expr) (c : Context) (n m : Notes) → BreaksAlike n m (expression texts scope x c n).0 (expression texts scope x c m).0
