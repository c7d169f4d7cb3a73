-- What reading an expression breaks, and what it finds where it breaks no rule.
use Rattle.std.specs.Prelude.{◌≡◌, ◌++◌, ℕ, List, [], Option, Some, None, IfSome}
use Rattle.ams_tree.specs.declared.expression.Expr.{Expr}
use Rattle.name_scope.specs.declared.thing.Thing.{Thing}
use Rattle.name_scope.specs.declared.thing.Thing.TheVariants as thing
use Rattle.name_scope.specs.declared.scope.Scope.{Scope}
use Rattle.name_scope.specs.Scopes.{lookup}
use Rattle.elab_meaning.specs.declared.fault.Fault.{Fault}
use Rattle.elab_meaning.specs.declared.fault.Notes.{Notes}
use Rattle.elab_meaning.specs.declared.typed.Context.{Context}
use Rattle.elab_meaning.specs.Expressions.{expression}

-- two readings add the same faults, from `n` to `on` and from `m` to `to`
pub record BreaksAlike (n m on to : Notes) : Type 0 where
  pub more : List Fault
  pub first : on.faults ≡ n.faults ++ more
  pub second : to.faults ≡ m.faults ++ more

abbrev pub IsThere : {A : Type 0} → Option A → Type 0
IsThere (Some a) = Unit {0}
IsThere None = ⊥

-- a thing of a declaration that keeps the rules
abbrev pub IsFaultless : Thing → Type 0
IsFaultless thing.Faulty = ⊥
IsFaultless t = Unit {0}

abbrev pub NamesAreFaultless : Scope → Type 0
NamesAreFaultless scope = (x : ℕ) → IfSome (lookup scope x) IsFaultless

pub record ReadingsKeep : Type 0 where
  pub alike : (texts : List (List ℕ)) (scope : Scope) (x : Expr) (c : Context) (n m : Notes)
      → BreaksAlike n m (expression texts scope x c n).0 (expression texts scope x c m).0
  -- where no rule is broken, an expression of such names is found
  pub kept : (texts : List (List ℕ)) (scope : Scope) (x : Expr) (c : Context) (n : Notes)
      → NamesAreFaultless scope → (expression texts scope x c n).0.faults ≡ n.faults → IsThere (expression texts scope x c n).1
