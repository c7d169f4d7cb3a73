-- The names whose 'dot stands in an equation (IEEE 1076.1, simultaneous statements and the break statement).
use Rattle.std.specs.Prelude.{◌≡◌, ◌≤◌, ℕ, nat_eq, Bool, true, false, ◌||◌, List, length, Option, Some, IsSome}
use Rattle.std.specs.List.{slice_get, list_any}
use Rattle.ams_tree.specs.declared.concurrent.ConcurrentStatement.{ConcurrentStatement}
use Rattle.ams_tree.specs.declared.expression.Expr.{Expr}
use Rattle.ams_tree.specs.declared.expression.Name.{Name}
use Rattle.flat_expr.specs.declared.expr.Unknown.{Unknown}
use Rattle.flat_expr.specs.declared.expr.Unknown.TheVariants.{Dot}
use Rattle.flat_design.specs.Limits.{unknown_limit}
use Rattle.flat_design.specs.declared.objects.Pair.{Pair}
use Rattle.name_scope.specs.declared.scope.Scope.{Scope}
use Rattle.name_scope.specs.declared.thing.QuantityClass.{QuantityClass}
use Rattle.name_scope.specs.declared.thing.Thing.TheVariants as thing
use Rattle.name_scope.specs.Scopes.{lookup}
use Rattle.elab_meaning.specs.declared.fault.Notes.{Notes}
use Rattle.elab_meaning.specs.declared.typed.Context.{Context}
use Rattle.elab_meaning.specs.Expressions.{expression}
use Rattle.unit_meaning.specs.declared.draft.Made.{Made}
use Rattle.unit_meaning.specs.declared.draft.Made.TheVariants as made
use Rattle.unit_meaning.specs.Settings.{Setting}
use Rattle.unit_meaning.specs.Simultaneous.{dots_in_equations, equations_in}
use Rattle.unit_meaning.specs.Concurrent.{concurrent}
use Rattle.design_rules.specs.Equations.{stands_in, pairs_in}
use Rattle.scope_laws.specs.Holds.{HasNoFaults}

-- the dot of a quantity has a number in a list, and stands in what `S` is told of
pub record HasDot (S : Unknown → Bool) (dots : List ℕ) (q : ℕ) : Type 0 where
  pub number : ℕ
  pub number_is : slice_get dots number ≡ Some q
  pub stands : S (Dot number) ≡ true

-- it stands on a side of one of these pairs
abbrev pub in_pairs : List Pair → Unknown → Bool
in_pairs all u = list_any (λ (p : Pair). stands_in u p.left || stands_in u p.right) all

-- where no rule is broken, each expression is kept
abbrev pub KeepsReadings : List (List ℕ) → Scope → Type 0
KeepsReadings texts scope = (x : Expr) (c : Context) (n : Notes) → HasNoFaults (expression texts scope x c n).0 → IsSome (expression texts scope x c n).1

-- each quantity whose dot is named in the statement has its dot in the equation that is made
abbrev pub DotsStand : Scope → List ℕ → ConcurrentStatement → Made → Type 0
DotsStand scope dots s (made.Equation q) =
    (x i : ℕ) (c : QuantityClass) → list_any (nat_eq x) (dots_in_equations (equations_in s)) ≡ true → lookup scope x ≡ Some (thing.Quantity i c) → HasDot (in_pairs (pairs_in q)) dots i
DotsStand scope dots s m = (x : ℕ) → list_any (nat_eq x) (dots_in_equations (equations_in s)) ≡ false

-- where no rule is broken, there are no more dots than a design may have, and expressions are kept
abbrev pub SelectorsHaveDots : Type 0
SelectorsHaveDots =
    (w : Setting) (scope : Scope) (label : Option Name) (s : ConcurrentStatement) (n : Notes) → KeepsReadings w.texts scope
    → HasNoFaults (concurrent w scope label s n).0 → length (concurrent w scope label s n).0.dots ≤ unknown_limit
    → DotsStand scope (concurrent w scope label s n).0.dots s (concurrent w scope label s n).1
