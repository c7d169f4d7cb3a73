-- Names whose 'dot stands in an equation of an instance, as a break's selector must (IEEE 1076.1, break statement).
use Rattle.std.specs.Prelude.{◌≡◌, ◌≤◌, ℕ, Bool, true, false, ◌||◌, nat_eq, List, length, Option, Some}
use Rattle.std.specs.List.{slice_get, list_any, All}
use Rattle.ams_tree.specs.declared.concurrent.Concurrent.{Concurrent}
use Rattle.ams_tree.specs.declared.concurrent.ConcurrentStatement.{ConcurrentStatement}
use Rattle.ams_tree.specs.declared.expression.Name.{Name}
use Rattle.flat_expr.specs.declared.expr.Unknown.{Unknown}
use Rattle.flat_expr.specs.declared.expr.Unknown.TheVariants.{Dot}
use Rattle.flat_design.specs.Limits.{unknown_limit}
use Rattle.flat_design.specs.declared.objects.Objects.{Objects}
use Rattle.flat_design.specs.declared.objects.Pair.{Pair}
use Rattle.name_scope.specs.declared.thing.QuantityClass.{QuantityClass}
use Rattle.name_scope.specs.declared.thing.Thing.TheVariants as thing
use Rattle.name_scope.specs.declared.scope.Scope.{Scope}
use Rattle.name_scope.specs.Scopes.{lookup}
use Rattle.elab_meaning.specs.declared.fault.Notes.{Notes}
use Rattle.unit_meaning.specs.declared.draft.Made.{Made}
use Rattle.unit_meaning.specs.declared.draft.Made.TheVariants as made
use Rattle.unit_meaning.specs.Settings.{Setting}
use Rattle.unit_meaning.specs.Concurrent.{concurrent}
use Rattle.unit_meaning.specs.Simultaneous.{dots_in_equations, equations_in, selectors_of}
use Rattle.design_rules.specs.Equations.{pairs_in, stands_in}
use Rattle.scope_laws.specs.Holds.{HasNoFaults}
use Rattle.allowed_laws.specs.Simple.{SelectorsFit}
use Rattle.site_invariant_laws.specs.Sites.{IsMadeIn}

-- an unknown stands on a side of one of these pairs
abbrev pub in_pairs : List Pair → Unknown → Bool
in_pairs all u = list_any (λ (p : Pair). stands_in u p.left || stands_in u p.right) all

-- the dot of a quantity has a number in a list, and stands in these pairs
abbrev pub HasItsDot : List Pair → List ℕ → ℕ → Type 0
HasItsDot all dots q = (number : ℕ) × (slice_get dots number ≡ Some q) × (in_pairs all (Dot number) ≡ true)

-- each quantity whose dot is named in a statement has its dot in the equation that is made
abbrev pub DotsAreMade : Scope → List ℕ → ConcurrentStatement → Made → Type 0
DotsAreMade scope dots s (made.Equation q) =
    (x i : ℕ) (c : QuantityClass) → list_any (nat_eq x) (dots_in_equations (equations_in s)) ≡ true → lookup scope x ≡ Some (thing.Quantity i c) → HasItsDot (pairs_in q) dots i
DotsAreMade scope dots s (made.Process p) = (x : ℕ) → list_any (nat_eq x) (dots_in_equations (equations_in s)) ≡ false
DotsAreMade scope dots s made.Nothing = (x : ℕ) → list_any (nat_eq x) (dots_in_equations (equations_in s)) ≡ false

-- it is so of the statements that are read with this setting in this scope, where no rule is broken and there are no more dots than
-- a design may have
abbrev pub StatementsMakeDots : Setting → Scope → Type 0
StatementsMakeDots w scope =
    (label : Option Name) (s : ConcurrentStatement) (n : Notes) → HasNoFaults (concurrent w scope label s n).0 → length (concurrent w scope label s n).0.dots ≤ unknown_limit
    → DotsAreMade scope (concurrent w scope label s n).0.dots s (concurrent w scope label s n).1

-- then a quantity whose dot is named in an equation of an architecture has its dot in an equation of the design, if the design has
-- what each statement has made
abbrev pub SelectorsAreMade : Type 0
SelectorsAreMade =
    (final : Objects) (w : Setting) (scope : Scope) (all : List Concurrent)
    → StatementsMakeDots w scope → w.selectors ≡ selectors_of all → All (IsMadeIn final w scope) all → SelectorsFit final w scope
