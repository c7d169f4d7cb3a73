-- Associations one by one.
use Rattle.std.specs.Prelude.{◌≡◌, ℕ, List, [], ◌∷◌, ◌++◌, Option}
use Rattle.ams_token.specs.declared.token.Place.{Place}
use Rattle.ams_tree.specs.declared.expression.Name.{Name}
use Rattle.ams_tree.specs.declared.expression.Expr.{Expr, out-Expr}
use Rattle.ams_tree.specs.declared.concurrent.Association.{Association}
use Rattle.ams_tree.specs.declared.concurrent.Association.TheVariants as association
use Rattle.name_scope.specs.declared.thing.Subtype.{Subtype}
use Rattle.name_scope.specs.declared.scope.Scope.{Scope}
use Rattle.name_scope.specs.Scopes.{lookup}
use Rattle.elab_meaning.specs.declared.fault.Notes.{Notes}
use Rattle.elab_meaning.specs.Parts.{found_thing}
use Rattle.elab_meaning.specs.Expressions.{expression}
use Rattle.unit_meaning.specs.declared.request.Actual.{Actual}
use Rattle.unit_meaning.specs.declared.request.Actual.TheVariants as actual
use Rattle.unit_meaning.specs.declared.request.Assigned.{Assigned}
use Rattle.unit_meaning.specs.Settings.{running}
use Rattle.unit_meaning.specs.Cases.{place_of}
use Rattle.unit_meaning.specs.Associations.{generic_actual, port_actual, object_actual, other_actual, formal_at, association_place, assigned}

-- the rule by which the actual of a formal is read
abbrev pub Rule : Type 0 → Type 0
Rule A = Option A → Place → Expr → Notes → Notes × Actual

abbrev pub generic_rule : List (List ℕ) → Scope → Rule (Option Subtype)
generic_rule texts scope = λ formal place x. generic_actual texts scope formal place x (out-Expr x)

abbrev pub port_rule : List (List ℕ) → Scope → Scope → Rule (Option Name)
port_rule texts start scope = λ formal place x. port_actual texts start scope formal x (out-Expr x)

-- a name, and another expression, as the actual of a port
abbrev pub named_port : Scope → Scope → Option (Option Name) → Name → Notes → Notes × Actual
named_port start scope formal y n =
    let found = found_thing y (lookup scope y.number) n in
    object_actual start formal y found.1 found.0

abbrev pub other_port : List (List ℕ) → Scope → Expr → Notes → Notes × Actual
other_port texts scope x n =
    let found = expression texts scope x running n in
    (found.0, other_actual found.1)

-- one association
abbrev pub left_open : Option Name → Place → Assigned
left_open formal place = assigned (association_place formal place) formal actual.Open

abbrev pub one_actual : {A : Type 0} → Rule A → List (ℕ × A) → ℕ → Option Name → Expr → Notes → Notes × Assigned
one_actual rule formals j formal x n =
    let place = association_place formal (place_of x) in
    let a = rule (formal_at formals j formal) place x n in
    (a.0, assigned place formal a.1)

abbrev pub one : {A : Type 0} → Rule A → List (ℕ × A) → ℕ → Association → Notes → Notes × Assigned
one rule formals j (association.Open formal place) n = (n, left_open formal place)
one rule formals j (association.Actual formal x) n = one_actual rule formals j formal x n

-- one more is put behind those before it
abbrev pub HasAdded : Notes × Assigned → Notes → List Assigned → List Assigned → Type 0
HasAdded found notes old new = (notes ≡ found.0) × (new ≡ old ++ found.1 ∷ [])
