-- What keeps a scope right.
use Rattle.std.specs.Prelude.{◌≡◌, ℕ, true, nat_eq, List, [], Some}
use Rattle.std.specs.List.{slice_get, list_any}
use Rattle.flat_design.specs.declared.objects.Variable.{Variable}
use Rattle.flat_design.specs.declared.objects.Process.{Process}
use Rattle.flat_design.specs.declared.objects.Objects.{Objects}
use Rattle.name_scope.specs.declared.thing.Thing.{Thing}
use Rattle.name_scope.specs.declared.scope.Scope.{Scope}
use Rattle.name_scope.specs.Scopes.{with_name, inside}
use Rattle.unit_meaning.specs.Units.{start_of}
use Rattle.design_meaning.specs.Typed as flat
use Rattle.design_rules.specs.Types.{equation_scope, process_scope, IsVisible}
use Rattle.design_rules.specs.Design.{domain_type}
use Rattle.typed_laws.specs.Fitting.{FitsThing}
use Rattle.scope_laws.specs.Holds.{AlsoFits, ScopeHolds, StandsBefore}

-- a thing that a name may stand for
pub record ThingHolds (objects : flat.Scope) (variables : List Variable) (parameters : List ℕ) (t : Thing) : Type 0 where
  pub fits : FitsThing objects (IsVisible variables parameters) t
  pub also : AlsoFits objects.enumerations variables t

pub record ScopesHold : Type 0 where
  -- one more name
  pub named : (objects : flat.Scope) (variables : List Variable) (parameters : List ℕ) (scope : Scope) (x : ℕ) (t : Thing)
      → ScopeHolds objects variables parameters scope → ThingHolds objects variables parameters t → ScopeHolds objects variables parameters (with_name scope x t)
  -- a region inside
  pub inner : (objects : flat.Scope) (variables : List Variable) (parameters : List ℕ) (scope : Scope)
      → ScopeHolds objects variables parameters scope → ScopeHolds objects variables parameters (inside scope)
  -- the predefined names, in a design whose enumeration type 0 is DOMAIN_TYPE
  pub start : (objects : Objects) (texts : List (List ℕ)) → slice_get objects.enumerations 0 ≡ Some domain_type → ScopeHolds (equation_scope objects) [] [] (start_of texts)
  -- what an architecture declares is seen in its processes
  pub in_process : (objects : Objects) (p : Process) (parameters : List ℕ) (scope : Scope)
      → ScopeHolds (equation_scope objects) [] [] scope → ScopeHolds (process_scope objects p) p.variables parameters scope
  -- more parameters
  pub in_loop : (objects : flat.Scope) (variables : List Variable) (parameters more : List ℕ) (scope : Scope)
      → ((i : ℕ) → list_any (nat_eq i) parameters ≡ true → list_any (nat_eq i) more ≡ true)
      → ScopeHolds objects variables parameters scope → ScopeHolds objects variables more scope
  -- fronts
  pub same : (objects : Objects) → StandsBefore objects objects
  pub on : (a b c : Objects) → StandsBefore a b → StandsBefore b c → StandsBefore a c
