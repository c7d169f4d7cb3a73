-- The quantities of an instance that a port of mode out inside it may stand for.
use Rattle.std.specs.Prelude.{◌≡◌, ◌≢◌, ◌≤◌, ℕ, nat_eq, true, if◌then◌else◌, List, [], ◌∷◌, ◌++◌, length, IfSome}
use Rattle.std.specs.List.{list_any, All, AllPairs}
use Rattle.ams_tree.specs.declared.concurrent.Instance.{Instance}
use Rattle.ams_tree.specs.declared.design.Architecture.{Architecture}
use Rattle.ams_tree.specs.declared.design.DesignUnit.{DesignUnit}
use Rattle.ams_tree.specs.declared.design.Entity.{Entity}
use Rattle.ams_tree.specs.declared.expression.Name.{Name}
use Rattle.name_scope.specs.declared.thing.Thing.{Thing}
use Rattle.name_scope.specs.declared.thing.Thing.TheVariants as thing
use Rattle.name_scope.specs.declared.scope.Scope.{Scope}
use Rattle.name_scope.specs.Scopes.{lookup}
use Rattle.elab_meaning.specs.declared.book.Book.{Book}
use Rattle.unit_meaning.specs.declared.request.Actual.{Actual}
use Rattle.unit_meaning.specs.declared.request.Actual.TheVariants as actual
use Rattle.unit_meaning.specs.declared.request.Assigned.{Assigned}
use Rattle.unit_meaning.specs.declared.request.Request.{Request}
use Rattle.unit_meaning.specs.declared.site.Site.{Site}
use Rattle.unit_meaning.specs.Settings.{Setting}
use Rattle.unit_meaning.specs.Units.{opened}
use Rattle.unit_meaning.specs.Walk.{Entry, entry_of_instance, is_source, out_count, quantity_count, request_of}

-- ---- names

-- a quantity that a port of mode out may stand for is one of these
abbrev pub IsAmong : List ℕ → Thing → Type 0
IsAmong all (thing.Quantity q c) = is_source c ≡ true → list_any (nat_eq q) all ≡ true
IsAmong all t = Unit {0}

-- all such quantities of a scope are among these
abbrev pub SourcesAre : List ℕ → Scope → Type 0
SourcesAre all scope = (x : ℕ) → IfSome (lookup scope x) (IsAmong all)

abbrev pub ActualAmong : List ℕ → Actual → Type 0
ActualAmong all (actual.Object y t) = IsAmong all t
ActualAmong all a = Unit {0}

abbrev pub AssignedAmong : List ℕ → Assigned → Type 0
AssignedAmong all a = ActualAmong all a.actual

-- what stands at an instance
abbrev pub RequestAmong : List ℕ → Request → Type 0
RequestAmong all r = All (AssignedAmong all) r.ports

-- a scope in which there are at most so many more
pub record AtMostMore (all : List ℕ) (most : ℕ) (scope : Scope) : Type 0 where
  pub more : List ℕ
  pub few : length more ≤ most
  pub are : SourcesAre (all ++ more) scope

-- ---- ports of mode out

-- the quantities of an instance that are actuals of ports of mode out
abbrev pub uses : ℕ → List (ℕ × ℕ) → List ℕ
uses n [] = []
uses n (u ∷ more) = if nat_eq u.0 n then u.1 ∷ uses n more else uses n more

-- each number once
abbrev pub Once : List ℕ → Type 0
Once xs = AllPairs (λ a b. a ≢ b) xs

-- an interface whose ports of mode out are bound to quantities of the instance outside
pub record BindsSources (r : Request) (e : Entity) (s : Site) (entry : Entry) : Type 0 where
  pub found : List ℕ
  pub count : length found ≡ out_count e.ports
  pub own : uses r.outer entry.used ≡ uses r.outer s.used ++ found
  pub others : (n : ℕ) → n ≢ r.outer → uses n entry.used ≡ uses n s.used
  pub once : Once (uses r.outer s.used) → Once (uses r.outer entry.used)
  pub among : (all : List ℕ) → RequestAmong all r → All (λ q. list_any (nat_eq q) all ≡ true) found
  pub sources : SourcesAre found entry.book.scope

pub record SourcesAreCounted : Type 0 where
  -- declarations make as many as are counted, at most
  pub declarations : (texts : List (List ℕ)) (a : Architecture) (b : Book) (all : List ℕ)
      → SourcesAre all b.scope → AtMostMore all (quantity_count a.declarations) (opened texts a b).scope
  pub interface : (texts : List (List ℕ)) (r : Request) (e : Entity) (s : Site) → IfSome (entry_of_instance texts r e s) (BindsSources r e s)
  -- actuals are named in the scope of their instance
  pub inner : (w : Setting) (units : List DesignUnit) (scope : Scope) (path : List ℕ) (number : ℕ) (x : Name) (i : Instance) (s : Site) (all : List ℕ)
      → SourcesAre all scope → RequestAmong all (request_of w units scope path number x i s)
