-- Counts of equations and unknowns over all instances (IEEE 1076.1, 15.1, for single design entities).
use Rattle.std.specs.Prelude.{◌≡◌, ℕ, ◌+◌, Bool, IsTrue, List, [], Option, Ok}
use Rattle.std.specs.List.{sum_by, All}
use Rattle.ams_tree.specs.declared.concurrent.Concurrent.{Concurrent}
use Rattle.ams_tree.specs.declared.concurrent.ConcurrentStatement.{ConcurrentStatement}
use Rattle.ams_tree.specs.declared.concurrent.ConcurrentStatement.TheVariants as conc
use Rattle.ams_tree.specs.declared.design.Architecture.{Architecture}
use Rattle.ams_tree.specs.declared.design.DesignUnit.{DesignUnit}
use Rattle.ams_tree.specs.declared.design.Entity.{Entity}
use Rattle.ams_tree.specs.declared.expression.Name.{Name}
use Rattle.flat_design.specs.declared.objects.Equation.{Equation}
use Rattle.flat_design.specs.declared.objects.Instance.{Instance}
use Rattle.flat_design.specs.declared.objects.Objects.{Objects}
use Rattle.flat_design.specs.declared.objects.Quantity.{Quantity}
use Rattle.flat_design.specs.declared.objects.QuantityKind.{QuantityKind}
use Rattle.flat_design.specs.declared.objects.QuantityKind.TheVariants as kind
use Rattle.flat_design.specs.Order.{size_of}
use Rattle.elab_meaning.specs.declared.fault.Notes.{Notes}
use Rattle.unit_meaning.specs.declared.draft.Made.{Made}
use Rattle.unit_meaning.specs.declared.draft.Made.TheVariants as made
use Rattle.unit_meaning.specs.declared.request.Request.{Request}
use Rattle.unit_meaning.specs.declared.site.Site.{Site}
use Rattle.unit_meaning.specs.Concurrent.{concurrent}
use Rattle.unit_meaning.specs.Simultaneous.{equation_count}
use Rattle.unit_meaning.specs.Units.{opened}
use Rattle.unit_meaning.specs.Walk.{Around, Entry, quantity_count, request_of, top_request, walked}
use Rattle.walk_laws.specs.Steps.{IsEntered, IsNoInstance, around_body}

-- ---- sums

-- a quantity across a branch has an equation of its own, so that it isn't counted
abbrev pub counted_kind : QuantityKind → ℕ
counted_kind (kind.Across plus minus) = 0
counted_kind _ = 1

abbrev pub quantity_sum : List Quantity → ℕ
quantity_sum = sum_by (λ (q : Quantity). counted_kind q.kind)

abbrev pub size_sum : List Equation → ℕ
size_sum = sum_by size_of

abbrev pub equation_sum : List Instance → ℕ
equation_sum = sum_by (λ (x : Instance). x.equations)

abbrev pub unknown_sum : List Instance → ℕ
unknown_sum = sum_by (λ (x : Instance). x.unknowns)

-- the instances count what the design has
pub record IsTallied (objects : Objects) : Type 0 where
  pub equations : equation_sum objects.instances ≡ size_sum objects.equations
  pub unknowns : unknown_sum objects.instances ≡ quantity_sum objects.quantities

-- ---- what is made is what is counted

abbrev pub made_size : Made → ℕ
made_size (made.Equation q) = size_of q
made_size m = 0

-- a statement makes as many equations as it counts, whatever dots and thresholds are noted before it
abbrev pub MakesAsCounted : Around → Concurrent → Type 0
MakesAsCounted at c = IsNoInstance c.statement → (n : Notes) → n.faults ≡ [] → made_size (concurrent at.setting at.scope c.label c.statement n).1 ≡ equation_count c.statement

-- the request that an instance makes keeps a rule
abbrev pub InnerKeeps : (Request → Type 0) → List DesignUnit → Around → ConcurrentStatement → Type 0
InnerKeeps Q units at (conc.Instance i) = (x : Name) (s : Site) → Q (request_of at.setting units at.scope at.path at.number x i s)
InnerKeeps Q units at x = Unit {0}

-- an instance whose request keeps the rule makes as many quantities and equations as it counts, and so do those in it
pub record CountsAreMade (texts : List (List ℕ)) (units : List DesignUnit) (Q : Request → Type 0) : Type 0 where
  pub top : (path : List ℕ) (x : ℕ) → Q (top_request path x)
  pub inner : (r : Request) (s : Site) (e : Entity) (a : Architecture) (entry : Entry) → Q r → IsEntered texts units r s e a entry
      → All (λ (c : Concurrent). InnerKeeps Q units (around_body texts r a entry s) c.statement) a.statements
  pub quantities : (r : Request) (s : Site) (e : Entity) (a : Architecture) (entry : Entry) → Q r → IsEntered texts units r s e a entry
      → quantity_sum (opened texts a entry.book).objects.quantities ≡ quantity_sum s.objects.quantities + quantity_count a.declarations
  pub equations : (r : Request) (s : Site) (e : Entity) (a : Architecture) (entry : Entry) → Q r → IsEntered texts units r s e a entry
      → All (MakesAsCounted (around_body texts r a entry s)) a.statements

abbrev pub WalksAreTallied : Type 0
WalksAreTallied =
    (texts : List (List ℕ)) (units : List DesignUnit) (top : List ℕ) (x : Option ℕ) (s : Site) (keeps : Request → Bool)
    → CountsAreMade texts units (λ r. IsTrue (keeps r)) → walked texts units top x ≡ Ok s → IsTallied s.objects
