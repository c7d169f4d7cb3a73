-- Instances that break no rule, and what they make.
use Rattle.std.specs.Prelude.{◌≡◌, ℕ, Bool, IsTrue, List, [], Option}
use Rattle.std.specs.List.{All}
use Rattle.ams_tree.specs.declared.concurrent.Concurrent.{Concurrent}
use Rattle.ams_tree.specs.declared.concurrent.ConcurrentStatement.{ConcurrentStatement}
use Rattle.ams_tree.specs.declared.design.Architecture.{Architecture}
use Rattle.ams_tree.specs.declared.design.DesignUnit.{DesignUnit}
use Rattle.ams_tree.specs.declared.design.Entity.{Entity}
use Rattle.ams_tree.specs.declared.expression.Name.{Name}
use Rattle.name_scope.specs.declared.scope.Scope.{Scope}
use Rattle.elab_meaning.specs.declared.fault.Notes.{Notes}
use Rattle.unit_meaning.specs.declared.request.Request.{Request}
use Rattle.unit_meaning.specs.declared.site.Site.{Site}
use Rattle.unit_meaning.specs.Settings.{Setting}
use Rattle.unit_meaning.specs.Units.{statement_notes}
use Rattle.unit_meaning.specs.Walk.{Entry, top_request}
use Rattle.walk_laws.specs.Steps.{body_notes, around_body, IsEntered}
use Rattle.kept_laws.specs.Kept.{BreaksAlike}
use Rattle.tally_laws.specs.Tally.{InnerKeeps, CountsAreMade}

-- an instance whose test passes breaks no rule, if its request keeps the rule `Q`; so do the requests of the instances in it
pub record InstancesAreFine (texts : List (List ℕ)) (units : List DesignUnit) (Q : Request → Type 0) : Type 0 where
  pub top : (path : List ℕ) (x : ℕ) → Q (top_request path x)
  pub inner : (r : Request) (s : Site) (e : Entity) (a : Architecture) (entry : Entry) → Q r → IsEntered texts units r s e a entry
      → All (λ (c : Concurrent). InnerKeeps Q units (around_body texts r a entry s) c.statement) a.statements
  pub fine : (r : Request) (s : Site) (e : Entity) (a : Architecture) (entry : Entry) → Q r → IsEntered texts units r s e a entry
      → (body_notes texts units a entry s).faults ≡ []

-- what a statement breaks doesn't depend on what is noted before it
abbrev pub StatementsBreakAlike : Type 0
StatementsBreakAlike =
    (w : Setting) (start : Scope) (units : List DesignUnit) (scope : Scope) (label : Option Name) (x : ConcurrentStatement) (n m : Notes)
    → BreaksAlike n m (statement_notes w start units scope label x n) (statement_notes w start units scope label x m)

abbrev pub InstancesMakeCounts : Type 0
InstancesMakeCounts =
    (texts : List (List ℕ)) (units : List DesignUnit) (keeps : Request → Bool)
    → StatementsBreakAlike → InstancesAreFine texts units (λ r. IsTrue (keeps r)) → CountsAreMade texts units (λ r. IsTrue (keeps r))
