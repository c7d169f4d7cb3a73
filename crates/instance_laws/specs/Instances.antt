-- What an instance of a file without faults breaks.
use Rattle.std.specs.Prelude.{◌≡◌, ℕ, IsTrue, List, All, None}
use Rattle.ams_tree.specs.declared.concurrent.Concurrent.{Concurrent}
use Rattle.ams_tree.specs.declared.concurrent.ConcurrentStatement.{ConcurrentStatement}
use Rattle.ams_tree.specs.declared.concurrent.ConcurrentStatement.TheVariants as conc
use Rattle.ams_tree.specs.declared.design.Architecture.{Architecture}
use Rattle.ams_tree.specs.declared.design.DesignUnit.{DesignUnit}
use Rattle.ams_tree.specs.declared.design.Entity.{Entity}
use Rattle.ams_tree.specs.declared.expression.Name.{Name}
use Rattle.unit_meaning.specs.declared.request.Request.{Request}
use Rattle.unit_meaning.specs.declared.site.Site.{Site}
use Rattle.unit_meaning.specs.Units.{type_fault, nature_fault}
use Rattle.unit_meaning.specs.Walk.{Around, Entry, request_of, top_request}
use Rattle.walk_laws.specs.Steps.{body_notes, around_body, IsEntered}
use Rattle.alike_laws.specs.Alike.{HasNoFaults}
use Rattle.alike_maps.specs.Maps.{actuals_fit}

-- whatever the design is so far, terminals among the actuals of an instance have the natures of their ports
abbrev pub InnerFits : List DesignUnit → Around → ConcurrentStatement → Type 0
InnerFits units at (conc.Instance i) = (x : Name) (s : Site) → IsTrue (actuals_fit units (request_of at.setting units at.scope at.path at.number x i s))
InnerFits units at x = Unit {0}

-- an instance whose test passes breaks no rule, if its actuals fit; so do those of the instances in it
pub record InstancesBreakNothing (texts : List (List ℕ)) (units : List DesignUnit) : Type 0 where
  pub top : (path : List ℕ) (x : ℕ) → IsTrue (actuals_fit units (top_request path x))
  pub inner : (r : Request) (s : Site) (e : Entity) (a : Architecture) (entry : Entry) → IsTrue (actuals_fit units r) → IsEntered texts units r s e a entry
      → All (λ (c : Concurrent). InnerFits units (around_body texts r a entry s) c.statement) a.statements
  pub fine : (r : Request) (s : Site) (e : Entity) (a : Architecture) (entry : Entry) → IsTrue (actuals_fit units r) → IsEntered texts units r s e a entry
      → HasNoFaults (body_notes texts units a entry s)

-- in a file in which the check of types and that of natures find no fault
abbrev pub InstancesFollow : Type 0
InstancesFollow = (texts : List (List ℕ)) (units : List DesignUnit) → type_fault texts units ≡ None → nature_fault texts units ≡ None → InstancesBreakNothing texts units
