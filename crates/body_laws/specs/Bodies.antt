-- Sequential statements in their process.
use Rattle.std.specs.Prelude.{◌≡◌, ◌⊎◌, ℕ, Bool, true, nat_eq, List, ◌++◌, map, length, Some, IfSome}
use Rattle.std.specs.List.{slice_get, list_any, flat_map}
use Rattle.ams_tree.specs.declared.sequential.Alternative.{Alternative as WrittenAlternative}
use Rattle.ams_tree.specs.declared.sequential.Seq.{Seq}
use Rattle.ams_tree.specs.declared.expression.Expr.{Expr}
use Rattle.ams_value.specs.declared.value_type.ValueType.{ValueType}
use Rattle.flat_expr.specs.declared.statement.Alternative.{Alternative, out-Alternative}
use Rattle.flat_expr.specs.declared.statement.Statement.{Statement, out-Statement}
use Rattle.flat_design.specs.declared.objects.Objects.{Objects}
use Rattle.flat_design.specs.declared.objects.Process.{Process}
use Rattle.flat_design.specs.declared.objects.Variable.{Variable}
use Rattle.flat_design.specs.declared.objects.WaitPlace.{WaitPlace}
use Rattle.name_scope.specs.declared.scope.Scope.{Scope}
use Rattle.name_scope.specs.declared.thing.Kind.TheVariants.{Of}
use Rattle.name_scope.specs.declared.thing.Thing.{Thing}
use Rattle.name_scope.specs.declared.thing.Thing.TheVariants as thing
use Rattle.name_scope.specs.Scopes.{lookup}
use Rattle.unit_meaning.specs.declared.draft.Draft.{Draft}
use Rattle.unit_meaning.specs.declared.draft.Spot.{Spot}
use Rattle.elab_meaning.specs.declared.fault.Notes.{Notes}
use Rattle.elab_meaning.specs.declared.part.Part.TheVariants.{Kept}
use Rattle.elab_meaning.specs.declared.typed.Typed.{Typed}
use Rattle.unit_meaning.specs.Settings.{Setting, running, typed}
use Rattle.unit_meaning.specs.Cases.{nothing_seen, covers}
use Rattle.unit_meaning.specs.Sequential.{body, alternatives, statement_of}
use Rattle.design_rules.specs.Types.{sizes_of, process_scope}
use Rattle.design_rules.specs.Choices.{AreChoices}
use Rattle.reading_laws.specs.Growing.{Extends}
use Rattle.typed_laws.specs.Fitting.{HasRoom}
use Rattle.part_laws.specs.Parts.{OnKept}
use Rattle.scope_laws.specs.Holds.{HasNoFaults, ScopeHolds}
use Rattle.place_laws.specs.Places.{EachPlace, HoldsHere, Stands, Assigns, AssignsHere}
use Rattle.written_laws.specs.Written.{AreWritten}
use Rattle.draft_laws.specs.Drafts.{alternative_of}
use Rattle.allowed_laws.specs.Simple.{HasTexts, SelectorsFit}

-- ---- what stands round statements

-- a draft stands at the front of the process, no rule is broken, and the design has room for what is noted
pub record StandsIn (objects : Objects) (p : Process) (d : Draft) : Type 0 where
  pub faults : HasNoFaults d.notes
  pub room : HasRoom (process_scope objects p) d.notes
  pub variables : Extends Variable d.variables p.variables
  pub drivers : Extends ℕ d.drivers p.drivers
  pub waits : Extends WaitPlace d.waits p.waits

-- a further rule of what names stand for holds of this
abbrev pub Keeps : (Thing → Bool) → Thing → Type 0
Keeps also t = also t ≡ true

-- the names in a scope of the process, in loops with these parameters. `Also` is a further rule of what names stand for, as the
-- choices of a case ask it
pub record ScopeStands (objects : Objects) (p : Process) (ps : List ℕ) (w : Setting) (Also : Thing → Bool) (scope : Scope) : Type 0 where
  pub holds : ScopeHolds (process_scope objects p) p.variables ps scope
  pub selectors : SelectorsFit objects w scope
  pub also : (x : ℕ) → IfSome (lookup scope x) (Keeps Also)

-- these variables are parameters of loops
abbrev pub AreParameters : List Variable → List ℕ → Type 0
AreParameters variables ps = (i : ℕ) → list_any (nat_eq i) ps ≡ true → (x : Variable) × (slice_get variables i ≡ Some x) × (x.is_parameter ≡ true)

-- the choices of a case that is read for an expression of this type are right, where they cover the type and no rule is broken
abbrev pub CasesFit : Objects → Process → Setting → (Thing → Bool) → Type 0
CasesFit objects p w Also =
    (ps : List ℕ) (scope : Scope) (spot : Spot) (i : ℕ) (k : ValueType) (x : Expr) (n : Notes) (e : Typed) (all : List WrittenAlternative) (d : Draft)
    → ScopeStands objects p ps w Also scope → (typed w scope running x n).1 ≡ Kept e → e.kind ≡ Of k
    → HasNoFaults (alternatives (map (alternative_of w) all) scope spot i 0 (Some (Of k)) nothing_seen d).0.notes
    → covers w.enumerations (Of k) (alternatives (map (alternative_of w) all) scope spot i 0 (Some (Of k)) nothing_seen d).1.0 ≡ true
    → OnKept
    (λ (arms : List Alternative).
    AreChoices (sizes_of objects) k (flat_map (λ (a : Alternative). (out-Alternative a).choices) arms) (map (λ (a : Alternative). (out-Alternative a).others) arms))
    (alternatives (map (alternative_of w) all) scope spot i 0 (Some (Of k)) nothing_seen d).1.1

-- the texts, the choices of cases, and that the further rule holds of parameters
pub record AroundStands (objects : Objects) (p : Process) (w : Setting) (Also : Thing → Bool) : Type 0 where
  pub texts : HasTexts w
  pub cases : CasesFit objects p w Also
  pub parameters : (i : ℕ) → Keeps Also (thing.Parameter i)

-- ---- what is shown

-- a statement that is read as number `i` of its list stands right, and assigns each signal whose driver is new
pub record StatementIs (objects : Objects) (p : Process) (spot : Spot) (i : ℕ) (before after : List ℕ) (s : Statement) : Type 0 where
  pub places : HoldsHere (Stands objects p) spot.path spot.parameters i (out-Statement s)
  pub drivers : (j : ℕ) → list_any (nat_eq j) after ≡ true → (list_any (nat_eq j) before ≡ true) ⊎ AssignsHere j (out-Statement s)

-- so do statements behind `i` others
pub record BodyIs (objects : Objects) (p : Process) (spot : Spot) (i : ℕ) (before after : List ℕ) (all : List Statement) : Type 0 where
  pub places : (front : List Statement) → length front ≡ i → EachPlace (Stands objects p) spot.path spot.parameters front → EachPlace (Stands objects p) spot.path spot.parameters (front ++ all)
  pub drivers : (j : ℕ) → list_any (nat_eq j) after ≡ true → (list_any (nat_eq j) before ≡ true) ⊎ Assigns j all

abbrev pub BodiesStand : Type 0
BodiesStand =
    (objects : Objects) (p : Process) (w : Setting) (Also : Thing → Bool) → AroundStands objects p w Also
    → (all : List Seq) → AreWritten all → (scope : Scope) (spot : Spot) (i : ℕ) (d : Draft)
    → ScopeStands objects p spot.parameters w Also scope → AreParameters d.variables spot.parameters
    → StandsIn objects p (body (map (statement_of w) all) scope spot i d).0
    → OnKept (BodyIs objects p spot i d.drivers (body (map (statement_of w) all) scope spot i d).0.drivers) (body (map (statement_of w) all) scope spot i d).1
