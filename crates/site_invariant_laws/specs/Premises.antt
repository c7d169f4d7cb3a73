-- What the invariant of a site asks for, each to be shown elsewhere.
use Rattle.std.specs.Prelude.{◌≡◌, ℕ, Bool, List, [], Option, IfSome}
use Rattle.std.specs.List.{All}
use Rattle.ams_tree.specs.declared.expression.Expr.{Expr}
use Rattle.ams_tree.specs.declared.expression.Name.{Name}
use Rattle.ams_tree.specs.declared.concurrent.Concurrent.{Concurrent}
use Rattle.ams_tree.specs.declared.concurrent.ConcurrentStatement.{ConcurrentStatement}
use Rattle.ams_tree.specs.declared.concurrent.ConcurrentStatement.TheVariants as conc
use Rattle.ams_tree.specs.declared.design.Architecture.{Architecture}
use Rattle.ams_tree.specs.declared.design.DesignUnit.{DesignUnit}
use Rattle.ams_tree.specs.declared.design.Entity.{Entity}
use Rattle.ams_value.specs.declared.value_type.ValueType.TheVariants.{Enumeration as EnumerationType}
use Rattle.flat_design.specs.declared.objects.Objects.{Objects}
use Rattle.flat_design.specs.declared.objects.Process.{Process}
use Rattle.name_scope.specs.declared.scope.Scope.{Scope}
use Rattle.name_scope.specs.declared.thing.Kind.TheVariants.{Of}
use Rattle.name_scope.specs.declared.thing.Thing.{Thing}
use Rattle.name_scope.specs.declared.thing.Thing.TheVariants as thing
use Rattle.name_scope.specs.Scopes.{lookup}
use Rattle.elab_meaning.specs.declared.fault.Notes.{Notes}
use Rattle.elab_meaning.specs.Notes.{text_of}
use Rattle.unit_meaning.specs.declared.draft.Made.{Made}
use Rattle.unit_meaning.specs.declared.draft.Made.TheVariants as made
use Rattle.unit_meaning.specs.declared.request.Request.{Request}
use Rattle.unit_meaning.specs.declared.site.Site.{Site}
use Rattle.unit_meaning.specs.Settings.{Setting, choosing, typed}
use Rattle.unit_meaning.specs.Concurrent.{concurrent}
use Rattle.unit_meaning.specs.Units.{opened, setting_of}
use Rattle.unit_meaning.specs.Walk.{Entry, Around, request_of, top_request}
use Rattle.design_rules.specs.Types.{sizes_of, equation_scope}
use Rattle.design_rules.specs.Equations.{IsEquation}
use Rattle.design_rules.specs.Statements.{IsText}
use Rattle.design_rules.specs.Design.{IsProcess}
use Rattle.typed_laws.specs.Fitting.{HasRoom}
use Rattle.part_laws.specs.Parts.{OnKept}
use Rattle.scope_laws.specs.Holds.{HasNoFaults, ScopeHolds, StandsBefore}
use Rattle.written_laws.specs.Written.{IsWritten, UnitIsWritten}
use Rattle.choice_laws.specs.Choices.{AsksValues, CountsLiterals, CountsOf}
use Rattle.kind_laws.specs.Kinds.{ThingCounts}
use Rattle.allowed_laws.specs.Simple.{SelectorsFit}
use Rattle.body_laws.specs.Bodies.{Keeps, CasesFit}
use Rattle.made_laws.specs.Made.{ValuesFit, ArchitectureStands}
use Rattle.walk_laws.specs.Steps.{body_notes, around_body, IsEntered}
use Rattle.site_invariant_laws.specs.Sites.{HasDomain, IsMadeIn}

-- ---- instances

-- the request that an instance makes keeps a rule, whatever the design is so far
abbrev pub InnerKeeps : (Request → Type 0) → List DesignUnit → Around → ConcurrentStatement → Type 0
InnerKeeps Q units at (conc.Instance i) = (x : Name) (s : Site) → Q (request_of at.setting units at.scope at.path at.number x i s)
InnerKeeps Q units at x = Unit {0}

-- an instance whose test passes breaks no rule, if its request keeps the rule `Q`; so do the requests of the instances in it
pub record InstancesAreFine (texts : List (List ℕ)) (units : List DesignUnit) (Q : Request → Type 0) : Type 0 where
  pub top : (path : List ℕ) (x : ℕ) → Q (top_request path x)
  pub inner : (r : Request) (s : Site) (e : Entity) (a : Architecture) (entry : Entry) → Q r → IsEntered texts units r s e a entry
      → All (λ (c : Concurrent). InnerKeeps Q units (around_body texts r a entry s) c.statement) a.statements
  pub fine : (r : Request) (s : Site) (e : Entity) (a : Architecture) (entry : Entry) → Q r → IsEntered texts units r s e a entry
      → HasNoFaults (body_notes texts units a entry s)

-- ---- concurrent statements

-- a process or an equation of a well-formed design
abbrev pub IsMade : Objects → Made → Type 0
IsMade objects (made.Process p) = IsProcess objects p
IsMade objects (made.Equation q) = IsEquation objects q
IsMade objects made.Nothing = Unit {0}

-- what simultaneous cases ask of a scope: values that are asked are known and of their types, and the enumeration type of an
-- expression has as many literals where it is read as in the design
pub record CasesStand (objects : Objects) (w : Setting) (scope : Scope) : Type 0 where
  pub values : AsksValues (equation_scope objects) w.texts scope
  pub counts : (x : Expr) (n : Notes) → OnKept (CountsOf w.enumerations (sizes_of objects)) (typed w scope choosing x n).1

-- what is made is so, where no rule is broken and the design has room for what is noted
abbrev pub StatementsMake : Objects → Type 0
StatementsMake objects =
    (w : Setting) (Also : Thing → Bool) (scope : Scope) (label : Option Name) (x : ConcurrentStatement) (n : Notes)
    → ArchitectureStands objects w Also scope → CasesStand objects w scope → IsWritten x
    → HasNoFaults (concurrent w scope label x n).0 → HasRoom (equation_scope objects) (concurrent w scope label x n).0 → IsMade objects (concurrent w scope label x n).1

-- ---- names of an instance

-- the enumeration types of names have as many literals where they are read as in the final design
abbrev pub NamesCount : Objects → Setting → Scope → Type 0
NamesCount final w scope = (name : ℕ) → IfSome (lookup scope name) (ThingCounts w.enumerations (sizes_of final))

-- a rule of names by which the choices of cases in processes are right
pub record ProcessesStand (final : Objects) (w : Setting) (scope : Scope) : Type 0 where
  pub Also : Thing → Bool
  pub names : (x : ℕ) → IfSome (lookup scope x) (Keeps Also)
  pub cases : (p : Process) → CasesFit final p w Also
  pub values : ValuesFit final w Also
  pub parameters : (i : ℕ) → Keeps Also (thing.Parameter i)
  pub faulty : Keeps Also thing.Faulty

-- ---- the whole list

pub record Premises (texts : List (List ℕ)) (units : List DesignUnit) (final : Objects) (Q : Request → Type 0) : Type 0 where
  -- an instance breaks no rule
  pub instances : InstancesAreFine texts units Q
  -- concurrent statements make processes and equations, concurrent assignments among them
  pub make : StatementsMake final
  -- the units are what a text spells
  pub written : All UnitIsWritten units
  -- the texts of names and strings may stand in messages
  pub texts_fit : (x : ℕ) → IsText (text_of texts x)
  -- enumeration types of the names of an instance
  pub counts : (r : Request) (s : Site) (e : Entity) (a : Architecture) (entry : Entry) → IsEntered texts units r s e a entry → HasDomain s.objects
      → HasNoFaults (opened texts a entry.book).notes → StandsBefore (opened texts a entry.book).objects final
      → NamesCount final (setting_of texts (opened texts a entry.book) a) (opened texts a entry.book).scope
  -- the choices of cases in processes, and the values of their declarations
  pub processes : (r : Request) (s : Site) (e : Entity) (a : Architecture) (entry : Entry) → IsEntered texts units r s e a entry → HasDomain s.objects
      → HasNoFaults (opened texts a entry.book).notes → StandsBefore (opened texts a entry.book).objects final
      → CountsLiterals (opened texts a entry.book).objects.enumerations (sizes_of final) (Of (EnumerationType 0)) → ScopeHolds (equation_scope final) [] [] (opened texts a entry.book).scope
      → ProcessesStand final (setting_of texts (opened texts a entry.book) a) (opened texts a entry.book).scope
  -- a quantity whose dot is named in an equation of an instance has its dot in an equation of the design, if each equation of the
  -- instance is made
  pub selectors : (r : Request) (s : Site) (e : Entity) (a : Architecture) (entry : Entry) → IsEntered texts units r s e a entry
      → HasNoFaults (body_notes texts units a entry s) → ScopeHolds (equation_scope final) [] [] (opened texts a entry.book).scope
      → All (IsMadeIn final (setting_of texts (opened texts a entry.book) a) (opened texts a entry.book).scope) a.statements
      → SelectorsFit final (setting_of texts (opened texts a entry.book) a) (opened texts a entry.book).scope
