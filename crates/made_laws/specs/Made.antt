-- Processes that are made at an instance.
use Rattle.std.specs.Prelude.{◌≡◌, ℕ, Bool, List, [], Option, Some, IfSome}
use Rattle.ams_token.specs.declared.token.Place.{Place}
use Rattle.ams_tree.specs.declared.concurrent.Process.{Process as Written}
use Rattle.ams_tree.specs.declared.declaration.SubtypeIndication.{SubtypeIndication}
use Rattle.ams_tree.specs.declared.expression.Expr.{Expr}
use Rattle.ams_tree.specs.declared.expression.Name.{Name}
use Rattle.ams_tree.specs.declared.sequential.Assertion.{Assertion}
use Rattle.ams_tree.specs.declared.sequential.BreakElement.{BreakElement}
use Rattle.ams_value.specs.declared.val.Val.{Val}
use Rattle.flat_design.specs.declared.objects.Objects.{Objects}
use Rattle.flat_design.specs.declared.objects.Process.{Process}
use Rattle.name_scope.specs.declared.scope.Scope.{Scope}
use Rattle.name_scope.specs.declared.thing.Thing.{Thing}
use Rattle.name_scope.specs.declared.thing.Thing.TheVariants as thing
use Rattle.name_scope.specs.Scopes.{lookup}
use Rattle.elab_meaning.specs.declared.fault.Notes.{Notes}
use Rattle.elab_meaning.specs.declared.typed.Valued.{Valued}
use Rattle.elab_meaning.specs.Declarations.{range_part, value_or_leftmost, constant_of}
use Rattle.elab_meaning.specs.Kinds.{value_type}
use Rattle.elab_meaning.specs.Subtypes.{valued}
use Rattle.unit_meaning.specs.Settings.{Setting}
use Rattle.unit_meaning.specs.Processes.{process, concurrent_assertion, concurrent_break}
use Rattle.design_meaning.specs.Typed.{IsOfType}
use Rattle.design_rules.specs.Types.{sizes_of, equation_scope, IsDeclaredAs}
use Rattle.design_rules.specs.Design.{IsProcess}
use Rattle.reading_laws.specs.Growing.{Grows}
use Rattle.typed_laws.specs.Fitting.{HasRoom}
use Rattle.part_laws.specs.Parts.{OnKept}
use Rattle.scope_laws.specs.Holds.{HasNoFaults, SubtypeFits, ScopeHolds}
use Rattle.written_laws.specs.Written.{AreWritten}
use Rattle.allowed_laws.specs.Simple.{HasTexts, SelectorsFit}
use Rattle.body_laws.specs.Bodies.{Keeps, ScopeStands, CasesFit}

-- what a declaration of a process gives: a subtype of the design with a value of it, and names that keep the further rule
pub record DeclaredFits (objects : Objects) (Also : Thing → Bool) (v : Valued) : Type 0 where
  pub subtype : SubtypeFits (sizes_of objects) v.subtype
  pub value : Val
  pub value_is : v.value ≡ Some value
  pub typed : IsOfType (sizes_of objects) subtype.kind value
  pub declared : IsDeclaredAs (sizes_of objects) (value_type v.subtype.kind) (range_part v.subtype.constraint) (value_or_leftmost v.subtype v.value)
  pub variables : (i : ℕ) → Keeps Also (thing.Variable i v.subtype)
  pub constants : Keeps Also (constant_of v)

-- reading a subtype with a value only adds to the notes, and gives such where no rule is broken
pub record ValuesFit (objects : Objects) (w : Setting) (Also : Thing → Bool) : Type 0 where
  pub grows : (scope : Scope) (i : SubtypeIndication) (x : Option Expr) (n : Notes) → Grows n (valued w.texts scope i x n).0
  pub fits : (p : Process) (scope : Scope) (i : SubtypeIndication) (x : Option Expr) (n : Notes)
      → ScopeStands objects p [] w Also scope → HasNoFaults (valued w.texts scope i x n).0 → OnKept (DeclaredFits objects Also) (valued w.texts scope i x n).1

-- the scope of an architecture at an instance, and what its statements are read with
pub record ArchitectureStands (objects : Objects) (w : Setting) (Also : Thing → Bool) (scope : Scope) : Type 0 where
  pub holds : ScopeHolds (equation_scope objects) [] [] scope
  pub selectors : SelectorsFit objects w scope
  pub also : (x : ℕ) → IfSome (lookup scope x) (Keeps Also)
  pub texts : HasTexts w
  pub cases : (p : Process) → CasesFit objects p w Also
  pub values : ValuesFit objects w Also
  pub parameters : (i : ℕ) → Keeps Also (thing.Parameter i)
  pub faulty : Keeps Also thing.Faulty

-- a process that is kept is well formed, where no rule is broken and the design has room for what is noted
pub record ProcessesAreMade : Type 0 where
  pub processes : (objects : Objects) (w : Setting) (Also : Thing → Bool) (scope : Scope) (label : Option Name) (p : Written) (n : Notes)
      → ArchitectureStands objects w Also scope → AreWritten p.body → HasNoFaults (process w scope label p n).0 → HasRoom (equation_scope objects) (process w scope label p n).0
      → OnKept (IsProcess objects) (process w scope label p n).1
  pub assertions : (objects : Objects) (w : Setting) (scope : Scope) (a : Assertion) (n : Notes)
      → ScopeHolds (equation_scope objects) [] [] scope → HasTexts w → HasRoom (equation_scope objects) (concurrent_assertion w scope a n).0
      → OnKept (IsProcess objects) (concurrent_assertion w scope a n).1
  pub breaks : (objects : Objects) (w : Setting) (scope : Scope) (place : Place) (elements : List BreakElement) (names : List Expr) (when : Option Expr) (n : Notes)
      → ScopeHolds (equation_scope objects) [] [] scope → SelectorsFit objects w scope → HasRoom (equation_scope objects) (concurrent_break w scope place elements names when n).0
      → OnKept (IsProcess objects) (concurrent_break w scope place elements names when n).1
