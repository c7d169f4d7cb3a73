-- Subtypes at an instance, and the values that declarations give (IEEE 1076, 6.3 and 6.4.2).
use Rattle.std.specs.Prelude.{◌≡◌, ℕ, IsTrue, List, Option, Some}
use Rattle.ams_tree.specs.declared.expression.Expr.{Expr}
use Rattle.ams_tree.specs.declared.declaration.SubtypeIndication.{SubtypeIndication}
use Rattle.ams_value.specs.declared.val.Val.{Val}
use Rattle.flat_design.specs.declared.objects.Variable.{Variable}
use Rattle.name_scope.specs.declared.scope.Scope.{Scope}
use Rattle.name_scope.specs.declared.thing.Subtype.{Subtype}
use Rattle.elab_meaning.specs.declared.fault.Notes.{Notes}
use Rattle.elab_meaning.specs.declared.part.Part.{Part}
use Rattle.elab_meaning.specs.declared.typed.Valued.{Valued}
use Rattle.elab_meaning.specs.Kinds.{value_type}
use Rattle.elab_meaning.specs.Subtypes.{holds, subtype, initial, valued}
use Rattle.elab_meaning.specs.Declarations.{range_part, value_or_leftmost}
use Rattle.design_meaning.specs.Typed as flat
use Rattle.design_meaning.specs.Typed.{IsOfType}
use Rattle.design_rules.specs.Types.{IsDeclaredAs}
use Rattle.part_laws.specs.Parts.{OnKept, KeepsPart}
use Rattle.scope_laws.specs.Holds.{HasNoFaults, SubtypeFits, ScopeHolds}

-- a subtype and a value of it
pub record ValuedFits (sizes : List ℕ) (given : Valued) : Type 0 where
  pub subtype : SubtypeFits sizes given.subtype
  pub value : Val
  pub value_is : given.value ≡ Some value
  pub typed : IsOfType sizes subtype.kind value
  pub lies : IsTrue (holds given.subtype.constraint value)

-- at an instance a subtype that keeps the rules has bounds in the range of its type, and a value that a declaration gives, or
-- leaves to the leftmost one, is a value of its subtype
pub record SubtypesFit : Type 0 where
  pub subtypes : (objects : flat.Scope) (variables : List Variable) (parameters : List ℕ) (texts : List (List ℕ)) (scope : Scope) (i : SubtypeIndication) (n : Notes)
      → ScopeHolds objects variables parameters scope → KeepsPart Subtype HasNoFaults (SubtypeFits objects.enumerations) n (subtype texts scope i n)
  pub initials : (objects : flat.Scope) (variables : List Variable) (parameters : List ℕ) (texts : List (List ℕ)) (scope : Scope) (s : Part Subtype) (x : Option Expr) (n : Notes)
      → ScopeHolds objects variables parameters scope → OnKept (SubtypeFits objects.enumerations) s
      → KeepsPart Valued HasNoFaults (ValuedFits objects.enumerations) n (initial texts scope s x n)
  pub values : (objects : flat.Scope) (variables : List Variable) (parameters : List ℕ) (texts : List (List ℕ)) (scope : Scope) (i : SubtypeIndication) (x : Option Expr) (n : Notes)
      → ScopeHolds objects variables parameters scope → KeepsPart Valued HasNoFaults (ValuedFits objects.enumerations) n (valued texts scope i x n)
  -- an object that is declared with it is well formed
  pub declared : (sizes : List ℕ) (given : Valued) → ValuedFits sizes given
      → IsDeclaredAs sizes (value_type given.subtype.kind) (range_part given.subtype.constraint) (value_or_leftmost given.subtype given.value)
