-- Scopes whose names stand for what a flat design has.
use Rattle.std.specs.Prelude.{◌≡◌, ℕ, List, [], IfSome}
use Rattle.ams_value.specs.declared.value_type.ValueType.{ValueType}
use Rattle.ams_value.specs.declared.value_type.ValueType.TheVariants.{BitVector}
use Rattle.flat_design.specs.declared.objects.Variable.{Variable}
use Rattle.flat_design.specs.declared.objects.Signal.{Signal}
use Rattle.flat_design.specs.declared.objects.Quantity.{Quantity}
use Rattle.flat_design.specs.declared.objects.Node.{Node}
use Rattle.flat_design.specs.declared.objects.Enumeration.{Enumeration}
use Rattle.flat_design.specs.declared.objects.Objects.{Objects}
use Rattle.name_scope.specs.declared.thing.Kind.TheVariants.{Of}
use Rattle.name_scope.specs.declared.thing.Subtype.{Subtype}
use Rattle.name_scope.specs.declared.thing.SubtypeConstraint.{SubtypeConstraint}
use Rattle.name_scope.specs.declared.thing.SubtypeConstraint.TheVariants as constraint
use Rattle.name_scope.specs.declared.thing.Thing.{Thing}
use Rattle.name_scope.specs.declared.thing.Thing.TheVariants as thing
use Rattle.name_scope.specs.declared.scope.Scope.{Scope}
use Rattle.name_scope.specs.Scopes.{lookup}
use Rattle.elab_meaning.specs.declared.fault.Notes.{Notes}
use Rattle.elab_meaning.specs.Declarations.{range_part}
use Rattle.design_meaning.specs.Typed as flat
use Rattle.design_rules.specs.Types.{FitsType, IsDeclared, IsVisible}
use Rattle.reading_laws.specs.Growing.{Extends}
use Rattle.typed_laws.specs.Fitting.{ScopeFits}
use Rattle.initial_laws.specs.Initial.{HasValues}

-- no rule is broken so far
abbrev pub HasNoFaults : Notes → Type 0
HasNoFaults n = n.faults ≡ []

-- a vector has the range of its index
abbrev pub IsIndexed : ValueType → SubtypeConstraint → Type 0
IsIndexed (BitVector n) (constraint.Index r) = Unit {0}
IsIndexed (BitVector n) c = ⊥
IsIndexed k c = Unit {0}

-- a subtype of a known type that has values, its bounds in the range of the type
pub record SubtypeFits (sizes : List ℕ) (s : Subtype) : Type 0 where
  pub kind : ValueType
  pub kind_is : s.kind ≡ Of kind
  pub range : FitsType sizes kind (range_part s.constraint)
  pub values : HasValues sizes kind
  pub indexed : IsIndexed kind s.constraint

-- what is asked of a name's thing beside FitsThing: its subtype fits; a variable is one that the process declares
abbrev pub AlsoFits : List ℕ → List Variable → Thing → Type 0
AlsoFits sizes variables (thing.Type s f) = SubtypeFits sizes s
AlsoFits sizes variables (thing.Constant s v) = SubtypeFits sizes s
AlsoFits sizes variables (thing.Signal i s a) = SubtypeFits sizes s
AlsoFits sizes variables (thing.Variable i s) = SubtypeFits sizes s × IsDeclared variables i
AlsoFits sizes variables t = Unit {0}

-- a scope at an instance, for a flat design with these objects, in a process with these variables, in loops with these parameters
pub record ScopeHolds (objects : flat.Scope) (variables : List Variable) (parameters : List ℕ) (scope : Scope) : Type 0 where
  pub fits : ScopeFits objects (IsVisible variables parameters) scope
  pub also : (name : ℕ) → IfSome (lookup scope name) (AlsoFits objects.enumerations variables)

-- the lists of a flat design so far stand at the front of those of the final one
pub record StandsBefore (early final : Objects) : Type 0 where
  pub enumerations : Extends Enumeration early.enumerations final.enumerations
  pub signals : Extends Signal early.signals final.signals
  pub quantities : Extends Quantity early.quantities final.quantities
  pub nodes : Extends Node early.nodes final.nodes
