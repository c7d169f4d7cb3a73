-- What is read so far of a unit at an instance, for the flat design that it becomes a part of.
use Rattle.std.specs.Prelude.{◌≡◌, ◌<◌, ◌≤◌, ℕ, List, [], length}
use Rattle.std.specs.List.{All}
use Rattle.ams_tree.specs.declared.declaration.Declaration.{Declaration}
use Rattle.ams_tree.specs.declared.declaration.Declaration.TheVariants as declare
use Rattle.ams_tree.specs.declared.concurrent.Concurrent.{Concurrent}
use Rattle.ams_tree.specs.declared.design.Architecture.{Architecture}
use Rattle.flat_design.specs.declared.objects.Objects.{Objects}
use Rattle.elab_meaning.specs.declared.book.Book.{Book}
use Rattle.elab_meaning.specs.Declarations.{declaration, declarations}
use Rattle.unit_meaning.specs.Units.{labels, opened}
use Rattle.design_rules.specs.Types.{equation_scope}
use Rattle.design_rules.specs.Design.{IsSignal, IsQuantity, IsEnumeration, enumeration_limit}
use Rattle.reading_laws.specs.Growing.{Grows}
use Rattle.scope_laws.specs.Holds.{HasNoFaults, ScopeHolds, StandsBefore}

-- the objects so far are well formed in the final design
pub record ObjectsHold (final early : Objects) : Type 0 where
  pub signals : All (IsSignal final) early.signals
  pub quantities : All (IsQuantity final) early.quantities
  pub enumerations : All IsEnumeration early.enumerations
  pub enumeration_count : length early.enumerations ≤ enumeration_limit

-- the names so far stand for things of the final design, and the objects so far are well formed in it
pub record BookHolds (final : Objects) (b : Book) : Type 0 where
  pub scope : ScopeHolds (equation_scope final) [] [] b.scope
  pub objects : ObjectsHold final b.objects

-- of the objects a declaration adds only signals, quantities, nodes and enumeration types
pub record LeavesRest (old new : Objects) : Type 0 where
  pub equations : new.equations ≡ old.equations
  pub dots : new.dots ≡ old.dots
  pub thresholds : new.thresholds ≡ old.thresholds
  pub processes : new.processes ≡ old.processes
  pub instances : new.instances ≡ old.instances
  pub ramps : new.ramps ≡ old.ramps

-- notes and objects are only added to. Where no rule is broken, what is read is right for the final design, if it was before
pub record KeepsBook (final : Objects) (old new : Book) : Type 0 where
  pub grows : Grows old.notes new.notes
  pub stands : StandsBefore old.objects new.objects
  pub leaves : LeavesRest old.objects new.objects
  pub right : HasNoFaults new.notes → StandsBefore new.objects final → BookHolds final old → BookHolds final new

-- an enumeration type has a literal
abbrev pub HasLiterals : Declaration → Type 0
HasLiterals (declare.Enumeration place name literals) = 0 < length literals
HasLiterals d = Unit {0}

pub record DeclarationsHold : Type 0 where
  pub one : (final : Objects) (texts : List (List ℕ)) (d : Declaration) (b : Book) → HasLiterals d → KeepsBook final b (declaration texts b d)
  pub all : (final : Objects) (texts : List (List ℕ)) (ds : List Declaration) (b : Book) → All HasLiterals ds → KeepsBook final b (declarations texts ds b)
  pub labels : (final : Objects) (cs : List Concurrent) (b : Book) → KeepsBook final b (labels cs b)
  -- the declarations of an architecture, and the labels of its statements
  pub body : (final : Objects) (texts : List (List ℕ)) (a : Architecture) (b : Book) → All HasLiterals a.declarations → KeepsBook final b (opened texts a b)
