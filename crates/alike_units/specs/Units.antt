-- What the check of a file without faults has read.
use Rattle.std.specs.Prelude.{◌≡◌, ◌<◌, ℕ, Bool, IsTrue, List, [], Option, Some, None}
use Rattle.std.specs.List.{fold}
use Rattle.ams_tree.specs.declared.concurrent.Concurrent.{Concurrent}
use Rattle.ams_tree.specs.declared.design.Architecture.{Architecture}
use Rattle.ams_tree.specs.declared.design.DesignUnit.{DesignUnit}
use Rattle.ams_tree.specs.declared.design.Entity.{Entity}
use Rattle.name_scope.specs.declared.scope.Scope.{Scope}
use Rattle.elab_meaning.specs.declared.book.Book.{Book}
use Rattle.unit_meaning.specs.Settings.{Setting}
use Rattle.unit_meaning.specs.Interfaces.{interface}
use Rattle.unit_meaning.specs.Associations.{entity_in, architecture_in}
use Rattle.unit_meaning.specs.Units.{start_of, judged_statement, body_checked, file_faults, type_fault, nature_fault}
use Rattle.alike_laws.specs.Alike.{HasNoFaults, ReadingsFollow}
use Rattle.alike_books.specs.Books.{PartsFollow, DeclarationsFollow}
use Rattle.alike_parts.specs.Follows.{BothRead, ReadsFollow}
use Rattle.alike_maps.specs.Maps.{IsOutside, NaturesStand}

-- an entity that breaks no rule, in the scope of the predefined names
pub record EntityIsClean (texts : List (List ℕ)) (e : Entity) : Type 0 where
  pub book : Book
  pub scope : book.scope ≡ start_of texts
  pub some : 0 < book.natures
  pub clean : HasNoFaults (interface texts e book).notes

-- an architecture that breaks no rule, behind the interface of this entity
pub record ArchitectureIsClean (texts : List (List ℕ)) (units : List DesignUnit) (e : Entity) (a : Architecture) : Type 0 where
  pub book : Book
  pub scope : book.scope ≡ start_of texts
  pub some : 0 < book.natures
  pub clean : HasNoFaults (body_checked texts units a (interface texts e book)).notes

pub record UnitsAreClean (texts : List (List ℕ)) (units : List DesignUnit) : Type 0 where
  pub entities : (x : ℕ) (e : Entity) → entity_in units x ≡ Some e → EntityIsClean texts e
  pub natures : (x : ℕ) (e : Entity) → entity_in units x ≡ Some e → NaturesStand (start_of texts) e.ports
  pub architectures : (x : ℕ) (y : Option ℕ) (e : Entity) (a : Architecture) → entity_in units x ≡ Some e → architecture_in units x y ≡ Some a
      → ArchitectureIsClean texts units e a

-- the statements of an architecture, instances among them
abbrev pub AllStatementsFollow : Type 0
AllStatementsFollow =
    (G : Bool) (natures : List ℕ) (v w : Setting) (c i : Scope) → BothRead (IsTrue G) natures v w c i → PartsFollow
    → (start : Scope) → IsOutside start → (units : List DesignUnit) (all : List Concurrent)
    → ReadsFollow (IsTrue G) (λ n. fold (judged_statement v start units c) n all) (λ n. fold (judged_statement w start units i) n all)

pub record UnitsFollow : Type 0 where
  pub statements : AllStatementsFollow
  -- outside of all units stands one nature
  pub outside : (texts : List (List ℕ)) → IsOutside (start_of texts)
  -- a fault is one that the check of types answers, or one that the check of natures does
  pub none : (texts : List (List ℕ)) (units : List DesignUnit) → type_fault texts units ≡ None → nature_fault texts units ≡ None → file_faults texts units ≡ []
  -- each unit of a file without faults has none
  pub clean : ReadingsFollow → PartsFollow → DeclarationsFollow → (texts : List (List ℕ)) (units : List DesignUnit) → file_faults texts units ≡ [] → UnitsAreClean texts units
