-- What is read of a unit: by the check of types, and at an instance.
use Rattle.std.specs.Prelude.{◌≡◌, ◌<◌, ℕ, List, ◌++◌, length, Option}
use Rattle.ams_tree.specs.declared.expression.Expr.{Expr}
use Rattle.ams_tree.specs.declared.declaration.SubtypeIndication.{SubtypeIndication}
use Rattle.ams_tree.specs.declared.declaration.Declaration.{Declaration}
use Rattle.ams_tree.specs.declared.concurrent.Concurrent.{Concurrent}
use Rattle.ams_tree.specs.declared.design.Architecture.{Architecture}
use Rattle.name_scope.specs.declared.scope.Scope.{Scope}
use Rattle.name_scope.specs.declared.thing.Subtype.{Subtype}
use Rattle.elab_meaning.specs.declared.book.Book.{Book}
use Rattle.elab_meaning.specs.declared.fault.Notes.{Notes}
use Rattle.elab_meaning.specs.declared.part.Part.{Part}
use Rattle.elab_meaning.specs.declared.typed.Valued.{Valued}
use Rattle.elab_meaning.specs.Subtypes.{subtype, valued}
use Rattle.elab_meaning.specs.Declarations.{declarations}
use Rattle.unit_meaning.specs.Units.{labels, opened}
use Rattle.alike_laws.specs.Alike.{HasNoFaults, OnlyTold, Reads, IsShown, AlikeScopes}

-- their names stand for alike things, natures have their numbers, and the instance breaks no rule but such as it answers
pub record AlikeBooks (natures : List ℕ) (c i : Book) : Type 0 where
  pub scopes : AlikeScopes natures c.scope i.scope
  pub count : length natures ≡ c.natures
  pub some : 0 < length natures
  pub told : OnlyTold i.notes

-- the same, with more natures
pub record AlikeBehind (natures : List ℕ) (c i : Book) : Type 0 where
  pub more : List ℕ
  pub books : AlikeBooks (natures ++ more) c i

-- the check from c to d and an instance from i to j: where the check breaks no rule, books stay alike
pub record BooksFollow (c d i j : Book) : Type 0 where
  pub before : HasNoFaults d.notes → HasNoFaults c.notes
  pub alike : (natures : List ℕ) → HasNoFaults d.notes → AlikeBooks natures c i → AlikeBehind natures d j

-- ---- subtypes, and values that declarations give

abbrev pub SubtypesFollow : Type 0
SubtypesFollow =
    (natures : List ℕ) (a b : Scope) → AlikeScopes natures a b → (texts : List (List ℕ)) (x : SubtypeIndication) (c i : Notes)
    → Reads (Part Subtype) (Part Subtype) IsShown c (subtype texts a x c) i (subtype texts b x i)

abbrev pub ValuesFollow : Type 0
ValuesFollow =
    (natures : List ℕ) (a b : Scope) → AlikeScopes natures a b → (texts : List (List ℕ)) (x : SubtypeIndication) (y : Option Expr) (c i : Notes)
    → Reads (Part Valued) (Part Valued) IsShown c (valued texts a x y c) i (valued texts b x y i)

-- in any scope reading a value of a declaration breaks no rule only where none was broken before
abbrev pub ValuesGrow : Type 0
ValuesGrow = (texts : List (List ℕ)) (scope : Scope) (x : SubtypeIndication) (y : Option Expr) (n : Notes) → HasNoFaults (valued texts scope x y n).0 → HasNoFaults n

pub record PartsFollow : Type 0 where
  pub subtypes : SubtypesFollow
  pub values : ValuesFollow
  pub grow : ValuesGrow

-- ---- declarations

pub record DeclarationsFollow : Type 0 where
  pub all : (texts : List (List ℕ)) (ds : List Declaration) (c i : Book) → BooksFollow c (declarations texts ds c) i (declarations texts ds i)
  pub labels : (cs : List Concurrent) (c i : Book) → BooksFollow c (labels cs c) i (labels cs i)
  -- the declarations of an architecture, and the labels of its statements
  pub body : (texts : List (List ℕ)) (a : Architecture) (c i : Book) → BooksFollow c (opened texts a c) i (opened texts a i)
