-- Generics whose subtype is read once, for the formals and for their own declaration.
use Rattle.std.specs.Prelude.{ℕ, List, [], ◌∷◌, ◌++◌, map, Option, Some, None}
use Rattle.ams_tree.specs.declared.expression.Expr.{Expr}
use Rattle.ams_tree.specs.declared.declaration.Generic.{Generic}
use Rattle.name_scope.specs.declared.thing.Subtype.{Subtype}
use Rattle.name_scope.specs.declared.scope.Scope.{Scope}
use Rattle.elab_meaning.specs.declared.book.Book.{Book}
use Rattle.elab_meaning.specs.declared.fault.Notes.{Notes}
use Rattle.elab_meaning.specs.declared.part.Part.{Part}
use Rattle.elab_meaning.specs.declared.typed.Valued.{Valued}
use Rattle.elab_meaning.specs.Parts.{kept, judged}
use Rattle.elab_meaning.specs.Subtypes.{subtype, initial}
use Rattle.elab_meaning.specs.Declarations.{declaring_each}
use Rattle.unit_meaning.specs.Interfaces.{generic, generic_name, unvalued, first_place}
use Rattle.formal_lists.specs.declared.generics.GenericFormal.{GenericFormal}
use Rattle.formal_lists.specs.Pairs.{generic_of}

abbrev pub default_behind : List (List ℕ) → Scope → Part Subtype → Option Expr → Notes → Notes × Part Valued
default_behind texts scope s None n = (n, judged unvalued s)
default_behind texts scope s (Some x) n = initial texts scope s (Some x) n

-- a declaration of generics behind its subtype
abbrev pub generic_behind : List (List ℕ) → Part Subtype → Generic → Book → Book
generic_behind texts s g b = declaring_each generic_name (first_place g.constant g.names) g.names (default_behind texts b.scope s g.default b.notes) b

abbrev pub generics_of : Generic → Part Subtype → List GenericFormal
generics_of g s = map (generic_of (kept s)) g.names

-- what is read of generics
abbrev pub formals_from : List (List ℕ) → Book → List Generic → List GenericFormal
formals_from texts b [] = []
formals_from texts b (g ∷ more) = generics_of g (subtype texts b.scope g.indication b.notes).1 ++ formals_from texts (generic texts b g) more
