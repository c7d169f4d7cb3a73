-- Generics and ports as the check of types sees them (IEEE 1076, 6.5.2, 6.5.3 and 6.5.6; quantity and terminal ports: IEEE 1076.1).
use Rattle.std.specs.Prelude.{ℕ, Bool, true, false, List, [], ◌∷◌, ◌++◌, map, pos, ℤ, Option, Some, None}
use Rattle.std.specs.List.{fold}
use Rattle.ams_token.specs.declared.token.Place.{Place}
use Rattle.ams_tree.specs.declared.expression.Name.{Name}
use Rattle.ams_tree.specs.declared.expression.Expr.{Expr}
use Rattle.ams_tree.specs.declared.declaration.Generic.{Generic}
use Rattle.ams_tree.specs.declared.declaration.Mode.{Mode}
use Rattle.ams_tree.specs.declared.declaration.Mode.TheVariants.{In, Out}
use Rattle.ams_tree.specs.declared.declaration.Port.{Port}
use Rattle.ams_tree.specs.declared.declaration.Port.TheVariants as port
use Rattle.ams_tree.specs.declared.declaration.SubtypeIndication.{SubtypeIndication}
use Rattle.ams_tree.specs.declared.design.Entity.{Entity}
use Rattle.flat_design.specs.declared.objects.QuantityKind.TheVariants as flat
use Rattle.name_scope.specs.declared.thing.Access.{Access}
use Rattle.name_scope.specs.declared.thing.Access.TheVariants.{ReadOnly, Assignable}
use Rattle.name_scope.specs.declared.thing.QuantityClass.{QuantityClass}
use Rattle.name_scope.specs.declared.thing.QuantityClass.TheVariants as class
use Rattle.name_scope.specs.declared.thing.Subtype.{Subtype}
use Rattle.name_scope.specs.declared.thing.Thing.TheVariants as thing
use Rattle.name_scope.specs.declared.scope.Scope.{Scope}
use Rattle.elab_meaning.specs.declared.book.Book.{Book}
use Rattle.elab_meaning.specs.declared.fault.Notes.{Notes}
use Rattle.elab_meaning.specs.declared.part.Part.{Part}
use Rattle.elab_meaning.specs.declared.part.Part.TheVariants.{Kept, Wrong, Hidden}
use Rattle.elab_meaning.specs.declared.typed.Valued.{Valued}
use Rattle.elab_meaning.specs.Parts.{judged}
use Rattle.elab_meaning.specs.Subtypes.{subtype, valued}
use Rattle.elab_meaning.specs.Declarations.{declared, declaring_each, signal_of, node, nature_named, quantity_of, free_of}
use Rattle.unit_meaning.specs.Cases.{no_place}

-- the place of the first token of a declaration of generics or ports
abbrev pub first_place : Option Place → List Name → Place
first_place (Some place) names = place
first_place None [] = no_place
first_place None (x ∷ names) = x.place

-- the subtype of a generic, and its default where one is written
abbrev pub unvalued : Subtype → Part Valued
unvalued s = Kept (record { subtype = s; value = None })

abbrev pub generic_default : List (List ℕ) → Scope → SubtypeIndication → Option Expr → Notes → Notes × Part Valued
generic_default texts scope i None n =
    let s = subtype texts scope i n in
    (s.0, judged unvalued s.1)
generic_default texts scope i (Some x) n = valued texts scope i (Some x) n

-- its value isn't known here
abbrev pub generic_name : Valued → Name → Book → Book
generic_name v x b = declared (thing.Constant v.subtype None) x b

abbrev pub generic : List (List ℕ) → Book → Generic → Book
generic texts b g = declaring_each generic_name (first_place g.constant g.names) g.names (generic_default texts b.scope g.indication g.default b.notes) b

-- a port without a mode is of mode in
abbrev pub is_out : Option Mode → Bool
is_out (Some Out) = true
is_out _ = false

abbrev pub access_of : Option Mode → Access
access_of (Some Out) = Assignable
access_of _ = ReadOnly

abbrev pub class_of : Option Mode → QuantityClass
class_of (Some Out) = class.PortOut
class_of _ = class.PortIn

-- a quantity port is REAL
abbrev pub quantity_subtype : List (List ℕ) → SubtypeIndication → Book → Notes × Part Subtype
quantity_subtype texts i b =
    let s = subtype texts b.scope i b.notes in
    (s.0, judged free_of s.1)

abbrev pub quantity_port : List (List ℕ) → QuantityClass → Subtype → Name → Book → Book
quantity_port texts c s x b = quantity_of texts flat.Free c (pos 0) x b

abbrev pub port_declaration : List (List ℕ) → Book → Port → Book
port_declaration texts b (port.Signal place names mode i x) =
    declaring_each (signal_of texts (access_of mode)) (first_place place names) names (valued texts b.scope i x b.notes) b
port_declaration texts b (port.Terminal place names m) = declaring_each (node texts) place names (nature_named m b) b
port_declaration texts b (port.Quantity place names mode i) = declaring_each (quantity_port texts (class_of mode)) place names (quantity_subtype texts i b) b

abbrev pub interface : List (List ℕ) → Entity → Book → Book
interface texts e b = fold (port_declaration texts) (fold (generic texts) b e.generics) e.ports
