-- Instances and their associations, read where they stand (IEEE 1076, 6.5.7 and 11.7).
use Rattle.std.specs.Prelude.{ℕ, ◌+◌, nat_eq, Bool, true, false, not, ◌&&◌, if◌then◌else◌, List, [], ◌∷◌, ◌++◌, map, Option, Some, None}
use Rattle.std.specs.List.{fold, slice_get, flat_map}
use Rattle.std.specs.Map.{lookup as entry_of}
use Rattle.ams_token.specs.declared.token.Place.{Place}
use Rattle.ams_tree.specs.declared.expression.Name.{Name}
use Rattle.ams_tree.specs.declared.expression.Attribute.{Attribute}
use Rattle.ams_tree.specs.declared.expression.Expr.{Expr, out-Expr}
use Rattle.ams_tree.specs.declared.expression.Attribute.TheOpen.{Expr-F}
use Rattle.ams_tree.specs.declared.declaration.Generic.{Generic}
use Rattle.ams_tree.specs.declared.declaration.Port.{Port}
use Rattle.ams_tree.specs.declared.declaration.Port.TheVariants as port
use Rattle.ams_tree.specs.declared.concurrent.Association.{Association}
use Rattle.ams_tree.specs.declared.concurrent.Association.TheVariants as association
use Rattle.ams_tree.specs.declared.concurrent.Instance.{Instance}
use Rattle.ams_tree.specs.declared.design.DesignUnit.{DesignUnit}
use Rattle.ams_tree.specs.declared.design.DesignUnit.TheVariants as unit
use Rattle.ams_tree.specs.declared.design.Entity.{Entity}
use Rattle.ams_tree.specs.declared.design.Architecture.{Architecture}
use Rattle.flat_design.specs.Lists.{no_objects}
use Rattle.name_scope.specs.declared.thing.Subtype.{Subtype}
use Rattle.name_scope.specs.declared.thing.Thing.{Thing}
use Rattle.name_scope.specs.declared.thing.Thing.TheVariants as thing
use Rattle.name_scope.specs.declared.scope.Scope.{Scope}
use Rattle.name_scope.specs.Scopes.{lookup}
use Rattle.elab_meaning.specs.declared.book.Book.{Book}
use Rattle.elab_meaning.specs.declared.fault.Cause.TheVariants.{NatureMismatch}
use Rattle.elab_meaning.specs.declared.fault.Notes.{Notes}
use Rattle.elab_meaning.specs.declared.part.Part.{Part}
use Rattle.elab_meaning.specs.declared.part.Part.TheVariants.{Kept, Wrong, Hidden}
use Rattle.elab_meaning.specs.declared.typed.Asked.{Asked}
use Rattle.elab_meaning.specs.declared.typed.Typed.{Typed}
use Rattle.elab_meaning.specs.Notes.{noted, no_notes}
use Rattle.elab_meaning.specs.Kinds.{same_kind}
use Rattle.elab_meaning.specs.Parts.{part_of, kept, judged, found_thing}
use Rattle.elab_meaning.specs.Expressions.{expression, static}
use Rattle.elab_meaning.specs.Subtypes.{declaring, subtype, holds_known}
use Rattle.unit_meaning.specs.declared.request.Actual.{Actual}
use Rattle.unit_meaning.specs.declared.request.Actual.TheVariants as actual
use Rattle.unit_meaning.specs.declared.request.Assigned.{Assigned}
use Rattle.unit_meaning.specs.Settings.{Setting, running, finished}
use Rattle.unit_meaning.specs.Cases.{place_of}
use Rattle.unit_meaning.specs.Interfaces.{generic}

-- ---- units by name

abbrev pub entity_in : List DesignUnit → ℕ → Option Entity
entity_in [] x = None
entity_in (unit.Entity e ∷ more) x = if nat_eq e.name.number x then Some e else entity_in more x
entity_in (u ∷ more) x = entity_in more x

-- of this entity, and of this name where one is asked
abbrev pub is_asked : Architecture → ℕ → Option ℕ → Bool
is_asked a x None = nat_eq a.entity.number x
is_asked a x (Some y) = nat_eq a.entity.number x && nat_eq a.name.number y

abbrev pub or_this : Option Architecture → Architecture → ℕ → Option ℕ → Option Architecture
or_this (Some later) a x y = Some later
or_this None a x y = if is_asked a x y then Some a else None

-- the last one in the text
abbrev pub architecture_in : List DesignUnit → ℕ → Option ℕ → Option Architecture
architecture_in [] x y = None
architecture_in (unit.Architecture a ∷ more) x y = or_this (architecture_in more x y) a x y
architecture_in (u ∷ more) x y = architecture_in more x y

-- ---- formals

-- a formal by its name, or by the place of its association in the list
abbrev pub formal_at : {A : Type 0} → List (ℕ × A) → ℕ → Option Name → Option A
formal_at all j (Some x) = entry_of (nat_eq x.number) all
formal_at all j None = second (slice_get all j)
  where
    second : {A : Type 0} → Option (ℕ × A) → Option A
    second (Some entry) = Some entry.1
    second None = None

abbrev pub new_book : Scope → Book
new_book start = record { scope = start; notes = no_notes; objects = no_objects; path = []; natures = 1 }

-- the generics of an entity with their subtypes, as far as they are known without values
abbrev pub formal_subtypes : List (List ℕ) → Book → List Generic → List (ℕ × Option Subtype)
formal_subtypes texts b [] = []
formal_subtypes texts b (g ∷ more) =
    map (λ (x : Name). (x.number, kept (subtype texts b.scope g.indication b.notes).1)) g.names ++ formal_subtypes texts (generic texts b g) more

-- the ports of an entity, with the natures of terminals
abbrev pub port_natures : Port → List (ℕ × Option Name)
port_natures (port.Signal place names mode i x) = map (λ (x : Name). (x.number, None)) names
port_natures (port.Terminal place names m) = map (λ (x : Name). (x.number, Some m)) names
port_natures (port.Quantity place names mode i) = map (λ (x : Name). (x.number, None)) names

-- what an instance is read with beside its statement's setting: the scope round each unit, and all units
abbrev pub generic_formals : List (List ℕ) → Scope → Option Entity → List (ℕ × Option Subtype)
generic_formals texts start None = []
generic_formals texts start (Some e) = formal_subtypes texts (new_book start) e.generics

abbrev pub port_formals : Option Entity → List (ℕ × Option Name)
port_formals None = []
port_formals (Some e) = flat_map port_natures e.ports

-- ---- actuals of generics

-- a thing that has no value, which an association of generics may name by its form
abbrev pub has_no_value : Option Thing → Bool
has_no_value (Some (thing.Terminal end m)) = true
has_no_value (Some (thing.Type s f)) = true
has_no_value (Some thing.BitVector) = true
has_no_value (Some (thing.Nature m)) = true
has_no_value (Some (thing.Function f)) = true
has_no_value _ = false

-- the value belongs to the formal's subtype, where both are known
abbrev pub formal_suits : Option (Option Subtype) → Asked → Part Asked
formal_suits (Some (Some s)) a = if not (same_kind s.kind a.kind) then Kept a else (if holds_known s.constraint a.value then Kept a else Wrong)
formal_suits _ a = Kept a

abbrev pub value_of : Part Asked → Actual
value_of (Kept a) = actual.Value a.kind a.value
value_of _ = actual.Open

abbrev pub value_actual : Notes × Part Asked → Notes × Actual
value_actual found = (found.0, value_of found.1)

abbrev pub generic_value : List (List ℕ) → Scope → Option (Option Subtype) → Place → Expr → Notes → Notes × Actual
generic_value texts scope formal place x n =
    let a = static texts scope x declaring n in
    value_actual (finished place (a.0, judged (formal_suits formal) (part_of a.1)))

abbrev pub object_or : Bool → ℕ → Option Thing → Notes × Actual → Notes → Notes × Actual
object_or true x (Some t) otherwise n = (n, actual.Object x t)
object_or _ x t otherwise n = otherwise

abbrev pub generic_actual : List (List ℕ) → Scope → Option (Option Subtype) → Place → Expr → Expr-F Attribute Expr → Notes → Notes × Actual
generic_actual texts scope formal place x (Expr-F.Name y) n =
    object_or (has_no_value (lookup scope y.number)) y.number (lookup scope y.number) (generic_value texts scope formal place x n) n
generic_actual texts scope formal place x _ n = generic_value texts scope formal place x n

-- ---- actuals of ports

-- the nature of a port is one of those outside of all units
abbrev pub nature_outside : Scope → Option (Option Name) → Option Thing
nature_outside start (Some (Some m)) = lookup start m.number
nature_outside start _ = None

abbrev pub compared : Place → Option Thing → Thing → Notes → Notes
compared place (Some (thing.Nature m)) (thing.Terminal end k) n = if nat_eq m k then n else noted place NatureMismatch n
compared place _ t n = n

abbrev pub object_actual : Scope → Option (Option Name) → Name → Part Thing → Notes → Notes × Actual
object_actual start formal x (Kept t) n = (compared x.place (nature_outside start formal) t n, actual.Object x.number t)
object_actual start formal x _ n = (n, actual.Open)

abbrev pub other_actual : Option Typed → Actual
other_actual (Some x) = actual.Value x.kind None
other_actual None = actual.Open

-- a plain name, or another expression, which no port takes
abbrev pub port_actual : List (List ℕ) → Scope → Scope → Option (Option Name) → Expr → Expr-F Attribute Expr → Notes → Notes × Actual
port_actual texts start scope formal x (Expr-F.Name y) n =
    let found = found_thing y (lookup scope y.number) n in
    object_actual start formal y found.1 found.0
port_actual texts start scope formal x _ n =
    let found = expression texts scope x running n in
    (found.0, other_actual found.1)

-- ---- associations

abbrev pub number_of : Option Name → Option ℕ
number_of (Some x) = Some x.number
number_of None = None

-- the place of its first token
abbrev pub association_place : Option Name → Place → Place
association_place (Some x) place = x.place
association_place None place = place

abbrev pub assigned : Place → Option Name → Actual → Assigned
assigned place formal a = record { place = place; formal = number_of formal; actual = a }

abbrev pub associations : {A : Type 0} → (Option A → Place → Expr → Notes → Notes × Actual) → List (ℕ × A) → ℕ → List Association → Notes → Notes × List Assigned
associations rule formals j [] n = (n, [])
associations rule formals j (association.Open formal place ∷ more) n =
    let rest = associations rule formals (j + 1) more n in
    (rest.0, assigned (association_place formal place) formal actual.Open ∷ rest.1)
associations rule formals j (association.Actual formal x ∷ more) n =
    let place = association_place formal (place_of x) in
    let a = rule (formal_at formals j formal) place x n in
    let rest = associations rule formals (j + 1) more a.0 in
    (rest.0, assigned place formal a.1 ∷ rest.1)

abbrev pub list_or : Option (List Association) → List Association
list_or (Some all) = all
list_or None = []

-- the associations of an instance: those of its generics, and those of its ports
abbrev pub instance_maps : List (List ℕ) → Scope → List DesignUnit → Scope → Instance → Notes → Notes × (List Assigned × List Assigned)
instance_maps texts start units scope i n =
    let e = entity_in units i.entity.number in
    let generics = associations (λ formal place x. generic_actual texts scope formal place x (out-Expr x)) (generic_formals texts start e) 0 (list_or i.generics) n in
    let ports = associations (λ formal place x. port_actual texts start scope formal x (out-Expr x)) (port_formals e) 0 (list_or i.ports) generics.0 in
    (ports.0, (generics.1, ports.1))
