-- The maps of an instance by the formals of its entity.
use Rattle.std.specs.Prelude.{◌≡◌, ℕ, List, Option, Result, Ok, Err}
use Rattle.std.specs.declared.alloc.AllocError.{AllocError}
use Rattle.ams_tree.specs.declared.expression.Name.{Name}
use Rattle.ams_tree.specs.declared.concurrent.Instance.{Instance}
use Rattle.ams_tree.specs.declared.design.Entity.{Entity}
use Rattle.name_scope.specs.declared.thing.Subtype.{Subtype}
use Rattle.name_scope.specs.declared.scope.Scope.{Scope}
use Rattle.elab_meaning.specs.declared.fault.Notes.{Notes}
use Rattle.unit_meaning.specs.declared.request.Assigned.{Assigned}
use Rattle.unit_meaning.specs.Associations.{associations, generic_formals, port_formals, list_or}
use Rattle.association_types.specs.declared.maps.InstanceMaps.{InstanceMaps}
use Rattle.association_types.specs.Rules.{generic_rule, port_rule}

abbrev pub maps_with : List (List ℕ) → Scope → Scope → List (ℕ × Option Subtype) → List (ℕ × Option Name) → Instance → Notes → Notes × (List Assigned × List Assigned)
maps_with texts start scope generics ports i n =
    let first = associations (generic_rule texts scope) generics 0 (list_or i.generics) n in
    let second = associations (port_rule texts start scope) ports 0 (list_or i.ports) first.0 in
    (second.0, (first.1, second.1))

-- the formals are read in one scope round each unit, and natures are looked up in another one that is equal
abbrev pub maps_of : List (List ℕ) → Scope → Scope → Scope → Option Entity → Instance → Notes → Notes × (List Assigned × List Assigned)
maps_of texts first start scope e i n = maps_with texts start scope (generic_formals texts first e) (port_formals e) i n

-- what a call that reads an instance has answered, and the notes behind it: this, unless memory ran out
abbrev pub FindsMaps : Notes × (List Assigned × List Assigned) → Result InstanceMaps AllocError → Notes → Type 0
FindsMaps found (Ok maps) notes = (notes ≡ found.0) × ((maps.generics ≡ found.1.0) × (maps.ports ≡ found.1.1))
FindsMaps found (Err e) notes = Unit {0}
