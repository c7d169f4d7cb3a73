-- Formals as pairs of a name's number and what an association needs to know.
use Rattle.std.specs.Prelude.{ℕ, List, map, Option, Some, None}
use Rattle.std.specs.List.{slice_get}
use Rattle.ams_tree.specs.declared.expression.Name.{Name}
use Rattle.ams_tree.specs.declared.declaration.Port.{Port}
use Rattle.ams_tree.specs.declared.declaration.Port.TheVariants as port
use Rattle.name_scope.specs.declared.thing.Subtype.{Subtype}
use Rattle.formal_lists.specs.declared.generics.GenericFormal.{GenericFormal}
use Rattle.formal_lists.specs.declared.ports.PortFormal.{PortFormal}

abbrev pub generic_pair : GenericFormal → ℕ × Option Subtype
generic_pair e = (e.name, e.subtype)

abbrev pub port_pair : PortFormal → ℕ × Option Name
port_pair e = (e.name, e.nature)

-- the second part of a pair at a place
abbrev pub second : {A : Type 0} → Option (ℕ × A) → Option A
second (Some entry) = Some entry.1
second None = None

abbrev pub second_at : {A : Type 0} → List (ℕ × A) → ℕ → Option A
second_at all j = second (slice_get all j)

abbrev pub generic_of : Option Subtype → Name → GenericFormal
generic_of s x = record { name = x.number; subtype = s }

abbrev pub port_of : Option Name → Name → PortFormal
port_of m x = record { name = x.number; nature = m }

abbrev pub ports_of : Port → List PortFormal
ports_of (port.Signal place names mode i x) = map (port_of None) names
ports_of (port.Terminal place names m) = map (port_of (Some m)) names
ports_of (port.Quantity place names mode i) = map (port_of None) names
