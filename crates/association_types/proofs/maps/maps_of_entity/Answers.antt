use Rattle.std.proofs.Common.{ℕ, List, Option, Some, subst}
use Rattle.ams_tree.specs.declared.expression.Name.{Name}
use Rattle.name_scope.specs.declared.thing.Subtype.{Subtype}
use Rattle.unit_meaning.specs.Associations.{generic_formals}
use Rattle.unit_meaning.specs.Units.{start_of}
use Rattle.association_types.specs.Maps.{FindsMaps, maps_with}
use Rattle.association_types.proofs.maps.maps_of_entity.Goals as goal

pub returns-clause-found : goal.returns-clause-found
returns-clause-found c =
    let with_formals =
    λ (generics : List (ℕ × Option Subtype)) (ports : List (ℕ × Option Name)).
    FindsMaps (maps_with c.args.names.now c.args.start.now c.args.scope.now generics ports c.args.instance.now c.args.notes.now) c.read_maps.result c.read_maps.new.notes in
    subst (with_formals (generic_formals c.args.names.now (start_of c.args.names.now) (Some c.args.entity.now))) c.in_ok-ports.ensures
    (subst (λ generics. with_formals generics c.in_ok-ports.ports) c.in_ok-generics.ensures c.read_maps.ensures.found)
