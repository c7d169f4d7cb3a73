use Rattle.std.proofs.Common.{nat_eq, true, false, sym, ap, ◌∙◌, subst}
use Rattle.indexmap.specs.IndexMap.{get}
use Rattle.unit_index.specs.Index.{is_entity_next}
use Rattle.unit_index.proofs.Found.{new_entity, old_entity, known_as}
use Rattle.unit_index.proofs.units.Units.with_entity.Goals as goal
use Rattle.unit_index.proofs.units.Units.with_entity.Goals.{then-is_new+in_ok-insert, else-is_new}

pub invariant_of-result : goal.invariant_of-result
invariant_of-result c =
    let here = subst (λ u. is_entity_next u c.args.entity.now) (sym c.self.view_is) c.requires in
    elim c.if-is_new.branch [
      | then-is_new+in_ok-insert w ↦
          new_entity c.self.inside.all.now c.self.inside.count c.args.entity.now _ _ _ _ here
          (known_as _ c.args.self c.args.entity.now.name.number c.has_entity-is_new.result false c.self.view_is c.has_entity-is_new.ensures w.if-is_new.true)
          (λ x. ap (λ m. get nat_eq m x) w.entities-is ∙ w.in_ok-insert.ensures.updates.0 x)
          c.self.invariant
      | else-is_new w ↦
          old_entity c.self.inside.all.now c.self.inside.count c.args.entity.now _ _ _ _ here
          (known_as _ c.args.self c.args.entity.now.name.number c.has_entity-is_new.result true c.self.view_is c.has_entity-is_new.ensures w.if-is_new.false)
          (λ x. ap (λ m. get nat_eq m x) w.entities-is)
          c.self.invariant
    ]
