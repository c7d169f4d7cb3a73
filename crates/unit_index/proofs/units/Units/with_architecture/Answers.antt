use Rattle.std.proofs.Common.{sym, subst}
use Rattle.unit_index.specs.Index.{is_architecture_next}
use Rattle.unit_index.proofs.Found.{new_architecture}
use Rattle.unit_index.proofs.units.Units.with_architecture.Goals as goal

pub invariant_of-result : goal.invariant_of-result
invariant_of-result c =
    new_architecture c.self.inside.all.now c.self.inside.count c.args.architecture.now _ _ _ _ _
    (subst (λ u. is_architecture_next u c.args.architecture.now) (sym c.self.view_is) c.requires)
    c.in_ok-insert.ensures.updates.0
    (λ x y. c.in_ok-insert-2.ensures.updates.0 (x, y))
    c.self.invariant
