use Rattle.std.proofs.Common.{sym, subst}
use Rattle.unit_index.specs.Index.{is_other_next}
use Rattle.unit_index.proofs.Found.{other_found}
use Rattle.unit_index.proofs.units.Units.with_other.Goals as goal

pub invariant_of-result : goal.invariant_of-result
invariant_of-result c =
    other_found c.self.inside.all.now c.self.inside.count _ _ _ (subst is_other_next (sym c.self.view_is) c.requires) c.self.invariant
