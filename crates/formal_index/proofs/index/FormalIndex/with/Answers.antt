use Rattle.std.proofs.Common.{◌≡◌, nat_eq, Some, sym, subst}
use Rattle.indexmap.specs.IndexMap.{get}
use Rattle.unit_meaning.specs.Associations.{entity_in}
use Rattle.unit_index.specs.Index.{known}
use Rattle.formal_index.specs.Formals.{File}
use Rattle.formal_index.proofs.Kept.{one_more}
use Rattle.formal_index.proofs.index.FormalIndex.with.Goals as goal

pub invariant_of-result : goal.invariant_of-result
invariant_of-result c =
    one_more c.self.inside.names.now (known c.self.inside.units.now) (λ x. get nat_eq c.self.inside.formals x) (λ x. get nat_eq c.insert.new.self x) c.args.number c.args.entity.now c.in_ok-read.read
    (subst (λ (f : File). entity_in f.units c.args.number ≡ Some c.args.entity.now) (sym c.self.view_is) c.requires)
    c.in_ok-read.ensures
    (λ x. c.in_ok-insert.ensures.updates.0 x)
    c.self.invariant
