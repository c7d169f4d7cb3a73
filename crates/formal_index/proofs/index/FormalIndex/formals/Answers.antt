use Rattle.std.proofs.Common.{nat_eq, IfSome, subst}
use Rattle.indexmap.specs.IndexMap.{get}
use Rattle.unit_meaning.specs.Associations.{entity_in}
use Rattle.unit_index.specs.Index.{known}
use Rattle.formal_index.specs.Formals.{File, IsOf}
use Rattle.formal_index.proofs.Kept.{found}
use Rattle.formal_index.proofs.index.FormalIndex.formals.Goals as goal

pub returns : goal.returns
returns c =
    subst (λ (f : File). IfSome c.get.result (λ formals. IsOf f.texts (entity_in f.units c.args.name) formals.now)) c.self.view_is
    (found c.self.inside.names.now (known c.self.inside.units.now) (λ x. get nat_eq c.self.inside.formals x) c.args.name c.get.result c.get.ensures.value c.self.invariant)
