use Rattle.std.proofs.Common.{◌∙◌}
use Rattle.unit_index.specs.Index.{known}
use Rattle.unit_index.proofs.Found.{has_entity}
use Rattle.unit_index.proofs.units.Units.has_entity.Goals as goal

pub returns : goal.returns
returns c = c.is_some.ensures ∙ has_entity (known c.args.self.now) c.args.name c.entity.result c.entity.ensures
