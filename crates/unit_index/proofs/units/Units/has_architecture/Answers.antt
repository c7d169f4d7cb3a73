use Rattle.std.proofs.Common.{◌∙◌}
use Rattle.unit_index.specs.Index.{known}
use Rattle.unit_index.proofs.Found.{has_architecture}
use Rattle.unit_index.proofs.units.Units.has_architecture.Goals as goal

pub returns : goal.returns
returns c = c.is_some.ensures ∙ has_architecture (known c.args.self.now) c.args.entity c.args.name c.named_architecture.result c.named_architecture.ensures
