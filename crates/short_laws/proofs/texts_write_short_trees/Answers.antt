use Rattle.short_laws.proofs.Whole.{texts_write_short_trees}
use Rattle.short_laws.proofs.texts_write_short_trees.Goals as goal

pub returns : goal.returns
returns c = texts_write_short_trees
