use Rattle.written_laws.proofs.Files.{texts_write_trees}
use Rattle.written_laws.proofs.texts_write_trees.Goals as goal

pub returns : goal.returns
returns c = texts_write_trees
