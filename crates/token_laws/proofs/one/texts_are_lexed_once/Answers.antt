use Rattle.token_laws.proofs.OnceLaws.{lexes_once}
use Rattle.token_laws.proofs.one.texts_are_lexed_once.Goals as goal

pub returns : goal.returns
returns c = lexes_once c.has_one_cut.ensures
