use Rattle.text_designs.proofs.Accepted.{texts_give_designs}
use Rattle.text_designs.proofs.designs.texts_give_designs.Goals as goal

pub returns : goal.returns
returns c = texts_give_designs c.accepted_are_designs.ensures
