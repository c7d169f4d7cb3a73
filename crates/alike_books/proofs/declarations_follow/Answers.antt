use Rattle.alike_books.proofs.Whole.{declarations_follow}
use Rattle.alike_books.proofs.declarations_follow.Goals as goal

pub returns : goal.returns
returns c = declarations_follow
