use Rattle.alike_books.proofs.Whole.{parts_follow}
use Rattle.alike_books.proofs.parts_follow.Goals as goal

pub returns : goal.returns
returns c = parts_follow
