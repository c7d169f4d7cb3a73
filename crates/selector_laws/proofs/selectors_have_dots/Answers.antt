use Rattle.selector_laws.proofs.Statements.{selectors_have_dots}
use Rattle.selector_laws.proofs.selectors_have_dots.Goals as goal

pub returns : goal.returns
returns c = selectors_have_dots
