use Rattle.selected_laws.proofs.Selected.{selectors_are_made}
use Rattle.selected_laws.proofs.selectors_are_made.Goals as goal

pub returns : goal.returns
returns c = selectors_are_made
