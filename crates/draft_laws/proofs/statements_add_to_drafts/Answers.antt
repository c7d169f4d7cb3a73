use Rattle.draft_laws.proofs.Drafts.{statements_add}
use Rattle.draft_laws.proofs.statements_add_to_drafts.Goals as goal

pub returns : goal.returns
returns c = statements_add
