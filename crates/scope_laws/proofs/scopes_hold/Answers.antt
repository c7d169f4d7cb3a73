use Rattle.scope_laws.proofs.Scopes.{scopes_hold}
use Rattle.scope_laws.proofs.scopes_hold.Goals as goal

pub returns : goal.returns
returns c = scopes_hold
