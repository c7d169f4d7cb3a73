use Rattle.alike_laws.proofs.Whole.{scopes_stay_alike}
use Rattle.alike_laws.proofs.scopes_stay_alike.Goals as goal

pub returns : goal.returns
returns c = scopes_stay_alike
