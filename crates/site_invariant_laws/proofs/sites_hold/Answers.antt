use Rattle.site_invariant_laws.proofs.Whole.{sites_hold}
use Rattle.site_invariant_laws.proofs.sites_hold.Goals as goal

pub returns : goal.returns
returns c = sites_hold
