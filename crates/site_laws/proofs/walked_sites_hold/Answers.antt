use Rattle.site_laws.proofs.Whole.{walked_sites_hold}
use Rattle.site_laws.proofs.walked_sites_hold.Goals as goal

pub returns : goal.returns
returns c = walked_sites_hold
