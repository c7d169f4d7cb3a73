use Rattle.statement_values.proofs.RangeLaws.{lead}
use Rattle.statement_values.proofs.range.ranges_lead.Goals as goal

pub returns : goal.returns
returns c = lead
