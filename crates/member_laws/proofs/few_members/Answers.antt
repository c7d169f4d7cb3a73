use Rattle.member_laws.proofs.Members.{few_members}
use Rattle.member_laws.proofs.few_members.Goals as goal

pub returns : goal.returns
returns c = few_members
