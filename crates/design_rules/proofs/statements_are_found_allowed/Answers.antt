use Rattle.design_rules.proofs.Each.{whole_is_allowed, none_is_allowed, one_more_is_allowed}
use Rattle.design_rules.proofs.statements_are_found_allowed.Goals as goal

pub returns-clause-whole : goal.returns-clause-whole
returns-clause-whole c = whole_is_allowed

pub returns-clause-none : goal.returns-clause-none
returns-clause-none c = none_is_allowed

pub returns-clause-one_more : goal.returns-clause-one_more
returns-clause-one_more c = one_more_is_allowed
