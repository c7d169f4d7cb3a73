use Rattle.design_rules.proofs.Ways.{whole_is_right, none_is_right, one_more_is_right, more_waits_are_right}
use Rattle.design_rules.proofs.ways_are_found_right.Goals as goal

pub returns-clause-whole : goal.returns-clause-whole
returns-clause-whole c = whole_is_right

pub returns-clause-none : goal.returns-clause-none
returns-clause-none c = none_is_right

pub returns-clause-one_more : goal.returns-clause-one_more
returns-clause-one_more c = one_more_is_right

pub returns-clause-more_waits : goal.returns-clause-more_waits
returns-clause-more_waits c = more_waits_are_right
