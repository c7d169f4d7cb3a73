use Rattle.design_rules.proofs.Ways.{whole_is_safe, none_is_safe, one_more_is_safe}
use Rattle.design_rules.proofs.parameters_are_found_safe.Goals as goal

pub returns-clause-whole : goal.returns-clause-whole
returns-clause-whole c = whole_is_safe

pub returns-clause-none : goal.returns-clause-none
returns-clause-none c = none_is_safe

pub returns-clause-one_more : goal.returns-clause-one_more
returns-clause-one_more c = one_more_is_safe
