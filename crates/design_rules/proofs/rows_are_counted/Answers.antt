use Rattle.design_rules.proofs.Counts.{rows_are_counted, chosen_are_branches}
use Rattle.design_rules.proofs.rows_are_counted.Goals as goal

pub returns-clause-rows : goal.returns-clause-rows
returns-clause-rows c = rows_are_counted

pub returns-clause-branches : goal.returns-clause-branches
returns-clause-branches c = chosen_are_branches
