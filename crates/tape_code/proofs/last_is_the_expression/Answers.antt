use Rattle.tape_code.proofs.Whole.{last_is_the_value, last_is_the_slope}
use Rattle.tape_code.proofs.last_is_the_expression.Goals as goal

pub returns-clause-value : goal.returns-clause-value
returns-clause-value c = last_is_the_value

pub returns-clause-slope : goal.returns-clause-slope
returns-clause-slope c = last_is_the_slope
