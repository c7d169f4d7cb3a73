use Rattle.choice_laws.proofs.Cases.{choices_are_right}
use Rattle.choice_laws.proofs.choices_are_right.Goals as goal

pub returns : goal.returns
returns c = choices_are_right
