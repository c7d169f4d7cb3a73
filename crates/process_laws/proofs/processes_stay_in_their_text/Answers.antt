use Rattle.process_laws.proofs.InText.{begun_is_in_text, steps_stay_in_text, turns_stay_in_text}
use Rattle.process_laws.proofs.processes_stay_in_their_text.Goals as goal

pub returns-clause-begun : goal.returns-clause-begun
returns-clause-begun c = begun_is_in_text

pub returns-clause-steps : goal.returns-clause-steps
returns-clause-steps c = steps_stay_in_text

pub returns-clause-turns : goal.returns-clause-turns
returns-clause-turns c = turns_stay_in_text
