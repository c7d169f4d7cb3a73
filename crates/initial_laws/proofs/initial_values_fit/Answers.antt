use Rattle.initial_laws.proofs.Initial.{initial_values_fit}
use Rattle.initial_laws.proofs.initial_values_fit.Goals as goal

pub returns : goal.returns
returns c = initial_values_fit
