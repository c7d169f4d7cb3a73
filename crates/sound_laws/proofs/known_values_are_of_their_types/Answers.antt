use Rattle.sound_laws.proofs.Sound.{known_values_are_of_their_types}
use Rattle.sound_laws.proofs.known_values_are_of_their_types.Goals as goal

pub returns : goal.returns
returns c = known_values_are_of_their_types
