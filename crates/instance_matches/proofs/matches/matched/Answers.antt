use Rattle.instance_matches.proofs.Sound.{zip_sound}
use Rattle.instance_matches.proofs.matches.matched.Goals as goal

pub returns-in-Some-clause-sound : goal.returns-in-Some-clause-sound
returns-in-Some-clause-sound c = zip_sound c.in-Some.places c.args.all.now
