use Rattle.instance_matches.proofs.Sound.{at_is_sound}
use Rattle.instance_matches.proofs.matches.Matches.actual_at.Goals as goal

pub returns-clause-sound : goal.returns-clause-sound
returns-clause-sound c h = at_is_sound c.args.self.now c.args.formal c.find.result c.find.ensures h
