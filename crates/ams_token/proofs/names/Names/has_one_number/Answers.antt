use Rattle.ams_token.proofs.Places.{distinct_place}
use Rattle.ams_token.proofs.names.Names.has_one_number.Goals as goal

pub returns : goal.returns
returns c n text = rw (← c.self.view_is) (distinct_place c.self.inside.texts.keys n text c.len-len.ensures.unique)
