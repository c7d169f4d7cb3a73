use Rattle.std.proofs.Common.{sym, ◌∙◌}
use Rattle.above_events.specs.Locating.{with_point}
use Rattle.run_place.proofs.Nearness.{none_is_near, some_is_far}
use Rattle.run_place.proofs.place.RunPlace.is_near.Goals as goal

pub returns-in-None : goal.returns-in-None
returns-in-None c =
    none_is_near c.args.self.now.search.xres (with_point c.args.self.now.search c.args.self.now.at_hi)
    (sym (c.middle.ensures.value c.args.self.now.at_hi) ∙ c.in-None.is)

pub returns-in-Some : goal.returns-in-Some
returns-in-Some c =
    some_is_far c.args.self.now.search.xres (with_point c.args.self.now.search c.args.self.now.at_hi) _
    (sym (c.middle.ensures.value c.args.self.now.at_hi) ∙ c.in-Some.is)
