use Rattle.std.proofs.Common.{◌≡◌, true, sym, ◌∙◌}
use Rattle.lockstep_model.specs.Crossing.{is_near, middle}
use Rattle.above_events.specs.Locating.{with_point}
use Rattle.run_place.proofs.Nearness.{none_is_near, some_is_middle}
use Rattle.run_place.proofs.place.RunPlace.probe_step.Goals as goal

pub returns-in-Some : goal.returns-in-Some
returns-in-Some c =
    let e : c.in-Some.middle ≡ middle (with_point c.args.self.now.search c.args.self.now.at_hi) =
    some_is_middle c.args.self.now.search.xres (with_point c.args.self.now.search c.args.self.now.at_hi) c.in-Some.middle
    (sym (c.middle.ensures.value c.args.self.now.at_hi) ∙ c.in-Some.is) in
    let later : c.get.result ≡ c.in-Some.middle = c.get.ensures.value in
    let start : c.get-in-Some.result ≡ c.args.self.now.tip.t = c.get-in-Some.ensures.value in
    cc

pub returns-in-None : goal.returns-in-None
returns-in-None c =
    let near : true ≡ is_near c.args.self.now.search.xres (with_point c.args.self.now.search c.args.self.now.at_hi) =
    none_is_near c.args.self.now.search.xres (with_point c.args.self.now.search c.args.self.now.at_hi)
    (sym (c.middle.ensures.value c.args.self.now.at_hi) ∙ c.in-None.is) in
    let far = c.requires.far in
    cc
