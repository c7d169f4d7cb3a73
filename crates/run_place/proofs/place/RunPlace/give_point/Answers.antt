use Rattle.run_place.specs.Giving.{changes_at}
use Rattle.run_place.proofs.Branching.{point_given}
use Rattle.run_place.proofs.place.RunPlace.give_point.Goals as goal

pub returns-clause-ok : goal.returns-clause-ok
returns-clause-ok c =
    point_given c.push_solved.result c.args.out.now c.give_changes.new.out c.push_solved.new.self
    (changes_at c.args.self.now c.args.at.now.t c.args.at.now.n c.args.is_chosen c.args.branches.now)
    c.args.at.now.t c.args.at.now.n c.args.x.now c.in_ok-give_changes.ensures.ok c.push_solved.ensures.ok
