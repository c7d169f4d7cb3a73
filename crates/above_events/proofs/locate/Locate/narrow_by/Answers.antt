-- one narrowing of the bounds, and the swap of the points
use Rattle.above_events.specs.Locating.{with_point}
use Rattle.above_events.proofs.Narrowing.{swapped_is, narrowed_is}
use Rattle.above_events.proofs.locate.Locate.narrow_by.Goals as goal

pub returns-clause-bounds : goal.returns-clause-bounds
returns-clause-bounds c =
    λ step tip ea ex.
    narrowed_is c.args.thresholds.now (with_point c.args.self.now c.args.at_hi.now) (with_point c.narrow.new.self c.swap_where.new.at_hi) step tip c.args.x.now c.args.answer c.crosses-crossed.result
    (swapped_is c.args.self.now c.narrow.new.self c.crosses-crossed.result c.args.x.now c.args.at_hi.now c.swap_where.new.at_hi c.narrow.ensures.bounds c.swap_where.ensures.hi)
    c.crosses-crossed.ensures ea ex
