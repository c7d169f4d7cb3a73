use Rattle.above_events.proofs.Narrowing.{narrow_down, narrow_up}
use Rattle.above_events.proofs.locate.Locate.narrow.Goals as goal

pub returns-then-differs-clause-bounds : goal.returns-then-differs-clause-bounds
returns-then-differs-clause-bounds c =
    let s = c.self.inside in
    narrow_down s.lo s.hi s.xres c.half_way-middle.result c.args.self.now c.args.differs c.self.view_is c.if-differs.true c.half_way-middle.ensures

pub returns-else-differs-clause-bounds : goal.returns-else-differs-clause-bounds
returns-else-differs-clause-bounds c =
    let s = c.self.inside in
    narrow_up s.lo s.hi s.xres c.half_way-middle.result c.args.self.now c.args.differs c.self.view_is c.if-differs.false c.half_way-middle.ensures
