use Rattle.std.proofs.Common.{slice_get}
use Rattle.std.proofs.lemmas.Option.{slice_get_past}
use Rattle.listed_models.proofs.Giving.{nothing_given}
use Rattle.listed_models.proofs.kernel.give_cycle.Goals as goal

pub returns-in-None-clause-events : goal.returns-in-None-clause-events
returns-in-None-clause-events c =
    let (same, none, never, past, value) = c.in-None.ensures.lookup in
    nothing_given c.args.out.now c.args.t c.args.n (slice_get c.args.cycles.now c.args.number)
    (slice_get_past c.args.cycles.now c.args.number past)
