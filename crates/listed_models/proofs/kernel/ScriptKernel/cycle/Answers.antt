use Rattle.std.proofs.Common.{◌+◌, slice_get}
use Rattle.listed_models.proofs.Giving.{cycle_prints, front_prints}
use Rattle.listed_models.proofs.kernel.ScriptKernel.cycle.Goals as goal

pub returns-in-Err-clause-printable : goal.returns-in-Err-clause-printable
returns-in-Err-clause-printable g c =
    front_prints (g.D.Design.system 0) c.self.invariant.runs.is_printable c.args.t c.args.n (slice_get c.as_slice.result.now (c.self.inside.at + 1)) c.args.out.now c.give_cycle.new.out c.in-Err.ensures.front

pub returns-after-self-clause-printable : goal.returns-after-self-clause-printable
returns-after-self-clause-printable g c =
    cycle_prints (g.D.Design.system 0) c.self.invariant.runs.is_printable c.args.t c.args.n (slice_get c.as_slice.result.now (c.self.inside.at + 1)) c.args.out.now c.give_cycle.new.out c.in-Ok-Done.ensures.events
