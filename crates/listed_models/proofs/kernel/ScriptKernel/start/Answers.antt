use Rattle.std.proofs.Common.{slice_get}
use Rattle.listed_models.proofs.Giving.{cycle_prints, front_prints}
use Rattle.listed_models.proofs.kernel.ScriptKernel.start.Goals as goal

pub returns-in-Err-clause-printable : goal.returns-in-Err-clause-printable
returns-in-Err-clause-printable g c =
    front_prints (g.D.Design.system 0) c.self.invariant.runs.is_printable c.unwrap-zero.result 0 (slice_get c.as_slice.result.now 0) c.args.out.now c.give_cycle.new.out c.in-Err.ensures.front

pub returns-in-Ok-Done-clause-printable : goal.returns-in-Ok-Done-clause-printable
returns-in-Ok-Done-clause-printable g c =
    cycle_prints (g.D.Design.system 0) c.self.invariant.runs.is_printable c.unwrap-zero.result 0 (slice_get c.as_slice.result.now 0) c.args.out.now c.give_cycle.new.out c.in-Ok-Done.ensures.events
