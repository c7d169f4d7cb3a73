-- `==` of the slices decides whether they are equal, and the slices are the frames.
use Rattle.std.proofs.lemmas.Slice.Eq.{slice_eq-Decides}
use Rattle.std.proofs.lemmas.Bool.Decides.{same_from_decides}
use Rattle.step_data.proofs.SameLaws.{derived_decides, frames_decide}
use Rattle.step_data.proofs.frame.Frame.is_same.Goals as goal

pub returns-clause-same : goal.returns-clause-same
returns-clause-same c =
    rw (← c.self.view_is, ← c.other.view_is, ← c.as_slice.ensures.value, ← c.as_slice-2.ensures.value)
    (let d = slice_eq-Decides derived_decides c.as_slice.result.now c.as_slice-2.result.now c.eq.result c.eq.ensures in (d.0, d.1))

pub returns-clause-test : goal.returns-clause-test
returns-clause-test c =
    same_from_decides c.eq.result _ (returns-clause-same c) (frames_decide c.args.self.now c.args.other.now)
