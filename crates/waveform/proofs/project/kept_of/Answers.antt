-- The places that were found part the list as the marks do.
use Rattle.std.proofs.Common.{◌≡◌, ◌-◌, ◌≤◌, arith}
use Rattle.std.proofs.lemmas.List.{length-take}
use Rattle.waveform.proofs.Kept.{kept_inertial}
use Rattle.waveform.proofs.project.kept_of.Goals as goal

pub returns-in-Inertial-clause-kept : goal.returns-in-Inertial-clause-kept
returns-in-Inertial-clause-kept c =
    let limit : c.saturating_sub.result ≡ c.args.first.at - c.args.reject = omega arith in
    let inside : c.equal_from-from.result ≤ c.count_before-end.result = omega (arith, length-take c.count_before-end.result c.args.pending.now, c.equal_from-from.ensures.within) in
    kept_inertial _ _ c.saturating_sub.result _ _ _ _ _ c.in-Inertial.is limit c.count_before-end.ensures.before c.early_of-early.ensures.bound inside c.count_before-end.ensures.within c.early_of-early.ensures.early c.early_of-early.ensures.late c.equal_from-from.ensures.equal c.equal_from-from.ensures.differs c.requires
