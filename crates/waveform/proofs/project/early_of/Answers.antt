-- One more is early.
use Rattle.std.proofs.Common.{◌<◌, length, arith}
use Rattle.waveform.proofs.Kept.{all_upto}
use Rattle.waveform.proofs.project.early_of.Goals as goal

pub loop-early-preserved : goal.loop-early-preserved
loop-early-preserved c =
    let inside : c.loop-early.early < length c.args.old.now = omega arith in
    let soon : c.index-old-early.result.at < c.args.limit = omega arith in
    all_upto (λ x. x.at < c.args.limit) c.args.old.now c.loop-early.early c.index-old-early.result inside c.index-old-early.is soon c.loop-early.invariant
