use Rattle.std.proofs.Common.{◌<◌, ◌≤◌, length, sym, ◌∙◌, arith}
use Rattle.std.proofs.lemmas.Option.{get_or_from_slice_get}
use Rattle.threshold_set.proofs.Steps.{done_more, all_done}
use Rattle.frame_values.specs.Frames.{value_by}
use Rattle.frame_values.proofs.fill_frame.Goals as goal

pub loop-k-preserved : goal.loop-k-preserved
loop-k-preserved c =
    let f = value_by c.args.signals.now c.args.thresholds.now c.args.timed in
    let h : c.loop-k.k < length c.args.names.now = omega arith in
    let g : c.loop-k.k < length c.args.out.now = omega arith in
    rw (c.set.ensures, c.value_by.ensures, c.loop-k.invariant)
    (done_more f c.loop-k.k c.args.names.now c.args.out.now c.name_at-name.result h g
    (sym (get_or_from_slice_get c.args.names.now c.loop-k.k c.name_at-name.result c.name_at-name.result c.name_at-name.ensures)))

pub returns : goal.returns
returns c =
    let f = value_by c.args.signals.now c.args.thresholds.now c.args.timed in
    let h : length c.args.names.now ≤ c.loop-k.k = omega arith in
    let g : length c.args.out.now ≤ c.loop-k.k = omega arith in
    c.loop-k.invariant ∙ all_done f c.loop-k.k c.args.names.now c.args.out.now h g
