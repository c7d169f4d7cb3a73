use Rattle.std.proofs.Common.{◌≡◌, ◌<◌, ◌≤◌, length, sym, ap, ◌∙◌, arith}
use Rattle.std.proofs.lemmas.Option.{get_or_from_slice_get}
use Rattle.threshold_set.proofs.Steps.{done_more, all_done}
use Rattle.flat_design.specs.Reads.{frame_of}
use Rattle.cycle_meaning.specs.Cycles.{first_digital, value_in}
use Rattle.first_frame.proofs.fill_first_frame.Goals as goal

pub loop-k-preserved : goal.loop-k-preserved
loop-k-preserved c =
    let flat = c.args.flat.now in
    let k = c.loop-k.k in
    let f = value_in (first_digital flat) in
    let e : length c.frame-names.result.now ≡ length (frame_of flat) = ap length c.frame-names.ensures in
    let h : k < length (frame_of flat) = omega (arith, e, c.loop-k-test.true) in
    let g : k < length c.args.out.now = omega (arith, e, c.requires, c.loop-k-test.true) in
    let n = c.name_at-name.result in
    let is = rw c.frame-names.ensures at c.name_at-name.ensures in
    rw (c.set.ensures, c.first_value.ensures, c.loop-k.invariant)
    (done_more f k (frame_of flat) c.args.out.now n h g (sym (get_or_from_slice_get (frame_of flat) k n n is)))

pub returns : goal.returns
returns c =
    let flat = c.args.flat.now in
    let f = value_in (first_digital flat) in
    let e : length c.frame-names.result.now ≡ length (frame_of flat) = ap length c.frame-names.ensures in
    let h : length (frame_of flat) ≤ c.loop-k.k = omega (arith, e, c.loop-k-test.false) in
    let g : length c.args.out.now ≤ c.loop-k.k = omega (arith, e, c.requires, c.loop-k-test.false) in
    c.loop-k.invariant ∙ all_done f c.loop-k.k (frame_of flat) c.args.out.now h g
