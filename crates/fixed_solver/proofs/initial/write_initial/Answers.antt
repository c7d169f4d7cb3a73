-- One value more, and all of them.
use Rattle.std.proofs.Common.{◌≡◌, ◌<◌, pos, List, length, map, get_or, ap, ◌∙◌, arith, length-set}
use Rattle.flat_design.specs.declared.objects.Quantity.{Quantity}
use Rattle.fixed_solver.proofs.Start.{start_more, start_end}
use Rattle.fixed_solver.proofs.initial.write_initial.Goals as goal

pub loop-i-preserved : goal.loop-i-preserved
loop-i-preserved c =
    let out = c.loop-i.out in
    let i = c.loop-i.i in
    let v = c.initial_value.result in
    let lt : i < length out = omega arith in
    let long = c.loop-i.invariant.count ∙ c.requires in
    let is : v ≡ get_or (map (λ (q : Quantity). q.initial) c.args.flat.now.quantities) i (pos 0) = c.initial_value.ensures ∙ ap (λ (qs : List Quantity). get_or (map (λ (q : Quantity). q.initial) qs) i (pos 0)) c.quantities-quantities.ensures in
    rw c.set.ensures
    (record {
      written = start_more c.args.flat.now out i v lt long is c.loop-i.invariant.written;
      count = length-set out i v ∙ c.loop-i.invariant.count;
    })

pub returns : goal.returns
returns c = start_end c.args.flat.now c.loop-i.out c.loop-i.i (omega arith) (c.loop-i.invariant.count ∙ c.requires) c.loop-i.invariant.written
