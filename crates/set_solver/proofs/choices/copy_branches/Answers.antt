-- One branch more, and all of them.
use Rattle.std.proofs.Common.{◌<◌, length, get_or, ◌∙◌, sym, arith, length-set}
use Rattle.std.proofs.lemmas.List.{take_all}
use Rattle.set_solver.proofs.Choosing.{copied_more}
use Rattle.set_solver.proofs.choices.copy_branches.Goals as goal

pub loop-k-preserved : goal.loop-k-preserved
loop-k-preserved c =
    let xs = c.args.branches.now in
    let out = c.loop-k.out in
    let k = c.loop-k.k in
    let lx : k < length xs = omega arith in
    let lo : k < length out = omega arith in
    rw c.set.ensures
    (record { written = copied_more xs out k lx lo c.loop-k.invariant.written; count = length-set out k (get_or xs k 0) ∙ c.loop-k.invariant.count })

pub returns : goal.returns
returns c =
    let out = c.loop-k.out in
    sym (take_all c.loop-k.k out (omega arith)) ∙ c.loop-k.invariant.written ∙ take_all c.loop-k.k c.args.branches.now (omega arith)
