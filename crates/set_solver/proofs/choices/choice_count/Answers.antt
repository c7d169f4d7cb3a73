-- One equation more, and all of them.
use Rattle.std.proofs.Common.{arith}
use Rattle.set_solver.proofs.Choosing.{counted_choice, counted_pair, counted_all}
use Rattle.set_solver.proofs.choices.choice_count.Goals as goal
use Rattle.set_solver.proofs.choices.choice_count.Goals.{in-Choice, in_default}

pub loop-i-preserved : goal.loop-i-preserved
loop-i-preserved c =
    let xs = c.args.equations.now in
    let x = c.index-equations-i.result in
    elim c.match-equations-i.branch [
      | in-Choice w ↦
          let more = counted_choice xs c.loop-i.i c.loop-i.count x w.in-Choice.field-0 c.loop-i-test.true c.index-equations-i.is w.in-Choice.is in
          record { counted = omega (arith, more, w.count-is, c.loop-i.invariant.counted); small = omega (arith, w.count-is, c.loop-i.invariant.small) }
      | in_default w ↦
          let same = counted_pair xs c.loop-i.i x c.loop-i-test.true c.index-equations-i.is w.in_default.not-Choice in
          record { counted = omega (arith, same, w.count-is, c.loop-i.invariant.counted); small = omega (arith, w.count-is, c.loop-i.invariant.small) }
    ]

pub returns : goal.returns
returns c =
    let none = counted_all c.args.equations.now c.loop-i.i c.loop-i-test.false in
    omega (arith, none, c.loop-i.invariant.counted)
