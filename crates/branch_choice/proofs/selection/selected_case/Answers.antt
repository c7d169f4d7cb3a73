use Rattle.std.proofs.Common.{arith}
use Rattle.branch_choice.proofs.Chosen.{case_below}
use Rattle.branch_choice.proofs.selection.selected_case.Goals as goal

pub overflow_cast-result : goal.overflow_cast-result
overflow_cast-result c =
    let low = case_below c.args.arms.now c.in_ok-found.found in
    let same = c.case_branch.ensures in
    let few = c.requires.numbers in
    omega (arith, low, same, few)
