use Rattle.std.proofs.Common.{◌≡◌, drop}
use Rattle.design_meaning.specs.Steps.{if_chosen}
use Rattle.equation_values.specs.Reading.{readings_in}
use Rattle.branch_choice.proofs.selection.if_branch.Given as goal

-- the branch of the whole list is that of the arms that are left
abbrev pub invariant-loop-number : goal.invariant-loop-number
invariant-loop-number l =
    let r = readings_in l.values in
    if_chosen 0 l.arms r ≡ if_chosen l.number (drop l.number l.arms) r
