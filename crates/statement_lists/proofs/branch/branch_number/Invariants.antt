use Rattle.std.proofs.Common.{◌≡◌, drop}
use Rattle.statement_lists.specs.Branches.{branch_number}
use Rattle.statement_lists.proofs.Taken.{behind}
use Rattle.statement_lists.proofs.branch.branch_number.Given as goal

-- the number of the whole list is that of the branches that are left, behind those that are passed
abbrev pub invariant-loop-number : goal.invariant-loop-number
invariant-loop-number g l =
    let number = branch_number (g.A.Activation.context l.at) (g.A.Activation.local l.at) in
    number l.branches ≡ behind l.number (number (drop l.number l.branches))
