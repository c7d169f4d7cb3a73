-- The branch of an if that a process takes.
use Rattle.std.specs.Prelude.{◌≡◌, ℕ, suc, if◌then◌else◌, List, [], ◌∷◌, Some, Result, Ok}
use Rattle.std.specs.List.{All}
use Rattle.fix_core.specs.Passes.{◌>>=◌}
use Rattle.flat_expr.specs.declared.statement.Branch.{Branch, out-Branch}
use Rattle.flat_expr.specs.declared.statement.Statement.{Statement}
use Rattle.step_data.specs.declared.outcome.Refusal.{Refusal}
use Rattle.design_meaning.specs.Readings.{Readings}
use Rattle.expr_eval.specs.Condition.{CanEvaluate}
use Rattle.cycle_meaning.specs.Task.{branch_body}
use Rattle.cycle_meaning.specs.World.{Context, Local, holds}
use Rattle.cycle_meaning.specs.Statements.{branch_taken}

-- the number where one more branch stands before
abbrev pub one_later : Result ℕ Refusal → Result ℕ Refusal
one_later number = number >>= (λ b. Ok (suc b))

-- the number of the first branch whose condition holds, and that of the branch after `else` where none holds
unfoldable pub branch_number : Context → Local → List Branch → Result ℕ Refusal
branch_number here l [] = Ok 0
branch_number here l (b ∷ more) = holds here l (Some (out-Branch b).condition) >>= (λ taken. if taken then Ok 0 else one_later (branch_number here l more))

-- each condition can be evaluated
abbrev pub CanEvaluateBranches : Readings → List Branch → Type 0
CanEvaluateBranches r branches = All (λ (b : Branch). CanEvaluate r (out-Branch b).condition) branches

-- an if leads to the statements of that branch
abbrev pub BranchesAreTaken : Type 0
BranchesAreTaken =
    (here : Context) (l : Local) (branches : List Branch) (last : List Statement) →
    branch_taken here l branches last ≡ (branch_number here l branches >>= (λ b. Ok (branch_body branches last b)))
