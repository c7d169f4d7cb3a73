-- What a process does with so many statements left.
use Rattle.std.specs.Prelude.{◌≡◌, ℕ, zero, suc, List, [], ◌∷◌, ◌++◌, None}
use Rattle.message_codes.specs.Codes.{process_budget, failure}
use Rattle.flat_expr.specs.declared.expr.SignalName.{SignalName}
use Rattle.flat_expr.specs.declared.statement.Severity.TheVariants.{Failure}
use Rattle.flat_expr.specs.declared.statement.Statement.{Statement}
use Rattle.flat_expr.specs.declared.statement.Statement.TheVariants as s
use Rattle.cycle_meaning.specs.Task.{Task, statement, again, statements}
use Rattle.cycle_meaning.specs.World.{Context, Local, refusal}
use Rattle.cycle_meaning.specs.Statements.{with_report, number_of_severity}
use Rattle.cycle_meaning.specs.Processes.{run, stopped, refused, process_body}

-- a statement, a turn and a return to the first statement count one each, and none begins where none is left
pub record StatementsCount : Type 0 where
  pub none_left : (here : Context) (l : Local) (x : Statement) (rest : List Task) → run zero here l (statement x ∷ rest) ≡ refused l (refusal here process_budget)
  pub null_counts : (n : ℕ) (here : Context) (l : Local) (rest : List Task) → run (suc n) here l (statement s.Null ∷ rest) ≡ run n here l rest
  pub return_counts : (n : ℕ) (here : Context) (l : Local) → run (suc n) here l [] ≡ run n here l (statements (process_body here))
  pub turn_counts : (n : ℕ) (here : Context) (l : Local) (body : List Statement) (rest : List Task)
      → run (suc (suc n)) here l (statement (s.Loop None body) ∷ rest) ≡ run n here l (statements body ++ again None body ∷ rest)
  pub wait_stops : (n : ℕ) (here : Context) (l : Local) (number : ℕ) (on : List SignalName) (rest : List Task)
      → run (suc n) here l (statement (s.Wait number on None None) ∷ rest) ≡ stopped number None rest l
  pub exit_leaves : (n : ℕ) (here : Context) (l : Local) (body : List Statement) (rest : List Task)
      → run (suc n) here l (statement (s.Exit None) ∷ again None body ∷ rest) ≡ run n here l rest
  pub failure_refuses : (n : ℕ) (here : Context) (l : Local) (text : List ℕ) (rest : List Task)
      → run (suc n) here l (statement (s.Report text Failure) ∷ rest) ≡ refused (with_report here (number_of_severity Failure) text l) (refusal here failure)
