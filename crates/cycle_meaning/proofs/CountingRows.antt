-- Each kind of statement, opened once.
use Rattle.std.proofs.Common.{refl, ap, sym, ◌∙◌, ℕ, suc, List, ◌∷◌}
use Rattle.std.specs.Prelude.{None}
use Rattle.flat_expr.specs.declared.statement.Severity.TheVariants.{Failure}
use Rattle.flat_expr.specs.declared.statement.Statement.{out-Statement}
use Rattle.flat_expr.specs.declared.statement.Statement.TheOpen.{Statement-F}
use Rattle.flat_expr.specs.declared.statement.Statement.TheViews.{out-roll-Statement}
use Rattle.flat_expr.specs.declared.statement.Statement.TheVariants.{rolls-Null, rolls-Loop, rolls-Wait, rolls-Exit, rolls-Report}
use Rattle.cycle_meaning.specs.Task.{Task, Layer, again}
use Rattle.cycle_meaning.specs.World.{Context, Local}
use Rattle.cycle_meaning.specs.Statements.{executed}
use Rattle.cycle_meaning.specs.Processes.{Stop, run, next_of, after_step}
use Rattle.cycle_meaning.specs.Counting.{StatementsCount}

-- the run behind a statement that begins, by its layer
abbrev begun : ℕ → Context → Local → List Task → Layer → Stop
begun n here l rest layer = after_step (run n here) (executed here l rest layer)

pub counts : StatementsCount
unfolding run next_of
counts = record {
  none_left = λ here l x rest. refl;
  null_counts = λ n here l rest. ap (begun n here l rest) (ap out-Statement (sym rolls-Null) ∙ out-roll-Statement Statement-F.Null);
  return_counts = λ n here l. refl;
  turn_counts = λ n here l body rest.
      ap (begun (suc n) here l rest) (ap out-Statement (sym (rolls-Loop None body)) ∙ out-roll-Statement (Statement-F.Loop None body));
  wait_stops = λ n here l number on rest.
      ap (begun n here l rest) (ap out-Statement (sym (rolls-Wait number on None None)) ∙ out-roll-Statement (Statement-F.Wait number on None None));
  exit_leaves = λ n here l body rest.
      ap (begun n here l (again None body ∷ rest)) (ap out-Statement (sym (rolls-Exit None)) ∙ out-roll-Statement (Statement-F.Exit None));
  failure_refuses = λ n here l text rest.
      ap (begun n here l rest) (ap out-Statement (sym (rolls-Report text Failure)) ∙ out-roll-Statement (Statement-F.Report text Failure));
}
