-- The budgets of a run.
use Rattle.std.specs.Prelude.{◌≡◌, ◌<◌, ◌^◌}
use Rattle.step_model.specs.System.{System}
use Rattle.run_place.specs.Budgets.{delta_budget, run_budget}

pub record HasBudgets (sys : System) : Type 0 where
  pub deltas : sys.deltas ≡ delta_budget
  pub choices : sys.choices < 2 ^ 32
  pub cycles : sys.cycles ≡ run_budget
  pub tries : sys.tries ≡ run_budget
