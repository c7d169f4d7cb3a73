-- What a run asks of a system and of options.
use Rattle.std.specs.Prelude.{◌≡◌, ◌<◌, ◌^◌}
use Rattle.step_data.specs.declared.outcome.Options.{Options}
use Rattle.step_data.specs.Options.{IsAllowed}
use Rattle.step_model.specs.System.{System}
use Rattle.run_place.specs.Budgets.{delta_budget, run_budget}

-- the options are allowed and are the system's, which has the budgets of a run
pub record Suits (sys : System) (given : Options) : Type 0 where
  pub options : given ≡ sys.options
  pub allowed : IsAllowed given
  pub deltas : sys.deltas ≡ delta_budget
  pub choices : sys.choices < 2 ^ 32
  pub cycles : sys.cycles ≡ run_budget
  pub tries : sys.tries ≡ run_budget
