-- A worked row: one quantity that is 2.5, a step of 5 ns, and the stop time at 10 ns.
use Rattle.std.specs.Prelude.{pos, List, [], ◌∷◌, None}
use Rattle.step_data.specs.declared.event.Event.{Event}
use Rattle.step_data.specs.declared.event.Event.TheVariants.{Solved, Domain}
use Rattle.step_data.specs.declared.outcome.Options.{Options}
use Rattle.step_model.specs.System.{System}
use Rattle.mini_models.specs.declared.plan.Plan.{Plan}
use Rattle.mini_models.specs.Mini.{system_of}

abbrev pub row_options : Options
row_options =
    record {
      stop = 10000;
      ahead = 64;
      h0 = 5000;
      hmin = 5000;
      hmax = 5000;
      tol = 1000000;
      ltol = 1000000000;
      xres = 1;
    }

abbrev pub row_plan : Plan
row_plan =
    record {
      low = pos 2500000000000;
      high = pos 2500000000000;
      longest = 1000000000000;
      change = None;
      failure = None;
      options = row_options;
    }

abbrev pub row_system : System
row_system = system_of row_plan 1000 200000 200000

-- the solution before the first delta, the change of DOMAIN, and a point every 5 ns
abbrev pub row_events : List Event
row_events =
    Solved 0 1 (pos 2500000000000 ∷ [])
    ∷ Domain 0 2
    ∷ Solved 5000 0 (pos 2500000000000 ∷ [])
    ∷ Solved 10000 0 (pos 2500000000000 ∷ [])
    ∷ []
