-- What each step of the core keeps, and how near to the end it comes.
use Rattle.std.proofs.Common.{◌≡◌, ◌≢◌, ℕ, suc, zero, ◌+◌, List, [], ◌∷◌, ◌++◌, replicate, Option, Some, None, refl, ◌∙◌, arith}
use Rattle.step_data.specs.declared.outcome.End.{End}
use Rattle.step_model.specs.System.{System, attempt}
use Rattle.lockstep_model.specs.declared.moves.Ask.TheVariants as asks
use Rattle.lockstep_model.specs.declared.moves.Moved.{Moved}
use Rattle.lockstep_model.specs.declared.moves.Moved.TheVariants as says
use Rattle.lockstep_model.specs.Lockstep.{lockstep}
use Rattle.lockstep_model.specs.Walk.{Walk, Move, Broken, Fits, LooksAhead, Awaits, EndsAll, Keeps, Costs, moved}
use Rattle.lockstep_model.specs.WalkLaws.{moved_keeps, moved_costs, looks_ahead}
use Rattle.timeline.specs.declared.line.Line.{Line}
use Rattle.step_schedule.specs.declared.Step.{Step}
use Rattle.step_schedule.specs.declared.Step.TheVariants.{D, W}
use Rattle.core_hands.specs.Moves.{reply_said, led_on, line_led, line_worked}
use Rattle.core_hands.specs.Laws.{fits_said}
use Rattle.core_steps.specs.States.{State, first_state, stepped, stepped_on, stepped_by, stepped_all, end_said, by_engine, engine_steps}
use Rattle.core_steps.specs.Kept.{IsOver}
use Rattle.core_steps.specs.Laws.{Balanced, led_balances, worked_balances}
use Rattle.core_steps.specs.Ending.{Nears, nears_none, nears_then, nears_moved}

-- the reply is one that is awaited, memory was found, the end is that of the run, and once it was told nothing is left
pub record Goes (sys : System) (s : State) : Type 0 where
  pub fits : Fits (attempt sys) s.led.walk s.led.walk.awaited s.led.reply
  pub ahead : LooksAhead s.led.walk.awaited s.led.walk.works
  pub live : s.led.walk.awaited ≢ Broken
  pub end : s.led.walk.end ≡ (lockstep sys).end
  pub over : IsOver s.ended s.led

pub first_goes : (sys : System) → Goes sys (first_state sys)
first_goes sys = record { fits = tt; ahead = tt; live = λ e. cc; end = refl; over = tt }

-- ---- a step

live_after : (said : Moved) (y : Walk) → Awaits y said → y.awaited ≢ Broken
live_after (says.Ended e) y h broken = cc
live_after (says.Ask asks.None) y h broken = cc
live_after (says.Ask asks.Begin) y h broken = cc
live_after (says.Ask (asks.Look until)) y h broken = let is = h.0 in cc
live_after (says.Ask asks.Consume) y h broken = let is = h.2 in cc

over_after : (sys : System) (said : Moved) (y : Walk) (l : Line) → EndsAll y said → IsOver (end_said said) (record { walk = y; reply = reply_said sys said y l })
over_after sys (says.Ended e) y l h = (h.0, h.1, refl)
over_after sys (says.Ask ask) y l h = tt

costs_of : (sys : System) (s : State) → Goes sys s → Costs s.led.walk s.led.reply (moved s.led.walk s.led.reply)
costs_of sys s g = moved_costs (attempt sys) s.led.walk s.led.reply g.ahead g.live g.fits

engine_goes : (sys : System) (s : State) → Goes sys s → Goes sys (stepped_on sys D s)
engine_goes sys s g =
    let m : Move = moved s.led.walk s.led.reply in
    let keeps : Keeps s.led.walk m = moved_keeps s.led.walk s.led.reply in
    record {
      fits = fits_said sys m.says m.walk s.line keeps.awaits;
      ahead = looks_ahead m.walk m.says keeps.awaits;
      live = live_after m.says m.walk keeps.awaits;
      end = keeps.end ∙ g.end;
      over = over_after sys m.says m.walk s.line keeps.ended;
    }

goes_by : (ended : Option End) (sys : System) (step : Step) (s : State) → Goes sys s → Goes sys (stepped_by ended sys step s)
goes_by None sys D s g = engine_goes sys s g
goes_by None sys W s g = record { fits = g.fits; ahead = g.ahead; live = g.live; end = g.end; over = g.over }
goes_by (Some e) sys step s g = g

balances_by : (ended : Option End) (sys : System) (total : ℕ) (step : Step) (s : State) → Goes sys s → Balanced total s.led s.line → Balanced total (stepped_by ended sys step s).led (stepped_by ended sys step s).line
balances_by None sys total D s g b =
    led_balances sys total s.led (led_on sys s.led s.line) s.line (line_led s.led s.line) (moved s.led.walk s.led.reply).says refl refl (costs_of sys s g).spends b
balances_by None sys total W s g b = worked_balances sys total s.led s.hand s.line (line_worked sys s.hand s.line) refl b
balances_by (Some e) sys total step s g b = b

nears_by : (ended : Option End) (sys : System) (step : Step) (s : State) → s.ended ≡ ended → Goes sys s → Nears (by_engine step) s (stepped_by ended sys step s)
nears_by None sys D s is g =
    let m : Move = moved s.led.walk s.led.reply in
    nears_moved s (stepped_on sys D s) m.says is refl (costs_of sys s g).falls (moved_keeps s.led.walk s.led.reply).awaits
nears_by None sys W s is g = record { went = λ e. e; nearer = λ e. omega arith; goes = λ e h. h }
nears_by (Some told) sys step s is g = record { went = λ e. e; nearer = λ e. cc; goes = λ e h. h }

-- ---- the steps of a schedule

pub steps_go : (sys : System) (steps : List Step) (s : State) → Goes sys s → Goes sys (stepped_all sys steps s)
steps_go sys [] s g = g
steps_go sys (step ∷ steps) s g = steps_go sys steps (stepped sys step s) (goes_by s.ended sys step s g)

pub steps_balance : (sys : System) (total : ℕ) (steps : List Step) (s : State) → Goes sys s → Balanced total s.led s.line → Balanced total (stepped_all sys steps s).led (stepped_all sys steps s).line
steps_balance sys total [] s g b = b
steps_balance sys total (step ∷ steps) s g b =
    steps_balance sys total steps (stepped sys step s) (goes_by s.ended sys step s g) (balances_by s.ended sys total step s g b)

pub steps_near : (sys : System) (steps : List Step) (s : State) → Goes sys s → Nears (engine_steps steps) s (stepped_all sys steps s)
steps_near sys [] s g = nears_none s
steps_near sys (step ∷ steps) s g =
    let next : State = stepped sys step s in
    nears_then (by_engine step) (engine_steps steps) s next (stepped_all sys steps next) (nears_by s.ended sys step s refl g)
    (steps_near sys steps next (goes_by s.ended sys step s g))

-- how many steps are the engine's
pub engine_joins : (a b : List Step) → engine_steps (a ++ b) ≡ engine_steps a + engine_steps b
engine_joins [] b = omega arith
engine_joins (step ∷ a) b = let rest = engine_joins a b in omega arith

pub engine_alone : (n : ℕ) → engine_steps (replicate n D) ≡ n
engine_alone zero = refl
engine_alone (suc n) = let rest = engine_alone n in omega arith
