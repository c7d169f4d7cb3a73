-- The end comes by a known step of the engine, whatever the worker does.
use Rattle.std.specs.Prelude.{◌≡◌, ◌≢◌, ℕ, ◌+◌, ◌<◌, ◌≤◌, List, [], ◌∷◌, None}
use Rattle.std.proofs.Common.{arith}
use Rattle.step_data.specs.declared.outcome.End.{End}
use Rattle.lockstep_model.specs.declared.moves.Ask.{Ask}
use Rattle.lockstep_model.specs.declared.moves.Ask.TheVariants as asks
use Rattle.lockstep_model.specs.declared.moves.Moved.{Moved}
use Rattle.lockstep_model.specs.declared.moves.Moved.TheVariants as says
use Rattle.lockstep_model.specs.Walk as w
use Rattle.lockstep_model.specs.Walk.{Walk, Awaited, AsksFor, Awaits, Falls, StartsTried, moves_left, left_by, weight}
use Rattle.lockstep_model.specs.Works.{Work, Worked, Tried}
use Rattle.core_steps.specs.States.{State, end_said}

-- behind so many steps of the engine, unless the end was told: none was told before, each left fewer moves to the end, and there
-- are moves left where there were
pub record Nears (n : ℕ) (old new : State) : Type 0 where
  pub went : new.ended ≡ None → old.ended ≡ None
  pub nearer : new.ended ≡ None → n + moves_left new.led.walk ≤ moves_left old.led.walk
  pub goes : new.ended ≡ None → 0 < moves_left old.led.walk → 0 < moves_left new.led.walk

pub nears_none : (s : State) → Nears 0 s s
nears_none s = record { went = λ e. e; nearer = λ e. omega arith; goes = λ e h. h }

pub nears_then : (n m : ℕ) (a b c : State) → Nears n a b → Nears m b c → Nears (n + m) a c
nears_then n m a b c f g =
    record {
      went = λ e. f.went (g.went e);
      nearer = λ e. let one = f.nearer (g.went e) in let two = g.nearer e in omega arith;
      goes = λ e h. g.goes e (f.goes (g.went e) h);
    }

some_left : (works : List Work) → StartsTried works → 0 < weight works
some_left (Tried tip frame until made crossing events ∷ works) h = omega arith
some_left (Worked kind events renews standing ∷ works) h = absurd h
some_left [] h = absurd h

-- where something is asked, moves are left
asked_left : (ask : Ask) (y : Walk) → AsksFor ask y.awaited y.works → 0 < moves_left y
asked_left asks.None y is = rw is (omega arith)
asked_left asks.Begin y is = rw is (omega arith)
asked_left (asks.Look until) y is = rw is.0 (some_left y.works is.1)
asked_left asks.Consume y is = rw is.2 (omega arith)

-- a move of the engine
pub nears_moved : (old new : State) (said : Moved) → old.ended ≡ None → new.ended ≡ end_said said → Falls old.led.walk new.led.walk said → Awaits new.led.walk said → Nears 1 old new
nears_moved old new (says.Ended e) none is falls awaits =
    record { went = λ h. none; nearer = λ h. cc; goes = λ h more. cc }
nears_moved old new (says.Ask ask) none is falls awaits =
    record { went = λ h. none; nearer = λ h. omega arith; goes = λ h more. asked_left ask new.led.walk awaits }

-- the end was told at the latest behind as many steps of the engine as there were moves left
pub ended_in_time : (n : ℕ) (old new : State) → Nears n old new → 0 < moves_left old.led.walk → moves_left old.led.walk ≤ n → new.ended ≢ None
ended_in_time n old new f some few e = let one = f.nearer e in let two = f.goes e some in absurd (omega arith)
