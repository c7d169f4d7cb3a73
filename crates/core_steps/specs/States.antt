-- The core: the engine's walk and reply, the timeline, and the worker's hand.
use Rattle.std.specs.Prelude.{ℕ, ◌+◌, List, [], ◌∷◌, Option, Some, None}
use Rattle.step_data.specs.declared.outcome.End.{End}
use Rattle.step_model.specs.System.{System}
use Rattle.lockstep_model.specs.declared.moves.Ask.TheVariants as asks
use Rattle.lockstep_model.specs.declared.moves.Moved.{Moved}
use Rattle.lockstep_model.specs.declared.moves.Moved.TheVariants as says
use Rattle.lockstep_model.specs.Walk as w
use Rattle.lockstep_model.specs.Walk.{moved, first_walk}
use Rattle.timeline.specs.declared.line.Line.{Line}
use Rattle.timeline.specs.Jobs.{Due}
use Rattle.timeline.specs.Line.{fresh}
use Rattle.step_schedule.specs.declared.Step.{Step}
use Rattle.step_schedule.specs.declared.Step.TheVariants.{D, W}
use Rattle.core_hands.specs.Moves.{Led, led_on, line_led, hand_worked, line_worked}

pub record State : Type 0 where
  pub led : Led
  pub line : Line
  pub hand : Option Due
  pub ended : Option End

abbrev pub first_led : System → Led
first_led sys = record { walk = first_walk sys; reply = w.NoReply }

abbrev pub first_line : System → Line
first_line sys = fresh sys.options.ahead sys.options.stop sys.unknowns sys.frame_len

abbrev pub first_state : System → State
first_state sys = record { led = first_led sys; line = first_line sys; hand = None; ended = None }

abbrev pub end_said : Moved → Option End
end_said (says.Ended e) = Some e
end_said (says.Ask ask) = None

-- one step, before the end was told
abbrev pub stepped_on : System → Step → State → State
stepped_on sys D s =
    record {
      led = led_on sys s.led s.line;
      line = line_led s.led s.line;
      hand = s.hand;
      ended = end_said (moved s.led.walk s.led.reply).says;
    }
stepped_on sys W s = record s { line = line_worked sys s.hand s.line; hand = hand_worked s.hand s.line }

abbrev pub said_on : Step → State → Moved
said_on D s = (moved s.led.walk s.led.reply).says
said_on W s = says.Ask asks.None

-- where the end was told nothing changes any more, and each step tells it again
abbrev pub stepped_by : Option End → System → Step → State → State
stepped_by None sys step s = stepped_on sys step s
stepped_by (Some e) sys step s = s

abbrev pub stepped : System → Step → State → State
stepped sys step s = stepped_by s.ended sys step s

abbrev pub said_by : Option End → Step → State → Moved
said_by None step s = said_on step s
said_by (Some e) step s = says.Ended e

abbrev pub said : Step → State → Moved
said step s = said_by s.ended step s

-- a list of steps, one behind the other
abbrev pub stepped_all : System → List Step → State → State
stepped_all sys [] s = s
stepped_all sys (step ∷ steps) s = stepped_all sys steps (stepped sys step s)

-- how many of them are the engine's
abbrev pub by_engine : Step → ℕ
by_engine D = 1
by_engine W = 0

abbrev pub engine_steps : List Step → ℕ
engine_steps [] = 0
engine_steps (step ∷ steps) = by_engine step + engine_steps steps
