-- The moves of the engine, by what it holds: an exact machine.
use Rattle.std.specs.Prelude.{ℕ, ◌+◌, ◌&&◌, ◌||◌, Bool, true, false, not, if◌then◌else◌, List, [], ◌++◌}
use Rattle.ams_value.specs.declared.val.Val.{Val}
use Rattle.step_data.specs.declared.tip.Tip.{Tip}
use Rattle.step_data.specs.declared.event.Event.{Event}
use Rattle.step_data.specs.Steps.{next, is_failed}
use Rattle.step_model.specs.Counts.{more}
use Rattle.step_model.specs.System.{System}
use Rattle.lockstep_model.specs.declared.moves.Ask.TheVariants as asks
use Rattle.lockstep_model.specs.declared.moves.Moved.{Moved}
use Rattle.lockstep_model.specs.declared.moves.Moved.TheVariants as says
use Rattle.lockstep_model.specs.Works.{Run, Work, Worked, Tried, cycles_at, steps_at}
use Rattle.lockstep_model.specs.Lockstep.{first_standing}
use Rattle.lockstep_model.specs.Walk.{Walk, Move, Awaited, Ready, Looking, Settling, Broken, Reply, NoReply, Here, Nothing, Consumed, ask_of, was_consumed}
use Rattle.cycle_machine.specs.Held.{Held, Step, Decides, Makes, Stops, rest_of, next_of, first_held}
use Rattle.cycle_machine.specs.Ready.{ready}

-- what the engine stands for between two moves: what it holds, the awaited reply, the tip and the frame that an ask
-- names, and how many attempts were its own and how many cycles there were
pub record Moment : Type 0 where
  pub held : Held
  pub awaited : Awaited
  pub tip : Tip
  pub frame : List Val
  pub own : ℕ
  pub cycles : ℕ

abbrev pub walk_with : Run → Moment → Walk
walk_with r m =
    record { works = r.works; end = r.end; awaited = m.awaited; tip = m.tip; frame = m.frame; own = m.own; cycles = m.cycles }

-- the walk of the run that is left
abbrev pub walk_of : System → Moment → Walk
walk_of sys m = walk_with (rest_of sys m.held) m

abbrev pub first_moment : System → Moment
first_moment sys =
    record {
      held = first_held sys;
      awaited = Ready;
      tip = (first_standing sys).tip;
      frame = (first_standing sys).frame;
      own = 0;
      cycles = 0;
    }

-- what a move leaves, what it says, the events that it adds, and how many trials and attempts it computes
pub record Moving : Type 0 where
  pub moment : Moment
  pub says : Moved
  pub events : List Event
  pub computed : ℕ

abbrev pub move_of : System → Moving → Move
move_of sys v = record { walk = walk_of sys v.moment; says = v.says; events = v.events; computed = v.computed }

-- a work is made, or an attempt is looked for, behind which something else is held
abbrev pub makes : Work → Held → Moment → Moving
makes (Worked kind events renews standing) new m =
    record {
      moment = record m { held = new; awaited = Ready; tip = standing.tip; frame = standing.frame; cycles = cycles_at kind + m.cycles };
      says = says.Ask (ask_of renews);
      events = events;
      computed = steps_at kind;
    }
makes (Tried tip frame until made crossing events) new m =
    record { moment = record m { awaited = Looking }; says = says.Ask (asks.Look until); events = []; computed = 0 }

abbrev pub proceed_by : Step → Moment → Moving
proceed_by (Decides new) m = record { moment = m; says = says.Ask asks.None; events = []; computed = 0 }
proceed_by (Makes p w new) m = makes w new m
proceed_by (Stops e) m = record { moment = record m { awaited = Ready }; says = says.Ended e; events = []; computed = 0 }

abbrev pub made_ready : System → Moment → Moment
made_ready sys m = record m { held = ready sys m.held }

-- the next work, where no reply is awaited
abbrev pub proceed : System → Moment → Moving
proceed sys m = proceed_by (next_of sys (ready sys m.held)) (made_ready sys m)

-- an own attempt
abbrev pub own_work : Work → Held → System → Moment → Moving
own_work (Worked kind events renews standing) new sys m = proceed sys m
own_work (Tried tip frame until made crossing events) new sys m =
    record {
      moment = record m { held = new; awaited = if crossing then Ready else Settling true (next m.tip made); own = more m.own };
      says = says.Ask (if crossing then asks.None else asks.Consume);
      events = events;
      computed = 1;
    }

abbrev pub own_by : Step → System → Moment → Moving
own_by (Decides new) sys m = proceed sys m
own_by (Makes p w new) sys m = own_work w new sys m
own_by (Stops e) sys m = proceed sys m

abbrev pub led : List Event → Moving → Moving
led events v = record v { events = events ++ v.events }

-- a found attempt: one that was a crossing or failed isn't consumed
abbrev pub found_work : Work → Held → System → Moment → Moving
found_work (Worked kind events renews standing) new sys m = proceed sys m
found_work (Tried tip frame until made crossing events) new sys m =
    if crossing || is_failed made.kind then led events (proceed sys (record m { held = new }))
    else
    record {
      moment = record m { held = new; awaited = Settling false (next m.tip made) };
      says = says.Ask asks.Consume;
      events = events;
      computed = 0;
    }

abbrev pub found_by : Step → System → Moment → Moving
found_by (Decides new) sys m = proceed sys m
found_by (Makes p w new) sys m = found_work w new sys m
found_by (Stops e) sys m = proceed sys m

abbrev pub is_over : Step → Bool
is_over (Decides new) = false
is_over (Makes p w new) = false
is_over (Stops e) = true

-- the attempt was used, or begins are asked for
abbrev pub settle : Bool → Tip → Bool → System → Moment → Moving
settle own after consumed sys m =
    if own && (not consumed && not (is_over (next_of sys (ready sys m.held))))
    then record { moment = record m { held = ready sys m.held; awaited = Ready; tip = after }; says = says.Ask asks.Begin; events = []; computed = 0 }
    else proceed sys (record m { awaited = Ready; tip = after })

abbrev pub looked : Reply → System → Moment → Moving
looked NoReply sys m = own_by (next_of sys m.held) sys m
looked (Here a) sys m = found_by (next_of sys m.held) sys m
looked Nothing sys m = own_by (next_of sys m.held) sys m
looked (Consumed b) sys m = own_by (next_of sys m.held) sys m

abbrev pub moved_at : Awaited → Reply → System → Moment → Moving
moved_at Ready reply sys m = proceed sys m
moved_at Looking reply sys m = looked reply sys m
moved_at (Settling own after) reply sys m = settle own after (was_consumed reply) sys m
moved_at Broken reply sys m = proceed sys m

-- the next move, by the reply to the last ask
abbrev pub moving : System → Moment → Reply → Moving
moving sys m reply = moved_at m.awaited reply sys m

-- an attempt comes next
abbrev pub IsTried : Step → Type 0
IsTried (Decides new) = ⊥
IsTried (Makes p (Worked kind events renews standing) new) = ⊥
IsTried (Makes p (Tried tip frame until made crossing events) new) = Unit {0}
IsTried (Stops e) = ⊥

-- where a look is awaited an attempt comes next
abbrev pub AheadOf : Awaited → Step → Type 0
AheadOf Ready s = Unit {0}
AheadOf Looking s = IsTried s
AheadOf (Settling own after) s = Unit {0}
AheadOf Broken s = Unit {0}

abbrev pub IsAhead : System → Moment → Type 0
IsAhead sys m = AheadOf m.awaited (next_of sys m.held)
