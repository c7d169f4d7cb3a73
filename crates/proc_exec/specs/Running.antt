-- A process that runs from its place to the next wait.
use Rattle.std.specs.Prelude.{◌≡◌, ◌<◌, ◌++◌, List, length, Option, Some, None, Result, Ok, Err}
use Rattle.flat_expr.specs.declared.statement.Statement.{Statement, out-Statement}
use Rattle.flat_design.specs.declared.objects.Process.{Process}
use Rattle.step_data.specs.declared.event.Event.{Event}
use Rattle.cycle_meaning.specs.World.{Context, Local}
use Rattle.process_laws.specs.Resumed.{AreOf}
use Rattle.statement_lists.specs.declared.fault.ListFault.{ListFault}
use Rattle.statement_lists.specs.declared.fault.ListFault.TheVariants as fault
use Rattle.process_place.specs.ProcessPlace.{at_start, IsIn}
use Rattle.process_place.specs.Moves.{Coming, begins_at, turns_to, starts_again, has_fault, Moved, goes_to, is_refused, moved, Ended, waiting, ended_refused}
use Rattle.process_ready.specs.Ready.{GoesReady}
use Rattle.process_stack.specs.Stacks.{Stacked, round_of, place_of}
use Rattle.process_control.specs.declared.next.Parameter.{Parameter}
use Rattle.process_control.specs.declared.control.Wait.{Wait}

-- a process with this text stands at the stack and is ready to go on there
pub record StandsReady (here : Context) (l : Local) (top : List Statement) (s : Stacked) : Type 0 where
  pub process : Process
  pub text_is : process.statements ≡ top
  pub of_text : AreOf top (round_of top s.frames)
  pub is_in : IsIn top (place_of top s)
  pub ready : GoesReady here process l (place_of top s)

-- ---- one that counts

-- what the next one that counts leads to
abbrev pub counted_at : Context → Local → List Statement → Coming → Moved
counted_at here l top (begins_at s c k) = moved here l top c k (out-Statement s)
counted_at here l top (turns_to p turned) = goes_to p turned
counted_at here l top starts_again = goes_to at_start l
counted_at here l top (has_fault r) = is_refused l r

-- the parameter of a turn is a variable
abbrev pub HasVariable : Local → Option Parameter → Type 0
HasVariable l None = Unit {0}
HasVariable l (Some p) = p.number < length l.variables

-- ---- the run

abbrev pub events_of : Ended → List Event
events_of (waiting number t p l) = l.world.events
events_of (ended_refused l r) = l.world.events

abbrev pub IsFront : List Event → List Event → Type 0
IsFront front whole = (more : List Event) × (whole ≡ front ++ more)

-- a run that ends so: the process waits at the place of the stack, or it is refused. Where there was no memory, its events
-- are those at the front
abbrev pub Ends : Ended → List Statement → Local → Stacked → Result Wait ListFault → Type 0
Ends e top l s (Ok w) = e ≡ waiting w.number w.timeout (place_of top s) l
Ends e top l s (Err (fault.Refused r)) = e ≡ ended_refused l r
Ends e top l s (Err fault.Memory) = IsFront l.world.events (events_of e)
