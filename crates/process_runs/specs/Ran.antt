-- The runs of the processes, one behind the other.
use Rattle.std.specs.Prelude.{◌≡◌, ℕ, zero, suc, ◌+◌, Bool, List, [], ◌∷◌, Result, Ok, Err}
use Rattle.flat_design.specs.declared.objects.Process.{Process}
use Rattle.step_data.specs.declared.event.Event.{Event}
use Rattle.step_model.specs.System.{ProcessState}
use Rattle.cycle_meaning.specs.World.{World, Context, Local}
use Rattle.cycle_meaning.specs.Cycles.{Ran_of, all_ran, one_refused, with_state, run_all, start_all}
use Rattle.statement_lists.specs.declared.fault.ListFault.{ListFault}
use Rattle.statement_lists.specs.declared.fault.ListFault.TheVariants as fault
use Rattle.process_laws.specs.Held.{kept_variables}
use Rattle.process_place.specs.Moves.{Ended, waiting, ended_refused}
use Rattle.proc_exec.specs.Running.{StandsReady, events_of, IsFront}
use Rattle.process_runs.specs.Kept.{Kept, place_kept}

-- ---- one process

-- the run ended at the wait that is kept
pub record Rested (here : Context) (p : Process) (k : Kept) (w : World) (e : Ended) : Type 0 where
  pub after : Local
  pub ends : e ≡ waiting k.wait k.timeout (place_kept p k) after
  pub variables : k.variables ≡ kept_variables p k.wait after
  pub world : after.world ≡ w
  pub ready : StandsReady here after p.statements k.stack

abbrev pub RunEnds : Context → Process → Kept → World → Ended → Result Unit ListFault → Type 0
RunEnds here p k w e (Ok _) = Rested here p k w e
RunEnds here p k w e (Err (fault.Refused r)) = (after : Local) × (e ≡ ended_refused after r) × (after.world ≡ w)
RunEnds here p k w e (Err fault.Memory) = IsFront w.events (events_of e)

-- ---- all

abbrev pub events_in : Ran_of → List Event
events_in (all_ran w states) = w.events
events_in (one_refused w r) = w.events

-- how the runs end; where there was no memory, the events are those at the front
abbrev pub AllEnd : Ran_of → World → List ProcessState → Result Unit ListFault → Type 0
AllEnd e w states (Ok _) = e ≡ all_ran w states
AllEnd e w states (Err (fault.Refused r)) = e ≡ one_refused w r
AllEnd e w states (Err fault.Memory) = IsFront w.events (events_in e)

-- the same behind one of them, where the others are still to run
abbrev pub NextEnds : Ran_of → Ran_of → World → Result Unit ListFault → Type 0
NextEnds e others w (Ok _) = e ≡ others
NextEnds e others w (Err (fault.Refused r)) = e ≡ one_refused w r
NextEnds e others w (Err fault.Memory) = IsFront w.events (events_in e)

-- the processes from a number on run, those before it are in their states
unfoldable pub ran_from : ℕ → (ℕ → Context) → ℕ → List Process → List ProcessState → List Bool → World → Ran_of
ran_from zero at k ps states bs w = run_all at k ps states bs w
ran_from (suc n) at k [] states bs w = all_ran w []
ran_from (suc n) at k (p ∷ ps) [] bs w = all_ran w []
ran_from (suc n) at k (p ∷ ps) (s ∷ states) [] w = all_ran w (s ∷ states)
ran_from (suc n) at k (p ∷ ps) (s ∷ states) (b ∷ bs) w = with_state s (ran_from n at (k + 1) ps states bs w)

unfoldable pub started_from : ℕ → (ℕ → Context) → ℕ → List Process → List ProcessState → World → Ran_of
started_from zero at k ps states w = start_all at k ps w
started_from (suc n) at k [] states w = all_ran w []
started_from (suc n) at k (p ∷ ps) [] w = all_ran w []
started_from (suc n) at k (p ∷ ps) (s ∷ states) w = with_state s (started_from n at (k + 1) ps states w)
