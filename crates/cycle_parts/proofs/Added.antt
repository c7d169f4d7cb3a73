-- Events are only added to those before.
use Rattle.std.proofs.Common.{◌≡◌, refl, ap, sym, ◌∙◌, subst, ℕ, Bool, ◌||◌, ℤ, List, [], ◌∷◌, ◌++◌, Result, Ok, Err}
use Rattle.flat_design.specs.declared.objects.Objects.{Objects}
use Rattle.step_data.specs.declared.event.Event.{Event}
use Rattle.step_data.specs.declared.outcome.Refusal.{Refusal}
use Rattle.step_model.specs.System.{Digital}
use Rattle.cycle_meaning.specs.World.{World}
use Rattle.cycle_meaning.specs.Cycles.{Ran_of, all_ran, one_refused, context_at, world_of, resumes, run_all, start_all, ended, after_resumption, cycle}
use Rattle.proc_exec.specs.Running.{IsFront}
use Rattle.run_laws.specs.Changes.{world_behind}
use Rattle.run_laws.specs.Events.{behind, ran_behind, RunsAlike, StartsAlike}
use Rattle.cycle_parts.specs.Added.{RunsAddEvents, StartsAddEvents, CyclesAddEvents}

nothing_behind : {A : Type 0} (xs : List A) → xs ++ [] ≡ xs
nothing_behind [] = refl
nothing_behind (x ∷ xs) = ap (λ l. x ∷ l) (nothing_behind xs)

front_all : (events : List Event) → IsFront events events
front_all events = ([], sym (nothing_behind events))

-- runs behind earlier events have these at the front
in_front : (events : List Event) (r q : Ran_of) → r ≡ ran_behind events q → IsFront events (world_behind r).events
in_front events r (all_ran v states) e = (v.events, ap (λ q. (world_behind q).events) e)
in_front events r (one_refused v f) e = (v.events, ap (λ q. (world_behind q).events) e)

alone : World → World
alone w = record w { events = [] }

is_behind : (w : World) → w ≡ behind w.events (alone w)
unfolding alone
is_behind w = ap (λ (l : List Event). record w { events = l }) (sym (nothing_behind w.events))

pub runs_add : RunsAlike → RunsAddEvents
runs_add law at k ps states bs w =
    in_front w.events (run_all at k ps states bs w) (run_all at k ps states bs (alone w)) (ap (run_all at k ps states bs) (is_behind w) ∙ law at k ps states bs (alone w) w.events)

pub starts_add : StartsAlike → StartsAddEvents
starts_add law at k ps w =
    in_front w.events (start_all at k ps w) (start_all at k ps (alone w)) (ap (start_all at k ps) (is_behind w) ∙ law at k ps (alone w) w.events)

ended_events : (d : Digital) (t : ℕ) (timed : Bool) (r : Ran_of) → (ended d t timed r).events ≡ (world_behind r).events
ended_events d t timed (all_ran w states) = refl
ended_events d t timed (one_refused w r) = refl

-- whichever resume, or where a condition is refused
by_resumed : RunsAddEvents → (objects : Objects) (d : Digital) (t n : ℕ) (x : List ℤ) (timed : Bool) (w : World) (found : Result (List Bool) Refusal) → IsFront w.events (after_resumption objects d t n x timed w found).events
by_resumed law objects d t n x timed w (Err r) = front_all w.events
by_resumed law objects d t n x timed w (Ok bs) =
    subst (IsFront w.events) (sym (ended_events d t timed (run_all (context_at objects t n x) 0 objects.processes d.processes bs w)))
    (law (context_at objects t n x) 0 objects.processes d.processes bs w)

pub cycles_add : RunsAddEvents → CyclesAddEvents
unfolding cycle
cycles_add law objects d t n x z =
    by_resumed law objects d t n x (d.timed || z) (world_of objects d t n x z) (resumes (context_at objects t n x) (world_of objects d t n x z) 0 objects.processes d.processes)
