-- A run behind earlier events.
use Rattle.std.specs.Prelude.{◌≡◌, ℕ, Bool, List, ◌++◌}
use Rattle.flat_design.specs.declared.objects.Process.{Process}
use Rattle.step_data.specs.declared.event.Event.{Event}
use Rattle.step_model.specs.System.{ProcessState}
use Rattle.cycle_meaning.specs.Task.{Task}
use Rattle.cycle_meaning.specs.World.{World, Context, Local}
use Rattle.cycle_meaning.specs.Processes.{Stop, stopped, refused, run}
use Rattle.cycle_meaning.specs.Cycles.{Ran_of, all_ran, one_refused, resumes, run_all, start_all}

-- the world with earlier events in front, as `behind` of kernel_world
abbrev pub behind : List Event → World → World
behind events w = record w { events = events ++ w.events }

-- the world of a process has earlier events in front
abbrev pub local_behind : List Event → Local → Local
local_behind events l = record l { world = behind events l.world }

abbrev pub stop_behind : List Event → Stop → Stop
stop_behind events (stopped number at rest l) = stopped number at rest (local_behind events l)
stop_behind events (refused l r) = refused (local_behind events l) r

abbrev pub ran_behind : List Event → Ran_of → Ran_of
ran_behind events (all_ran w states) = all_ran (behind events w) states
ran_behind events (one_refused w r) = one_refused (behind events w) r

-- which processes resume doesn't depend on the events
abbrev pub ResumesAlike : Type 0
ResumesAlike =
    (at : ℕ → Context) (w : World) (k : ℕ) (ps : List Process) (states : List ProcessState) (events : List Event)
    → resumes at (behind events w) k ps states ≡ resumes at w k ps states

-- a process that runs behind earlier events gives its own behind them
abbrev pub RunAlike : Type 0
RunAlike =
    (budget : ℕ) (here : Context) (l : Local) (rest : List Task) (events : List Event)
    → run budget here (local_behind events l) rest ≡ stop_behind events (run budget here l rest)

-- so do those that resume
abbrev pub RunsAlike : Type 0
RunsAlike =
    (at : ℕ → Context) (k : ℕ) (ps : List Process) (states : List ProcessState) (resumed : List Bool) (w : World) (events : List Event)
    → run_all at k ps states resumed (behind events w) ≡ ran_behind events (run_all at k ps states resumed w)

-- and all at the start
abbrev pub StartsAlike : Type 0
StartsAlike =
    (at : ℕ → Context) (k : ℕ) (ps : List Process) (w : World) (events : List Event)
    → start_all at k ps (behind events w) ≡ ran_behind events (start_all at k ps w)
