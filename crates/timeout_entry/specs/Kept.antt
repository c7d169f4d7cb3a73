-- The timeouts that are kept of processes.
use Rattle.std.specs.Prelude.{◌≡◌, ℕ, Bool, List, length, map, Option, Ok}
use Rattle.flat_design.specs.declared.objects.Process.{Process}
use Rattle.step_model.specs.System.{ProcessState}
use Rattle.cycle_meaning.specs.World.{World, Context}
use Rattle.cycle_meaning.specs.Cycles.{all_ran, resumes, run_all}
use Rattle.next_cycle.specs.Next.{timeouts_of}
use Rattle.process_runs.specs.Kept.{Kept, states_kept}
use Rattle.cycle_timeouts.specs.Entered.{unless_due, entered}

abbrev pub timeouts_kept : List Kept → List (Option ℕ)
timeouts_kept ks = map (λ (k : Kept). k.timeout) ks

-- they are those of the states
abbrev pub StartsAreEntered : Type 0
StartsAreEntered = (ps : List Process) (ks : List Kept) → length ks ≡ length ps → timeouts_kept ks ≡ timeouts_of (states_kept ps ks)

-- and behind the runs of a cycle, in which what was due was taken out before
abbrev pub RunsAreEntered : Type 0
RunsAreEntered =
    (at : ℕ → Context) (now k : ℕ) (ps : List Process) (states : List ProcessState) (ks : List Kept) (resumed : List Bool) (begun w left : World)
    → length states ≡ length ps → length ks ≡ length ps → ((j : ℕ) → (at j).t ≡ now) → resumes at begun k ps states ≡ Ok resumed → run_all at k ps states resumed w ≡ all_ran left (states_kept ps ks)
    → entered (map (unless_due now) (timeouts_of states)) (timeouts_kept ks) resumed ≡ timeouts_of (states_kept ps ks)
