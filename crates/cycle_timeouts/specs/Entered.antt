-- The timeouts behind the runs of a cycle (IEEE 1076, 10.2 and 14.7.5).
use Rattle.std.specs.Prelude.{◌≡◌, ℕ, Bool, if◌then◌else◌, List, [], ◌∷◌, length, map, Option, None, Ok}
use Rattle.flat_design.specs.declared.objects.Process.{Process}
use Rattle.step_model.specs.System.{ProcessState}
use Rattle.cycle_meaning.specs.World.{World, Context}
use Rattle.cycle_meaning.specs.Cycles.{all_ran, resumes, run_all}
use Rattle.agenda.specs.Times.{is_time}
use Rattle.next_cycle.specs.Next.{timeouts_of}

-- a time that is due is taken out
abbrev pub unless_due : ℕ → Option ℕ → Option ℕ
unless_due now at = if is_time at now then None else at

-- the new timeouts of the processes that ran are entered, the others stay
abbrev pub entered : List (Option ℕ) → List (Option ℕ) → List Bool → List (Option ℕ)
entered [] new ran = []
entered (at ∷ times) [] ran = at ∷ times
entered (at ∷ times) (u ∷ new) [] = at ∷ times
entered (at ∷ times) (u ∷ new) (b ∷ ran) = (if b then u else at) ∷ entered times new ran

-- so the times are the timeouts of the states behind the runs of those that resume
abbrev pub TimeoutsAreEntered : Type 0
TimeoutsAreEntered =
    (at : ℕ → Context) (now k : ℕ) (ps : List Process) (states after : List ProcessState) (resumed : List Bool) (begun w left : World)
    → length states ≡ length ps → ((j : ℕ) → (at j).t ≡ now) → resumes at begun k ps states ≡ Ok resumed → run_all at k ps states resumed w ≡ all_ran left after
    → entered (map (unless_due now) (timeouts_of states)) (timeouts_of after) resumed ≡ timeouts_of after
