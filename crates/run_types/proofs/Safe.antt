-- The start and each cycle leave a state from which every cycle can be run.
use Rattle.std.proofs.Common.{◌≡◌, refl, ℕ, Bool, false, ◌||◌, ℤ, List, Result, Ok, Err}
use Rattle.flat_design.specs.declared.objects.Objects.{Objects}
use Rattle.step_data.specs.declared.outcome.Refusal.{Refusal}
use Rattle.step_data.specs.declared.outcome.Ran.TheVariants.{Done}
use Rattle.step_model.specs.System.{Digital}
use Rattle.cycle_meaning.specs.World.{World, Context, driven_of}
use Rattle.cycle_meaning.specs.Cycles.{Ran_of, all_ran, one_refused, run_all, start_all, context_at, world_of, first_world, first_digital, resumes, ended, after_resumption, cycle, start}
use Rattle.next_cycle.proofs.Earliest.{next_is_first}
use Rattle.run_laws.specs.Times.{NoneIsBefore, LeavesLate}
use Rattle.run_laws.specs.Values.{WorldFits}
use Rattle.run_laws.specs.Safe.{AreResting, IsSafe, StartIsSafe, CycleIsSafe, NextIsLater}
use Rattle.run_changes.proofs.Times.{begun_is_late, runs_are_late, starts_are_late, nothing_pending, next_is_not_before}
use Rattle.run_types.proofs.Beginning.{first_fits, begun_fits, kept_fits}
use Rattle.run_types.proofs.Running.{RanFits, runs_fit, starts_fit, all_from}

-- what is kept behind the runs
ended_safe : (here : Context) (d : Digital) (timed : Bool) (r : Ran_of) (broke : Bool) → RanFits here 0 here.objects.processes r → LeavesLate here.t r → (ended d here.t timed r).ran ≡ Done broke
    → IsSafe here.objects (ended d here.t timed r).digital
ended_safe here d timed (all_ran w states) broke h late e = record { values = kept_fits here w h.0; times = late; processes = h.1; elements = h.0.elements }
ended_safe here d timed (one_refused w r) broke h late e = absurd cc

pub start_is_safe : StartIsSafe
unfolding start
start_is_safe objects x broke design count e =
    let here : Context = context_at objects 0 0 x 0 in
    ended_safe here (first_digital objects) false (start_all (context_at objects 0 0 x) 0 objects.processes (first_world objects)) broke
    (starts_fit here 0 objects.processes (first_world objects) (all_from here) design.processes (first_fits objects x 0 design count))
    (starts_are_late (context_at objects 0 0 x) 0 0 objects.processes (first_world objects) (λ j. refl) (nothing_pending (driven_of objects))) e

resumption_safe : (objects : Objects) (d : Digital) (t n : ℕ) (x : List ℤ) (timed : Bool) (w : World) (r : Result (List Bool) Refusal) (broke : Bool)
    → WorldFits (context_at objects t n x 0) w → AreResting objects 0 objects.processes d.processes → NoneIsBefore t w.queues d.processes
    → (after_resumption objects d t n x timed w r).ran ≡ Done broke → IsSafe objects (after_resumption objects d t n x timed w r).digital
resumption_safe objects d t n x timed w (Ok resumed) broke h rest late e =
    let here : Context = context_at objects t n x 0 in
    ended_safe here d timed (run_all (context_at objects t n x) 0 objects.processes d.processes resumed w) broke
    (runs_fit here 0 objects.processes d.processes resumed w (all_from here) rest h)
    (runs_are_late (context_at objects t n x) t 0 objects.processes d.processes resumed w (λ j. refl) late) e
resumption_safe objects d t n x timed w (Err r) broke h rest late e = absurd cc

pub cycle_is_safe : CycleIsSafe
unfolding cycle
cycle_is_safe objects d t n x to_time broke design safe count now next e =
    let w : World = world_of objects d t n x to_time in
    resumption_safe objects d t n x (d.timed || to_time) w (resumes (context_at objects t n x) w 0 objects.processes d.processes) broke
    (begun_fits objects d t n x to_time 0 design safe.values count now) safe.processes
    (record { transactions = begun_is_late objects d t n x to_time; timeouts = next_is_first.timeouts d t next }) e

pub next_is_later : NextIsLater
next_is_later objects d safe = next_is_not_before d d.time safe.times
