-- The time and DOMAIN behind the start and behind a cycle.
use Rattle.std.proofs.Common.{◌≡◌, refl, ℕ, Bool, false, ◌||◌, ℤ, List, Result, Ok, Err}
use Rattle.flat_design.specs.declared.objects.Objects.{Objects}
use Rattle.step_data.specs.declared.outcome.Refusal.{Refusal}
use Rattle.step_data.specs.declared.outcome.Ran.TheVariants.{Done}
use Rattle.step_model.specs.System.{Digital}
use Rattle.cycle_meaning.specs.World.{World}
use Rattle.cycle_meaning.specs.Cycles.{Ran_of, all_ran, one_refused, context_at, world_of, resumes, start_all, run_all, ended, after_resumption, first_world, first_digital, start, cycle}

-- at this time, with DOMAIN so
pub record IsAt (t : ℕ) (timed : Bool) (d : Digital) : Type 0 where
  pub time : d.time ≡ t
  pub domain : d.timed ≡ timed

first : (objects : Objects) (r : Ran_of) → IsAt 0 false (ended (first_digital objects) 0 false r).digital
first objects (all_ran w states) = record { time = refl; domain = refl }
first objects (one_refused w r) = record { time = refl; domain = refl }

pub start_at : (objects : Objects) (x : List ℤ) → IsAt 0 false (start objects x).digital
unfolding start
start_at objects x = first objects (start_all (context_at objects 0 0 x) 0 objects.processes (first_world objects))

ended_at : (d : Digital) (t : ℕ) (timed : Bool) (r : Ran_of) (broke : Bool) → (ended d t timed r).ran ≡ Done broke → IsAt t timed (ended d t timed r).digital
ended_at d t timed (all_ran w states) broke e = record { time = refl; domain = refl }
ended_at d t timed (one_refused w r) broke e = absurd (cc)

resumed_at : (objects : Objects) (d : Digital) (t n : ℕ) (x : List ℤ) (timed : Bool) (w : World) (found : Result (List Bool) Refusal) (broke : Bool)
    → (after_resumption objects d t n x timed w found).ran ≡ Done broke → IsAt t timed (after_resumption objects d t n x timed w found).digital
resumed_at objects d t n x timed w (Ok bs) broke e = ended_at d t timed (run_all (context_at objects t n x) 0 objects.processes d.processes bs w) broke e
resumed_at objects d t n x timed w (Err r) broke e = absurd (cc)

pub cycle_at : (objects : Objects) (d : Digital) (t n : ℕ) (x : List ℤ) (to_time broke : Bool) → (cycle objects d t n x to_time).ran ≡ Done broke → IsAt t (d.timed || to_time) (cycle objects d t n x to_time).digital
unfolding cycle
cycle_at objects d t n x to_time broke e =
    resumed_at objects d t n x (d.timed || to_time) (world_of objects d t n x to_time) (resumes (context_at objects t n x) (world_of objects d t n x to_time) 0 objects.processes d.processes) broke e
