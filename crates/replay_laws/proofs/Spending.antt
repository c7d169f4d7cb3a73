-- Behind a replay the end was told, and each attempt was used once.
use Rattle.std.proofs.Common.{◌≡◌, ◌≢◌, ℕ, ◌+◌, ◌<◌, ◌≤◌, ◌^◌, List, [], ◌∷◌, ◌++◌, replicate, Option, Some, None, refl, ap, sym, subst, ◌∙◌, arith}
use Rattle.flat_design.specs.declared.objects.Objects.{Objects}
use Rattle.step_data.specs.declared.outcome.End.{End}
use Rattle.step_data.specs.declared.outcome.Options.{Options}
use Rattle.step_model.specs.System.{System}
use Rattle.lockstep_model.specs.Budgets.{lockstep_within}
use Rattle.lockstep_model.specs.Lockstep.{lockstep}
use Rattle.lockstep_model.specs.LookLaws.{moves_of_run}
use Rattle.lockstep_model.specs.Walk.{first_walk, moves_left, here}
use Rattle.lockstep_model.specs.Works.{Work, Worked, Tried, attempts_in, tries_in}
use Rattle.step_schedule.specs.declared.Step.{Step}
use Rattle.step_schedule.specs.declared.Step.TheVariants.{D}
use Rattle.core_hands.specs.Moves.{Led}
use Rattle.core_steps.specs.States.{State, first_state, stepped_all, engine_steps}
use Rattle.core_steps.specs.Ending.{Nears, ended_in_time}
use Rattle.core_steps.specs.Kept.{IsOver}
use Rattle.core_steps.specs.Laws.{Balanced}
use Rattle.replay_model.specs.Replays.{steps_to_end, replayed, report_at, report_of}
use Rattle.system_model.specs.System.{system_of, try_budget}
use Rattle.system_model.specs.Trace.{run_of}
use Rattle.replay_laws.specs.Sums.{AreOwnOrReused}
use Rattle.replay_laws.proofs.Going.{Goes, first_goes, steps_go, steps_balance, steps_near, engine_joins, engine_alone}

-- the schedule, and the steps of the engine behind it
abbrev whole : System → List Step → List Step
whole sys schedule = schedule ++ replicate (steps_to_end sys) D

abbrev last : System → List Step → State
last sys schedule = stepped_all sys (whole sys schedule) (first_state sys)

last_goes : (sys : System) (schedule : List Step) → Goes sys (last sys schedule)
last_goes sys schedule = steps_go sys (whole sys schedule) (first_state sys) (first_goes sys)

-- enough steps of the engine
long_enough : (n : ℕ) (schedule : List Step) → n ≤ engine_steps (schedule ++ replicate n D)
long_enough n schedule =
    let joins : engine_steps (schedule ++ replicate n D) ≡ engine_steps schedule + engine_steps (replicate n D) = engine_joins schedule (replicate n D) in
    let alone : engine_steps (replicate n D) ≡ n = engine_alone n in
    omega arith

last_ended : (sys : System) (schedule : List Step) → (last sys schedule).ended ≢ None
last_ended sys schedule =
    let n : ℕ = engine_steps (whole sys schedule) in
    let near : Nears n (first_state sys) (last sys schedule) = steps_near sys (whole sys schedule) (first_state sys) (first_goes sys) in
    let some : 0 < moves_left (first_walk sys) = omega arith in
    let most : moves_left (first_walk sys) ≡ steps_to_end sys = moves_of_run sys in
    ended_in_time n (first_state sys) (last sys schedule) near some (subst (λ k. k ≤ n) (sym most) (long_enough (steps_to_end sys) schedule))

-- where the end was told
record IsDone (sys : System) (ended : Option End) (led : Led) : Type 0 where
  end_is : ended ≡ Some (lockstep sys).end
  works : led.walk.works ≡ []
  none_here : here led.reply ≡ 0

done_by : (sys : System) (ended : Option End) (led : Led) → ended ≢ None → IsOver ended led → led.walk.end ≡ (lockstep sys).end → IsDone sys ended led
done_by sys None led told over end = absurd (told refl)
done_by sys (Some e) led told over end = record { end_is = ap Some (over.1 ∙ end); works = over.0; none_here = over.2 }

last_done : (sys : System) (schedule : List Step) → IsDone sys (last sys schedule).ended (last sys schedule).led
last_done sys schedule =
    let goes = last_goes sys schedule in
    done_by sys (last sys schedule).ended (last sys schedule).led (last_ended sys schedule) goes.over goes.end

pub replays_end : (sys : System) (schedule : List Step) → (replayed sys schedule).ended ≡ Some (lockstep sys).end
unfolding replayed
replays_end sys schedule = (last_done sys schedule).end_is

first_balanced : (sys : System) → attempts_in (lockstep sys).works < 2 ^ 62 → Balanced (attempts_in (lockstep sys).works) (first_state sys).led (first_state sys).line
first_balanced sys room = record { sum = omega arith; room = room }

-- behind the end the attempts are own or reused ones
spent : (sys : System) (total : ℕ) (s : State) → IsDone sys s.ended s.led → Balanced total s.led s.line → (report_at s).own + (report_at s).counts.reused ≡ total
spent sys total s done b =
    let sum : s.led.walk.own + (s.line.journal.counts.reused + attempts_in s.led.walk.works) ≡ total + here s.led.reply = b.sum in
    let left : attempts_in s.led.walk.works ≡ 0 = ap attempts_in done.works in
    let none : here s.led.reply ≡ 0 = done.none_here in
    omega arith

pub replays_use_each : (sys : System) (schedule : List Step) → attempts_in (lockstep sys).works < 2 ^ 62 → AreOwnOrReused (report_of sys schedule) (lockstep sys).works
unfolding replayed
replays_use_each sys schedule room =
    let total : ℕ = attempts_in (lockstep sys).works in
    spent sys total (last sys schedule) (last_done sys schedule) (steps_balance sys total (whole sys schedule) (first_state sys) (first_goes sys) (first_balanced sys room))

-- ---- of a design

-- each attempt is a try
few : (works : List Work) → attempts_in works ≤ tries_in works
few [] = omega arith
few (Worked kind events renews standing ∷ works) = let more = few works in omega arith
few (Tried tip frame until made crossing events ∷ works) = let more = few works in omega arith

design_room : (objects : Objects) (options : Options) → attempts_in (run_of objects options).works < 2 ^ 62
unfolding try_budget
design_room objects options =
    let one = few (run_of objects options).works in
    let two = (lockstep_within (system_of objects options)).tries in
    omega arith

pub designs_use_each : (objects : Objects) (options : Options) (schedule : List Step) → AreOwnOrReused (report_of (system_of objects options) schedule) (run_of objects options).works
designs_use_each objects options schedule = replays_use_each (system_of objects options) schedule (design_room objects options)
