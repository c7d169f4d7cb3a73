-- One step more of a schedule.
use Rattle.std.proofs.Common.{◌≡◌, ◌≢◌, ◌<◌, ◌≤◌, ◌+◌, ℕ, suc, List, [], length, get_or, drop, None, arith, ap}
use Rattle.std.proofs.Math.Seq.{drop-cons}
use Rattle.std.proofs.lemmas.List.{drop_all}
use Rattle.step_schedule.specs.declared.Step.{Step}
use Rattle.step_schedule.specs.declared.Step.TheVariants.{D}
use Rattle.lockstep_model.specs.Walk.{moves_left}
use Rattle.core_steps.specs.States.{State, by_engine, engine_steps}
use Rattle.core_steps.specs.Ending.{Nears, nears_then, ended_in_time}

-- how many steps of the engine are behind a state, where those of the schedule from a place on are still to come
abbrev pub NearsAt : List Step → ℕ → State → State → Type 0
NearsAt schedule i a b = (gone : ℕ) × (gone + engine_steps (drop i schedule) ≡ engine_steps schedule) × Nears gone a b

pub nears_on : (schedule : List Step) (i : ℕ) (step : Step) (a b c : State) → i < length schedule → step ≡ get_or schedule i D → NearsAt schedule i a b → Nears (by_engine step) b c → NearsAt schedule (i + 1) a c
nears_on schedule i step a b c within is near one =
    let left : engine_steps (drop i schedule) ≡ by_engine (get_or schedule i D) + engine_steps (drop (suc i) schedule) = ap engine_steps (drop-cons schedule i D within) in
    let next : suc i ≡ i + 1 = omega arith in
    let rest : engine_steps (drop (suc i) schedule) ≡ engine_steps (drop (i + 1) schedule) = ap (λ (n : ℕ). engine_steps (drop n schedule)) next in
    let same : by_engine step ≡ by_engine (get_or schedule i D) = ap by_engine is in
    let sum : near.0 + engine_steps (drop i schedule) ≡ engine_steps schedule = near.1 in
    (near.0 + by_engine step, omega arith, nears_then near.0 (by_engine step) a b c near.2 one)

-- behind all steps of the schedule
pub all_done : (schedule : List Step) (i : ℕ) (a b : State) → length schedule ≤ i → NearsAt schedule i a b → 0 < moves_left a.led.walk → moves_left a.led.walk ≤ engine_steps schedule → b.ended ≢ None
all_done schedule i a b past near some few =
    let none : drop i schedule ≡ [] = drop_all i schedule past in
    let left : engine_steps (drop i schedule) ≡ 0 = ap engine_steps none in
    let sum : near.0 + engine_steps (drop i schedule) ≡ engine_steps schedule = near.1 in
    ended_in_time near.0 a b near.2 some (omega arith)
