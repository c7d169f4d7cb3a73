-- All attempts of lockstep were found or made.
use Rattle.std.proofs.Common.{◌≡◌, ℕ, ◌+◌, ◌<◌, ◌^◌, [], Result, Ok, Err, OnOk, arith, ap}
use Rattle.std.specs.declared.alloc.AllocError.{AllocError}
use Rattle.step_data.specs.declared.outcome.End.{End}
use Rattle.step_model.specs.System.{System}
use Rattle.lockstep_model.specs.Lockstep.{lockstep}
use Rattle.lockstep_model.specs.Walk.{here}
use Rattle.lockstep_model.specs.Works.{attempts_in}
use Rattle.core_steps.specs.States.{State, first_state}
use Rattle.core_steps.specs.Laws.{Balanced}

pub first_balanced : (sys : System) (s : State) → s ≡ first_state sys → attempts_in (lockstep sys).works < 2 ^ 62 → Balanced (attempts_in (lockstep sys).works) s.led s.line
first_balanced sys s fresh room =
    let own : s.led.walk.own ≡ 0 = ap (λ (s : State). s.led.walk.own) fresh in
    let reused : s.line.journal.counts.reused ≡ 0 = ap (λ (s : State). s.line.journal.counts.reused) fresh in
    let works : attempts_in s.led.walk.works ≡ attempts_in (lockstep sys).works = ap (λ (s : State). attempts_in s.led.walk.works) fresh in
    let none : here s.led.reply ≡ 0 = ap (λ (s : State). here s.led.reply) fresh in
    record { sum = omega arith; room = room }

pub all_spent : (r : Result End AllocError) (total : ℕ) (old s : State) → Balanced total old.led old.line → OnOk r ((n : ℕ) → Balanced n old.led old.line → Balanced n s.led s.line) → OnOk r (s.led.walk.works ≡ []) → OnOk r (here s.led.reply ≡ 0) → OnOk r (s.led.walk.own + s.line.journal.counts.reused ≡ total)
all_spent (Ok e) total old s start balanced none_left none_here =
    let b : Balanced total s.led s.line = balanced total start in
    let zero : attempts_in s.led.walk.works ≡ 0 = ap attempts_in none_left in
    let sum : s.led.walk.own + (s.line.journal.counts.reused + attempts_in s.led.walk.works) ≡ total + here s.led.reply = b.sum in
    omega arith
all_spent (Err e) total old s start balanced none_left none_here = tt
