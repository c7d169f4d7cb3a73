-- An attempt comes next.
use Rattle.std.specs.Prelude.{◌≡◌, ℕ, zero, suc, ◌-◌, ◌≤◌, Bool, true, false, ℤ, List, Result, Ok, Err, refl}
use Rattle.std.proofs.Common.{ap, subst, ◌∙◌, arith}
use Rattle.step_data.specs.declared.outcome.Cause.{Cause}
use Rattle.step_data.specs.declared.outcome.Ran.{Ran}
use Rattle.step_data.specs.declared.outcome.Ran.TheVariants as rans
use Rattle.step_model.specs.System.{System, Digital, Landing}
use Rattle.lockstep_model.specs.Crossing.{Bounds, differs, is_near}
use Rattle.lockstep_model.specs.RunStates.{RunState}
use Rattle.lockstep_model.specs.Lockstep as l
use Rattle.above_events.specs.Locating.{with_point}
use Rattle.cycle_machine.specs.Held as h
use Rattle.cycle_machine.specs.Held.{Held, Step, next_of, next_by}
use Rattle.cycle_machine.specs.Moves.{IsTried}
use Rattle.cycle_machine.specs.Ready.{IsReady}
use Rattle.run_place.specs.declared.place.RunPlace.{RunPlace}
use Rattle.run_place.specs.declared.place.Stage.{Stage}
use Rattle.run_place.specs.declared.place.Stage.TheVariants as stages
use Rattle.run_place.specs.Places.{stage_of, state_of, held_of}

-- an attempt is the next thing, with a try that is left
pub record TriedNext (sys : System) (d : Digital) (p : RunPlace) : Type 0 where
  pub stage : p.stage ≡ stages.InPhase
  pub apart : l.is_there sys (state_of d p) ≡ false
  pub fits : l.ends_in_time sys (state_of d p) ≡ true
  pub some : 1 ≤ p.tries_left
  pub comes : next_of sys (held_of d p) ≡ h.attempted sys p.cycles_left (p.tries_left - 1) (state_of d p) (l.attempt_at sys (state_of d p))

-- by what a phase does
record PhaseTries (there fits : Bool) (n : ℕ) (sys : System) (c : ℕ) (q : RunState) : Type 0 where
  apart : there ≡ false
  fits-in : fits ≡ true
  some : 1 ≤ n
  comes : h.phase_by (l.phase_step there fits) sys c n q ≡ h.attempted sys c (n - 1) q (l.attempt_at sys q)

tries : (n : ℕ) (sys : System) (c : ℕ) (q : RunState) → PhaseTries false true (suc n) sys c q
tries n sys c q = record { apart = refl; fits-in = refl; some = omega arith; comes = ap (λ (k : ℕ). h.attempted sys c k q (l.attempt_at sys q)) (less n) }
  where
    less : (n : ℕ) → n ≡ suc n - 1
    less n = omega arith

ready-tries : (there fits : Bool) (n : ℕ) (sys : System) (c : ℕ) (q : RunState) → fits ≡ true → IsReady (h.phase_by (l.phase_step there fits) sys c n q) → PhaseTries there fits n sys c q
ready-tries true fits n sys c q far r = absurd r
ready-tries false false n sys c q far r = cc
ready-tries false true zero sys c q far r = absurd r
ready-tries false true (suc n) sys c q far r = tries n sys c q

side-tries-none : (o : Result Landing Cause) (sys : System) (c n : ℕ) (q : RunState) → IsTried (h.sided o sys c n q) → ⊥
side-tries-none (Err e) sys c n q r = by (l.is_too_small sys q) r
  where
    by : (small : Bool) → IsTried (h.refused_by small sys c n q e) → ⊥
    by true r = r
    by false r = r
side-tries-none (Ok s) sys c n q r = by (differs s.x (l.thresholds_at sys q)) r
  where
    by : (crosses : Bool) → IsTried (h.accepted_by crosses sys c n q s) → ⊥
    by true r = r
    by false r = r

ahead-tries : (there fits : Bool) (n : ℕ) (sys : System) (c : ℕ) (q : RunState) → IsTried (h.phase_by (l.phase_step there fits) sys c n q) → PhaseTries there fits n sys c q
ahead-tries true fits n sys c q r = absurd r
ahead-tries false false zero sys c q r = absurd r
ahead-tries false false (suc n) sys c q r = absurd (side-tries-none (l.side_at sys q) sys c n q r)
ahead-tries false true zero sys c q r = absurd r
ahead-tries false true (suc n) sys c q r = tries n sys c q

at-phase : (sys : System) (d : Digital) (p : RunPlace) → p.stage ≡ stages.InPhase → next_of sys (held_of d p) ≡ h.phase_next sys p.cycles_left p.tries_left (state_of d p)
at-phase sys d p e = ap (λ (s : Stage). next_by (stage_of s p.search p.at_hi) sys p.cycles_left p.tries_left (state_of d p)) e

next-from : (sys : System) (d : Digital) (p : RunPlace) → p.stage ≡ stages.InPhase → PhaseTries (l.is_there sys (state_of d p)) (l.ends_in_time sys (state_of d p)) p.tries_left sys p.cycles_left (state_of d p) → TriedNext sys d p
next-from sys d p e t = record { stage = e; apart = t.apart; fits = t.fits-in; some = t.some; comes = at-phase sys d p e ∙ t.comes }

pub tried_ready : (sys : System) (d : Digital) (p : RunPlace) → p.stage ≡ stages.InPhase → l.ends_in_time sys (state_of d p) ≡ true → IsReady (next_of sys (held_of d p)) → TriedNext sys d p
tried_ready sys d p e fits r =
    let q = state_of d p in
    next-from sys d p e (ready-tries (l.is_there sys q) (l.ends_in_time sys q) p.tries_left sys p.cycles_left q fits (subst IsReady (at-phase sys d p e) r))

-- no other stage tries
start-tries-none : (ran : Ran) (sys : System) → IsTried (h.started_by ran sys) → ⊥
start-tries-none (rans.Done broke) sys r = r
start-tries-none (rans.Refused refusal) sys r = r

solve-tries-none : (needs : Bool) (o : Result (List ℤ) Cause) (sys : System) (to_time : Bool) (c n : ℕ) (q : RunState) → l.solution sys q ≡ o → IsTried (h.delta_by needs sys to_time c n q) → ⊥
solve-tries-none false o sys to_time c n q e r = r
solve-tries-none true (Ok x) sys to_time c n q e r = subst (λ (o : Result (List ℤ) Cause). IsTried (h.solved_by o sys to_time c n q)) e r
solve-tries-none true (Err f) sys to_time c n q e r = subst (λ (o : Result (List ℤ) Cause). IsTried (h.solved_by o sys to_time c n q)) e r

cycle-tries-none : (ran : Ran) (sys : System) (to_time : Bool) (c n : ℕ) (q : RunState) → IsTried (h.cycled_by ran sys to_time c n q) → ⊥
cycle-tries-none (rans.Done broke) sys to_time c n q r = r
cycle-tries-none (rans.Refused refusal) sys to_time c n q r = r

search-tries-none : (near : Bool) (n : ℕ) (sys : System) (c : ℕ) (q : RunState) (b : Bounds) → IsTried (h.search_by near sys c n q b) → ⊥
search-tries-none true n sys c q b r = r
search-tries-none false zero sys c q b r = r
search-tries-none false (suc n) sys c q b r = r

phase-only : (s : Stage) (sys : System) (d : Digital) (p : RunPlace) → IsTried (next_by (stage_of s p.search p.at_hi) sys p.cycles_left p.tries_left (state_of d p)) → s ≡ stages.InPhase
phase-only stages.Unstarted sys d p r = absurd (start-tries-none (l.first_cycle sys).ran sys r)
phase-only stages.Placed sys d p r = absurd r
phase-only (stages.InDelta to_time) sys d p r = absurd (solve-tries-none (l.needs_solution sys (state_of d p)) (l.solution sys (state_of d p)) sys to_time p.cycles_left p.tries_left (state_of d p) refl r)
phase-only (stages.InCycle to_time) sys d p r = absurd (cycle-tries-none (l.cycle_at sys to_time (state_of d p)).ran sys to_time p.cycles_left p.tries_left (state_of d p) r)
phase-only stages.InPhase sys d p r = refl
phase-only stages.InSearch sys d p r = absurd (search-tries-none (is_near sys.options.xres (with_point p.search p.at_hi)) p.tries_left sys p.cycles_left (state_of d p) (with_point p.search p.at_hi) r)
phase-only (stages.Finished e) sys d p r = absurd r

pub tried_ahead : (sys : System) (d : Digital) (p : RunPlace) → IsTried (next_of sys (held_of d p)) → TriedNext sys d p
tried_ahead sys d p r =
    let q = state_of d p in
    let e : p.stage ≡ stages.InPhase = phase-only p.stage sys d p r in
    next-from sys d p e (ahead-tries (l.is_there sys q) (l.ends_in_time sys q) p.tries_left sys p.cycles_left q (subst IsTried (at-phase sys d p e) r))
