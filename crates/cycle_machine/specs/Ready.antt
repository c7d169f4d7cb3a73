-- Decisions without a work are made at once: at most three come one behind the other.
use Rattle.std.specs.Prelude.{◌≡◌, ℕ, zero, suc, ◌<◌, ◌≤◌, ◌⊎◌, ◌==◌, Bool, true, false, not, nat_le, ℤ, List, Result, Ok, Err, refl}
use Rattle.std.proofs.Common.{arith, sym, subst, inl, inr, ◌∙◌}
use Rattle.step_data.specs.declared.outcome.Cause.{Cause}
use Rattle.step_data.specs.declared.outcome.Ran.{Ran}
use Rattle.step_data.specs.declared.outcome.Ran.TheVariants as rans
use Rattle.step_model.specs.System.{System, Landing}
use Rattle.lockstep_model.specs.RunStates.{RunState}
use Rattle.lockstep_model.specs.Crossing.{Bounds, differs, is_near}
use Rattle.lockstep_model.specs.Lockstep as l
use Rattle.lockstep_model.specs.Lockstep.{PhaseStep, Following}
use Rattle.cycle_machine.specs.Held as h
use Rattle.cycle_machine.specs.Held.{Stage, Held, Step, Decides, Makes, Stops, rest_of, run_of, next_of, next_by, decisions_at}
use Rattle.cycle_machine.specs.NextLaws.{next_is}

abbrev pub after : Step → Held → Held
after (Decides new) old = new
after (Makes p w new) old = old
after (Stops e) old = old

abbrev pub decided : System → Held → Held
decided sys held = after (next_of sys held) held

-- what is held where the next thing is a work or the end
unfoldable pub ready : System → Held → Held
ready sys held = decided sys (decided sys (decided sys held))

after-is : (sys : System) (s : Step) (held : Held) → rest_of sys held ≡ run_of sys s → rest_of sys (after s held) ≡ rest_of sys held
after-is sys (Decides new) held e = sym e
after-is sys (Makes p w new) held e = refl
after-is sys (Stops end) held e = refl

decided-is : (sys : System) (held : Held) → rest_of sys (decided sys held) ≡ rest_of sys held
decided-is sys held = after-is sys (next_of sys held) held (next_is sys held)

-- decisions leave the run as it is
pub ready_is : (sys : System) (held : Held) → rest_of sys (ready sys held) ≡ rest_of sys held
unfolding ready
ready_is sys held =
    decided-is sys (decided sys (decided sys held)) ∙ decided-is sys (decided sys held) ∙ decided-is sys held

-- a work comes next, or nothing does
abbrev pub IsReady : Step → Type 0
IsReady (Decides new) = ⊥
IsReady (Makes p w new) = Unit {0}
IsReady (Stops e) = Unit {0}

-- ---- each decision leaves fewer to be made

begin-low : (c n : ℕ) (to_time : Bool) (p : RunState) → decisions_at (h.begin c n to_time p).stage ≤ 1
begin-low zero n to_time p = omega arith
begin-low (suc c) n to_time p = omega arith

arrived-low : (stands : Bool) (c n : ℕ) (p : RunState) → decisions_at (h.arrived_by stands c n p).stage ≤ 1
arrived-low true c n p = begin-low c n false p
arrived-low false c n p = omega arith

deeper-low : (many : Bool) (c n : ℕ) (to_time : Bool) (p : RunState) → decisions_at (h.deeper_by many c n to_time p).stage ≤ 1
deeper-low true c n to_time p = omega arith
deeper-low false c n to_time p = begin-low c n to_time (l.deeper p)

placed-low : (f : Following) (sys : System) (c n : ℕ) (p : RunState) → decisions_at (h.placed_by f sys c n p).stage ≤ 2
placed-low l.NextDelta sys c n p =
    let low = deeper-low (nat_le sys.deltas p.delta) c n (not (l.is_due sys p)) p in omega arith
placed-low l.StopTime sys c n p = omega arith
placed-low l.NextPhase sys c n p = omega arith

-- a decision leaves fewer of them than the stage has
abbrev Falls : Step → Stage → Type 0
Falls (Decides new) stage = decisions_at new.stage < decisions_at stage
Falls (Makes p w new) stage = Unit {0}
Falls (Stops e) stage = Unit {0}

solved-falls : (o : Result (List ℤ) Cause) (sys : System) (to_time : Bool) (c n : ℕ) (p : RunState) → Falls (h.solved_by o sys to_time c n p) (h.InDelta to_time)
solved-falls (Ok x) sys to_time c n p = tt
solved-falls (Err e) sys to_time c n p = tt

delta-falls : (needs : Bool) (sys : System) (to_time : Bool) (c n : ℕ) (p : RunState) → Falls (h.delta_by needs sys to_time c n p) (h.InDelta to_time)
delta-falls true sys to_time c n p = solved-falls (l.solution sys p) sys to_time c n p
delta-falls false sys to_time c n p = omega arith

started-falls : (ran : Ran) (sys : System) → Falls (h.started_by ran sys) h.Unstarted
started-falls (rans.Done broke) sys = tt
started-falls (rans.Refused refusal) sys = tt

cycled-falls : (ran : Ran) (sys : System) (to_time : Bool) (c n : ℕ) (p : RunState) → Falls (h.cycled_by ran sys to_time c n p) (h.InCycle to_time)
cycled-falls (rans.Done broke) sys to_time c n p = tt
cycled-falls (rans.Refused refusal) sys to_time c n p = tt

refused-falls : (small : Bool) (sys : System) (c n : ℕ) (p : RunState) (e : Cause) → Falls (h.refused_by small sys c n p e) h.InPhase
refused-falls true sys c n p e = tt
refused-falls false sys c n p e = tt

accepted-falls : (crosses : Bool) (sys : System) (c n : ℕ) (p : RunState) (s : Landing) → Falls (h.accepted_by crosses sys c n p s) h.InPhase
accepted-falls true sys c n p s = tt
accepted-falls false sys c n p s = tt

sided-falls : (o : Result Landing Cause) (sys : System) (c n : ℕ) (p : RunState) → Falls (h.sided o sys c n p) h.InPhase
sided-falls (Err e) sys c n p = refused-falls (l.is_too_small sys p) sys c n p e
sided-falls (Ok s) sys c n p = accepted-falls (differs s.x (l.thresholds_at sys p)) sys c n p s

phase-falls : (s : PhaseStep) (sys : System) (c n : ℕ) (p : RunState) → Falls (h.phase_by s sys c n p) h.InPhase
phase-falls l.Arrival sys c n p =
    let low = arrived-low (l.stands (sys.next_time (l.at_tip sys p).digital) (l.at_tip sys p).time) c n (l.at_tip sys p) in omega arith
phase-falls l.Attempted sys c zero p = omega arith
phase-falls l.Attempted sys c (suc n) p = tt
phase-falls l.SideStep sys c zero p = omega arith
phase-falls l.SideStep sys c (suc n) p = sided-falls (l.side_at sys p) sys c n p

search-falls : (near : Bool) (sys : System) (c n : ℕ) (p : RunState) (b : Bounds) → Falls (h.search_by near sys c n p b) (h.InSearch b)
search-falls true sys c n p b =
    let low = begin-low c n false (l.stepped_to sys p b.hi b.x) in omega arith
search-falls false sys c zero p b = omega arith
search-falls false sys c (suc n) p b = tt

next_by-falls : (stage : Stage) (sys : System) (c n : ℕ) (p : RunState) → Falls (next_by stage sys c n p) stage
next_by-falls h.Unstarted sys c n p = started-falls (l.first_cycle sys).ran sys
next_by-falls h.Placed sys c n p =
    let low = placed-low (l.following (l.begins_delta sys p) (p.time == sys.options.stop)) sys c n p in omega arith
next_by-falls (h.InDelta to_time) sys c n p = delta-falls (l.needs_solution sys p) sys to_time c n p
next_by-falls (h.InCycle to_time) sys c n p = cycled-falls (l.cycle_at sys to_time p).ran sys to_time c n p
next_by-falls h.InPhase sys c n p = phase-falls (l.phase_step (l.is_there sys p) (l.ends_in_time sys p)) sys c n p
next_by-falls (h.InSearch b) sys c n p = search-falls (is_near sys.options.xres b) sys c n p b
next_by-falls (h.Finished e) sys c n p = tt

-- ---- so three of them are enough

most-decisions : (stage : Stage) → decisions_at stage ≤ 3
most-decisions h.Unstarted = omega arith
most-decisions h.Placed = omega arith
most-decisions (h.InDelta to_time) = omega arith
most-decisions (h.InCycle to_time) = omega arith
most-decisions h.InPhase = omega arith
most-decisions (h.InSearch b) = omega arith
most-decisions (h.Finished e) = omega arith

falls : (sys : System) (held : Held) → Falls (next_of sys held) held.stage
falls sys held = next_by-falls held.stage sys held.cycles held.tries held.state

once : (s : Step) (held : Held) (n : ℕ) → Falls s held.stage → decisions_at held.stage ≤ suc n → IsReady s ⊎ (decisions_at (after s held).stage ≤ n)
once (Decides new) held n less few = inr (omega arith)
once (Makes p w new) held n less few = inl tt
once (Stops e) held n less few = inl tt

stays : (sys : System) (held : Held) (s : Step) → next_of sys held ≡ s → IsReady s → IsReady (next_of sys (after s held))
stays sys held (Decides new) e r = absurd r
stays sys held (Makes p w new) e r = subst IsReady (sym e) tt
stays sys held (Stops end) e r = subst IsReady (sym e) tt

none : (s : Step) (stage : Stage) → Falls s stage → decisions_at stage ≤ 0 → IsReady s
none (Decides new) stage less few = absurd (omega arith)
none (Makes p w new) stage less few = tt
none (Stops e) stage less few = tt

-- it is ready, or so many decisions are left
abbrev Left : System → Held → ℕ → Type 0
Left sys held n = IsReady (next_of sys held) ⊎ (decisions_at held.stage ≤ n)

next-left : (sys : System) (held : Held) (n : ℕ) → Left sys held (suc n) → Left sys (decided sys held) n
next-left sys held n (inl r) = inl (stays sys held (next_of sys held) refl r)
next-left sys held n (inr few) =
    elim (once (next_of sys held) held n (falls sys held) few) [
      | inl r ↦ inl (stays sys held (next_of sys held) refl r)
      | inr low ↦ inr low
    ]

last-left : (sys : System) (held : Held) → Left sys held 0 → IsReady (next_of sys held)
last-left sys held (inl r) = r
last-left sys held (inr few) = none (next_of sys held) held.stage (falls sys held) few

pub ready_ready : (sys : System) (held : Held) → IsReady (next_of sys (ready sys held))
unfolding ready
ready_ready sys held =
    let first = decided sys held in
    let second = decided sys first in
    last-left sys (decided sys second)
    (next-left sys second 0 (next-left sys first 1 (next-left sys held 2 (inr (most-decisions held.stage)))))
