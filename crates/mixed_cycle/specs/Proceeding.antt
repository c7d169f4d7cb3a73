-- What comes next where no reply is awaited.
use Rattle.std.specs.Prelude.{◌≡◌, ℕ, ◌-◌, true, false, nat_le, List, Option, Result, Ok, refl}
use Rattle.std.specs.declared.alloc.AllocError.{AllocError}
use Rattle.std.proofs.Common.{ap, sym, subst, ◌∙◌, append-nil}
use Rattle.step_data.specs.declared.event.Event.{Event}
use Rattle.step_data.specs.declared.outcome.End.{End}
use Rattle.step_data.specs.declared.outcome.Options.{Options}
use Rattle.step_data.specs.Steps.{end_of}
use Rattle.step_model.specs.declared.kernel_stage.KernelStage.TheVariants.{Going}
use Rattle.step_model.specs.Kernel.{KernelState}
use Rattle.step_model.specs.System.{System, Digital}
use Rattle.lockstep_model.specs.Lockstep as l
use Rattle.lockstep_model.specs.Walk as w
use Rattle.lockstep_model.specs.declared.moves.Moved.{Moved}
use Rattle.lockstep_model.specs.declared.moves.Moved.TheVariants as says
use Rattle.lockstep_model.specs.declared.moves.Ask.TheVariants as asks
use Rattle.cycle_machine.specs.Held as h
use Rattle.cycle_machine.specs.Held.{Held, Step, Stops, Makes, next_of, next_by, rest_of}
use Rattle.cycle_machine.specs.Ready.{IsReady, ready_ready}
use Rattle.cycle_machine.specs.Moves.{Moment, IsTried, AheadOf, walk_with, proceed, proceed_by}
use Rattle.run_place.specs.declared.place.RunPlace.{RunPlace}
use Rattle.run_place.specs.declared.place.Stage.{Stage}
use Rattle.run_place.specs.declared.place.Stage.TheVariants as stages
use Rattle.run_place.specs.Places.{stage_of, state_of, held_of}
use Rattle.mixed_cycle.specs.declared.machine.Awaited.{Awaited}
use Rattle.mixed_cycle.specs.declared.machine.Awaited.TheVariants.{Ready, Looking}
use Rattle.mixed_cycle.specs.declared.machine.Machine.{Machine}
use Rattle.mixed_cycle.specs.Standing.{IsPhase, StandsBy, digital_at}
use Rattle.mixed_cycle.specs.Deciding.{digital_going}
use Rattle.mixed_cycle.specs.Machine.{Sound, moment_of, awaited_of, asked_of}
use Rattle.mixed_cycle.specs.Making.{Performs, Readies, worked, still_sound}
use Rattle.mixed_cycle.specs.Trying.{TriedNext, tried_ready}

-- all decisions were made, and then the work
pub proceeds : {D S K : Type 0} (sys : System) (part count : S → ℕ) (state : K → KernelState) (a b c : Machine D S K) (out out' : List Event) (res : Result Moved AllocError) → Readies sys part count state a b → Performs sys part count state (count b.stepper) c out out' res (worked sys (moment_of sys state b)) → Performs sys part count state (count a.stepper) c out out' res (proceed sys (moment_of sys state a))
proceeds sys part count state a b c out out' res r done =
    subst (λ (n : ℕ). Performs sys part count state n c out out' res (proceed sys (moment_of sys state a))) r.count_is
    (subst (λ (m : Moment). Performs sys part count state (count b.stepper) c out out' res (worked sys m)) r.moment done)

pub is_ready : {D S K : Type 0} (sys : System) (part count : S → ℕ) (state : K → KernelState) (a b : Machine D S K) → Readies sys part count state a b → IsReady (next_of sys (held_of (digital_at sys (state b.kernel)) b.place))
is_ready sys part count state a b r =
    subst (λ (m : Moment). IsReady (next_of sys m.held)) (sym r.moment) (ready_ready sys (moment_of sys state a).held)

-- a place isn't ready
pub not_placed : (sys : System) (d : Digital) (p : RunPlace) → p.stage ≡ stages.Placed → IsReady (next_of sys (held_of d p)) → ⊥
not_placed sys d p e r =
    subst (λ (s : Stage). IsReady (next_by (stage_of s p.search p.at_hi) sys p.cycles_left p.tries_left (state_of d p))) e r

-- the end is told
pub end_done : {D S K : Type 0} (sys : System) (part count : S → ℕ) (state : K → KernelState) (m : Machine D S K) (e : End) (out : List Event) → Sound sys part state m → m.awaited ≡ Ready → m.place.stage ≡ stages.Finished e → Performs sys part count state (count m.stepper) m out out (Ok (says.Ended e)) (worked sys (moment_of sys state m))
end_done sys part count state m e out s awaits is =
    let p = m.place in
    let d = digital_at sys (state m.kernel) in
    let next : next_of sys (held_of d p) ≡ Stops e = ap (λ (s : Stage). next_by (stage_of s p.search p.at_hi) sys p.cycles_left p.tries_left (state_of d p)) is in
    subst (λ (t : Step). Performs sys part count state (count m.stepper) m out out (Ok (says.Ended e)) (proceed_by t (moment_of sys state m))) (sym next)
    (record {
      sound = s;
      walk = ap (λ (a : Awaited). walk_with (rest_of sys (held_of d p)) (record (moment_of sys state m) { awaited = awaited_of a m.place.tip })) awaits;
      ahead = subst (λ (a : Awaited). AheadOf (awaited_of a m.place.tip) (next_of sys (held_of d p))) (sym awaits) tt;
      says_is = refl;
      events = sym (append-nil out);
      count_is = refl;
      front = tt;
    })

-- the next attempt is looked for
pub look_done : {D S K : Type 0} (sys : System) (part count : S → ℕ) (state : K → KernelState) (m : Machine D S K) (next : Option ℕ) (t : ℕ) (out : List Event)
    → Sound sys part state m → m.awaited ≡ Ready → m.place.stage ≡ stages.InPhase
    → IsReady (next_of sys (held_of (digital_at sys (state m.kernel)) m.place))
    → ((state m.kernel).stage ≡ Going → next ≡ sys.next_time (state m.kernel).digital)
    → t ≡ l.until_of next m.options.stop
    → nat_le (end_of m.place.tip) t ≡ true
    → Performs sys part count state (count m.stepper) (record m { awaited = Looking }) out out (Ok (says.Ask (asks.Look t))) (worked sys (moment_of sys state m))
look_done {D = D} {S = S} {K = K} sys part count state m next t out s awaits e r next_is t_is fits =
    let k = state m.kernel in
    let p = m.place in
    let d = k.digital in
    let q = state_of d p in
    let phase : IsPhase sys k m.frame p.time p.timed p.tip = subst (λ (x : Stage). StandsBy x sys k m.frame p) e s.stands.stands in
    let going : digital_at sys k ≡ d = digital_going sys k phase.goes.stage in
    let until : t ≡ l.until sys q =
    t_is ∙ ap (λ (n : Option ℕ). l.until_of n m.options.stop) (next_is phase.goes.stage) ∙ ap (λ (o : Options). l.until_of (sys.next_time d) o.stop) s.options_are in
    let tried : TriedNext sys d p =
    tried_ready sys d p e (ap (λ (u : ℕ). nat_le (end_of p.tip) u) (sym until) ∙ fits) (subst (λ (y : Digital). IsReady (next_of sys (held_of y p))) going r) in
    let comes : next_of sys (held_of (digital_at sys k) p) ≡ h.attempted sys p.cycles_left (p.tries_left - 1) q (l.attempt_at sys q) =
    ap (λ (y : Digital). next_of sys (held_of y p)) going ∙ tried.comes in
    let m' : Machine D S K = record m { awaited = Looking } in
    subst (λ (x : Step). Performs sys part count state (count m.stepper) m' out out (Ok (says.Ask (asks.Look t))) (proceed_by x (moment_of sys state m))) (sym comes)
    (record {
      sound = still_sound sys part state m m' s s.part_is refl (record { asked = s.room.asked; frame = s.room.frame; made = s.room.made; x = s.room.x; branches = s.room.branches; new_frame = s.room.new_frame }) s.frame_fits s.stands;
      walk = ap (λ (a : Awaited). walk_with (rest_of sys (held_of (digital_at sys k) p)) (record (moment_of sys state m) { awaited = w.Looking; tip = asked_of a m.asked m.place.tip })) (sym awaits);
      ahead = subst (λ (x : Step). IsTried x) (sym comes) tt;
      says_is = ap (λ (u : ℕ). says.Ask (asks.Look u)) until;
      events = sym (append-nil out);
      count_is = refl;
      front = tt;
    })

-- where the step doesn't end in time
pub late_by : {D S K : Type 0} (sys : System) (part : S → ℕ) (state : K → KernelState) (m : Machine D S K) (next : Option ℕ) (t : ℕ)
    → Sound sys part state m → m.place.stage ≡ stages.InPhase
    → ((state m.kernel).stage ≡ Going → next ≡ sys.next_time (state m.kernel).digital)
    → t ≡ l.until_of next m.options.stop
    → nat_le (end_of m.place.tip) t ≡ false
    → l.ends_in_time sys (state_of (digital_at sys (state m.kernel)) m.place) ≡ false
late_by sys part state m next t s e next_is t_is far =
    let k = state m.kernel in
    let p = m.place in
    let d = k.digital in
    let phase : IsPhase sys k m.frame p.time p.timed p.tip = subst (λ (x : Stage). StandsBy x sys k m.frame p) e s.stands.stands in
    let until : t ≡ l.until sys (state_of d p) =
    t_is ∙ ap (λ (n : Option ℕ). l.until_of n m.options.stop) (next_is phase.goes.stage) ∙ ap (λ (o : Options). l.until_of (sys.next_time d) o.stop) s.options_are in
    ap (λ (y : Digital). l.ends_in_time sys (state_of y p)) (digital_going sys k phase.goes.stage)
    ∙ ap (λ (u : ℕ). nat_le (end_of p.tip) u) (sym until)
    ∙ far
