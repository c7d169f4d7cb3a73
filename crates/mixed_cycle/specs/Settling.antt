-- The reply of a consume.
use Rattle.std.specs.Prelude.{◌≡◌, ℕ, zero, suc, ◌&&◌, Bool, true, false, not, cond, ℤ, List, [], Result, Ok, Err, refl}
use Rattle.std.specs.declared.alloc.AllocError.{AllocError}
use Rattle.std.proofs.Common.{ap, sym, subst, ◌∙◌, append-nil}
use Rattle.step_data.specs.declared.event.Event.{Event}
use Rattle.step_data.specs.declared.outcome.Cause.{Cause}
use Rattle.step_data.specs.declared.outcome.Ran.{Ran}
use Rattle.step_data.specs.declared.outcome.Ran.TheVariants as rans
use Rattle.step_data.specs.declared.tip.Tip.{Tip}
use Rattle.step_model.specs.Kernel.{KernelState}
use Rattle.step_model.specs.System.{System, Digital, Landing}
use Rattle.lockstep_model.specs.Crossing.{Bounds, differs, is_near}
use Rattle.lockstep_model.specs.RunStates.{RunState}
use Rattle.lockstep_model.specs.Lockstep as l
use Rattle.lockstep_model.specs.Walk as w
use Rattle.lockstep_model.specs.declared.moves.Moved.{Moved}
use Rattle.lockstep_model.specs.declared.moves.Moved.TheVariants as says
use Rattle.lockstep_model.specs.declared.moves.Ask.TheVariants as asks
use Rattle.above_events.specs.Locating.{with_point}
use Rattle.cycle_machine.specs.Held as h
use Rattle.cycle_machine.specs.Held.{Held, Step, next_of, next_by}
use Rattle.cycle_machine.specs.Ready.{ready}
use Rattle.cycle_machine.specs.Moves.{Moment, Moving, is_over, made_ready, proceed, settle, walk_of}
use Rattle.run_place.specs.declared.place.RunPlace.{RunPlace}
use Rattle.run_place.specs.declared.place.Stage.{Stage}
use Rattle.run_place.specs.declared.place.Stage.TheVariants as stages
use Rattle.run_place.specs.Places.{stage_of, state_of}
use Rattle.mixed_cycle.specs.declared.machine.Awaited.{Awaited}
use Rattle.mixed_cycle.specs.declared.machine.Awaited.TheVariants.{Ready, Settling}
use Rattle.mixed_cycle.specs.declared.machine.Machine.{Machine}
use Rattle.mixed_cycle.specs.Standing.{digital_at}
use Rattle.mixed_cycle.specs.Machine.{Sound, moment_of, awaited_of}
use Rattle.mixed_cycle.specs.Making.{Performs, Readies, worked, still_sound, ready_ahead}

abbrev pub is_finished : Stage → Bool
is_finished stages.Unstarted = false
is_finished stages.Placed = false
is_finished (stages.InDelta to_time) = false
is_finished (stages.InCycle to_time) = false
is_finished stages.InPhase = false
is_finished stages.InSearch = false
is_finished (stages.Finished e) = true

-- an own attempt that wasn't consumed lets the attempts begin anew, unless the run ends
abbrev pub begins_by : Bool → Bool → Stage → Bool
begins_by own consumed stage = own && (not consumed && not (is_finished stage))

start-goes : (ran : Ran) (sys : System) → is_over (h.started_by ran sys) ≡ false
start-goes (rans.Done broke) sys = refl
start-goes (rans.Refused refusal) sys = refl

solved-goes : (o : Result (List ℤ) Cause) (sys : System) (to_time : Bool) (c n : ℕ) (q : RunState) → is_over (h.solved_by o sys to_time c n q) ≡ false
solved-goes (Ok x) sys to_time c n q = refl
solved-goes (Err e) sys to_time c n q = refl

delta-goes : (needs : Bool) (sys : System) (to_time : Bool) (c n : ℕ) (q : RunState) → is_over (h.delta_by needs sys to_time c n q) ≡ false
delta-goes true sys to_time c n q = solved-goes (l.solution sys q) sys to_time c n q
delta-goes false sys to_time c n q = refl

cycle-goes : (ran : Ran) (sys : System) (to_time : Bool) (c n : ℕ) (q : RunState) → is_over (h.cycled_by ran sys to_time c n q) ≡ false
cycle-goes (rans.Done broke) sys to_time c n q = refl
cycle-goes (rans.Refused refusal) sys to_time c n q = refl

refused-goes : (small : Bool) (sys : System) (c n : ℕ) (q : RunState) (e : Cause) → is_over (h.refused_by small sys c n q e) ≡ false
refused-goes true sys c n q e = refl
refused-goes false sys c n q e = refl

accepted-goes : (crosses : Bool) (sys : System) (c n : ℕ) (q : RunState) (s : Landing) → is_over (h.accepted_by crosses sys c n q s) ≡ false
accepted-goes true sys c n q s = refl
accepted-goes false sys c n q s = refl

sided-goes : (o : Result Landing Cause) (sys : System) (c n : ℕ) (q : RunState) → is_over (h.sided o sys c n q) ≡ false
sided-goes (Err e) sys c n q = refused-goes (l.is_too_small sys q) sys c n q e
sided-goes (Ok s) sys c n q = accepted-goes (differs s.x (l.thresholds_at sys q)) sys c n q s

phase-goes : (there fits : Bool) (n : ℕ) (sys : System) (c : ℕ) (q : RunState) → is_over (h.phase_by (l.phase_step there fits) sys c n q) ≡ false
phase-goes true fits n sys c q = refl
phase-goes false true zero sys c q = refl
phase-goes false true (suc n) sys c q = refl
phase-goes false false zero sys c q = refl
phase-goes false false (suc n) sys c q = sided-goes (l.side_at sys q) sys c n q

search-goes : (near : Bool) (n : ℕ) (sys : System) (c : ℕ) (q : RunState) (b : Bounds) → is_over (h.search_by near sys c n q b) ≡ false
search-goes true n sys c q b = refl
search-goes false zero sys c q b = refl
search-goes false (suc n) sys c q b = refl

over-by : (s : Stage) (sys : System) (d : Digital) (p : RunPlace) → is_over (next_by (stage_of s p.search p.at_hi) sys p.cycles_left p.tries_left (state_of d p)) ≡ is_finished s
over-by stages.Unstarted sys d p = start-goes (l.first_cycle sys).ran sys
over-by stages.Placed sys d p = refl
over-by (stages.InDelta to_time) sys d p = delta-goes (l.needs_solution sys (state_of d p)) sys to_time p.cycles_left p.tries_left (state_of d p)
over-by (stages.InCycle to_time) sys d p = cycle-goes (l.cycle_at sys to_time (state_of d p)).ran sys to_time p.cycles_left p.tries_left (state_of d p)
over-by stages.InPhase sys d p = phase-goes (l.is_there sys (state_of d p)) (l.ends_in_time sys (state_of d p)) p.tries_left sys p.cycles_left (state_of d p)
over-by stages.InSearch sys d p = search-goes (is_near sys.options.xres (with_point p.search p.at_hi)) p.tries_left sys p.cycles_left (state_of d p) (with_point p.search p.at_hi)
over-by (stages.Finished e) sys d p = refl

-- the tip from which a run goes on behind a consume
abbrev tip-in : Tip → w.Awaited → Tip
tip-in t w.Ready = t
tip-in t w.Looking = t
tip-in t (w.Settling own after) = after
tip-in t w.Broken = t

abbrev goes-on : System → Moment → Tip → Moment
goes-on sys m after = record m { awaited = w.Ready; tip = after }

-- all decisions were made, and nothing is awaited any more
settled-moment : {D S K : Type 0} (sys : System) (part count : S → ℕ) (state : K → KernelState) (a b : Machine D S K) (own : Bool) → Readies sys part count state a b → a.awaited ≡ Settling own →
    moment_of sys state (record b { awaited = Ready }) ≡ made_ready sys (goes-on sys (moment_of sys state a) a.place.tip)
settled-moment sys part count state a b own r e =
    let tips : b.place.tip ≡ a.place.tip =
    ap (λ (x : w.Awaited). tip-in a.place.tip x)
    (sym (ap (λ (x : Awaited). awaited_of x b.place.tip) (r.awaited_is ∙ e))
    ∙ ap (λ (m : Moment). m.awaited) r.moment
    ∙ ap (λ (x : Awaited). awaited_of x a.place.tip) e) in
    ap (λ (m : Moment). record m { awaited = w.Ready; tip = b.place.tip }) r.moment
    ∙ ap (λ (t : Tip). made_ready sys (goes-on sys (moment_of sys state a) t)) tips

settled-over : {D S K : Type 0} (sys : System) (part count : S → ℕ) (state : K → KernelState) (a b : Machine D S K) → Readies sys part count state a b → is_over (next_of sys (ready sys (moment_of sys state a).held)) ≡ is_finished b.place.stage
settled-over sys part count state a b r =
    ap (λ (m : Moment). is_over (next_of sys m.held)) (sym r.moment) ∙ over-by b.place.stage sys (digital_at sys (state b.kernel)) b.place

abbrev settle-by : Bool → Tip → System → Moment → Moving
settle-by begins after sys m =
    cond begins
    (record { moment = record m { held = ready sys m.held; awaited = w.Ready; tip = after }; says = says.Ask asks.Begin; events = []; computed = 0 })
    (proceed sys (record m { awaited = w.Ready; tip = after }))

-- the attempts begin anew
pub settle_begins : {D S K : Type 0} (sys : System) (part count : S → ℕ) (state : K → KernelState) (a b : Machine D S K) (own consumed : Bool) (out : List Event) → Readies sys part count state a b → a.awaited ≡ Settling own → begins_by own consumed b.place.stage ≡ true →
    Performs sys part count state (count a.stepper) (record b { awaited = Ready }) out out (Ok (says.Ask asks.Begin)) (settle own a.place.tip consumed sys (moment_of sys state a))
settle_begins {D = D} {S = S} {K = K} sys part count state a b own consumed out r e begins =
    let c : Machine D S K = record b { awaited = Ready } in
    let s = r.sound in
    let is : (own && (not consumed && not (is_over (next_of sys (ready sys (moment_of sys state a).held))))) ≡ true =
    ap (λ (o : Bool). own && (not consumed && not o)) (settled-over sys part count state a b r) ∙ begins in
    subst (λ (t : Bool). Performs sys part count state (count a.stepper) c out out (Ok (says.Ask asks.Begin)) (settle-by t a.place.tip sys (moment_of sys state a))) (sym is)
    (record {
      sound = still_sound sys part state b c s s.part_is refl (record { asked = s.room.asked; frame = s.room.frame; made = s.room.made; x = s.room.x; branches = s.room.branches; new_frame = s.room.new_frame }) s.frame_fits s.stands;
      walk = ap (λ (m : Moment). walk_of sys m) (settled-moment sys part count state a b own r e);
      ahead = ready_ahead sys state c refl;
      says_is = refl;
      events = sym (append-nil out);
      count_is = r.count_is;
      front = tt;
    })

-- the run goes on
pub settle_goes : {D S K : Type 0} (sys : System) (part count : S → ℕ) (state : K → KernelState) (a b c : Machine D S K) (own consumed : Bool) (out out' : List Event) (res : Result Moved AllocError) → Readies sys part count state a b → a.awaited ≡ Settling own → begins_by own consumed b.place.stage ≡ false →
    Performs sys part count state (count b.stepper) c out out' res (worked sys (moment_of sys state (record b { awaited = Ready }))) →
    Performs sys part count state (count a.stepper) c out out' res (settle own a.place.tip consumed sys (moment_of sys state a))
settle_goes sys part count state a b c own consumed out out' res r e begins done =
    let is : (own && (not consumed && not (is_over (next_of sys (ready sys (moment_of sys state a).held))))) ≡ false =
    ap (λ (o : Bool). own && (not consumed && not o)) (settled-over sys part count state a b r) ∙ begins in
    subst (λ (t : Bool). Performs sys part count state (count a.stepper) c out out' res (settle-by t a.place.tip sys (moment_of sys state a))) (sym is)
    (subst (λ (n : ℕ). Performs sys part count state n c out out' res (proceed sys (goes-on sys (moment_of sys state a) a.place.tip))) r.count_is
    (subst (λ (m : Moment). Performs sys part count state (count b.stepper) c out out' res (worked sys m)) (settled-moment sys part count state a b own r e) done))

-- nothing is awaited any more
pub settled_sound : {D S K : Type 0} (sys : System) (part count : S → ℕ) (state : K → KernelState) (a b : Machine D S K) → Readies sys part count state a b → Sound sys part state (record b { awaited = Ready })
settled_sound {D = D} {S = S} {K = K} sys part count state a b r =
    let c : Machine D S K = record b { awaited = Ready } in
    let s = r.sound in
    still_sound sys part state b c s s.part_is refl (record { asked = s.room.asked; frame = s.room.frame; made = s.room.made; x = s.room.x; branches = s.room.branches; new_frame = s.room.new_frame }) s.frame_fits s.stands
