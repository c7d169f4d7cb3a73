-- The moves in which an attempt is used.
use Rattle.std.specs.Prelude.{◌≡◌, ℕ, ◌-◌, ◌&&◌, ◌||◌, Bool, true, false, cond, List, [], ◌++◌, length, IsErr, Result, Ok, Err, refl}
use Rattle.std.specs.declared.alloc.AllocError.{AllocError}
use Rattle.std.proofs.Common.{ap, sym, subst, ◌∙◌}
use Rattle.std.proofs.lemmas.List.{append_assoc}
use Rattle.ams_value.specs.declared.val.Val.{Val}
use Rattle.step_data.specs.declared.event.Event.{Event}
use Rattle.step_data.specs.declared.outcome.Kind.{Kind}
use Rattle.step_data.specs.declared.outcome.Kind.TheVariants.{Accepted, Rejected, Failed}
use Rattle.step_data.specs.declared.outcome.Options.{Options}
use Rattle.step_data.specs.declared.outcome.ChooseKind.TheVariants.{Timed}
use Rattle.step_data.specs.declared.tip.Attempt.{Attempt}
use Rattle.step_data.specs.declared.tip.Tip.{Tip}
use Rattle.step_data.specs.Steps.{next, next_by, is_failed}
use Rattle.step_model.specs.Counts.{more}
use Rattle.step_model.specs.Kernel.{KernelState, AddsFront}
use Rattle.step_model.specs.System.{System, Digital}
use Rattle.lockstep_model.specs.Crossing.{differs}
use Rattle.lockstep_model.specs.RunStates.{RunState}
use Rattle.lockstep_model.specs.Lockstep as l
use Rattle.lockstep_model.specs.Walk as w
use Rattle.lockstep_model.specs.Works.{Tried, Worked}
use Rattle.lockstep_model.specs.declared.moves.Ask.{Ask}
use Rattle.lockstep_model.specs.declared.moves.Ask.TheVariants as asks
use Rattle.lockstep_model.specs.declared.moves.Moved.{Moved}
use Rattle.lockstep_model.specs.declared.moves.Moved.TheVariants as says
use Rattle.cycle_machine.specs.Held as h
use Rattle.cycle_machine.specs.Held.{Held, Decides, Makes, Stops, Step, next_of, rest_of}
use Rattle.cycle_machine.specs.Ready.{IsReady, ready, ready_ready}
use Rattle.cycle_machine.specs.Moves.{Moment, Moving, AheadOf, walk_of, own_by, found_by, led, proceed, proceed_by, made_ready}
use Rattle.run_place.specs.declared.place.RunPlace.{RunPlace}
use Rattle.run_place.specs.Places.{state_of, held_of}
use Rattle.run_place.specs.Giving.{chosen_of, olds_of}
use Rattle.mixed_cycle.specs.declared.machine.Awaited.{Awaited}
use Rattle.mixed_cycle.specs.declared.machine.Awaited.TheVariants.{Ready, Looking, Settling}
use Rattle.mixed_cycle.specs.declared.machine.Machine.{Machine}
use Rattle.mixed_cycle.specs.Standing.{Stands, digital_at}
use Rattle.mixed_cycle.specs.Machine.{Sound, moment_of, awaited_of, asked_of}
use Rattle.mixed_cycle.specs.Making.{Performs, still_sound}
use Rattle.mixed_cycle.specs.Using.{given_at, ended_by, used_left, used_events}
use Rattle.mixed_cycle.specs.Attempting.{Uses, Attempts, attempts, counted, crossing_order, used_held, used_gives, used_stands}

-- what is awaited behind an attempt, and what is asked
abbrev pub awaited_after : Bool → Bool → Awaited
awaited_after own true = Ready
awaited_after own false = Settling own

abbrev pub ask_after : Bool → Ask
ask_after true = asks.None
ask_after false = asks.Consume

-- an attempt is the next thing
abbrev tried-by : System → RunState → Attempt → ℕ → ℕ → Bool → List Event → Step
tried-by sys q a c n crosses events =
    Makes q (Tried q.tip (l.frame_at sys q) (l.until sys q) a crosses events) (h.behind_by (l.attempt_end crosses (is_failed a.kind)) sys c n q a)

abbrev held-behind : System → RunState → Attempt → ℕ → ℕ → Bool → Held
held-behind sys q a c n crosses = h.behind_by (l.attempt_end crosses (is_failed a.kind)) sys c n q a

tried-next : {D S K : Type 0} (sys : System) (part : S → ℕ) (state : K → KernelState) (m : Machine D S K) (a : Attempt) (bs : List ℕ) (is_chosen gives crosses : Bool) → Uses sys part state m a bs is_chosen gives crosses →
    next_of sys (held_of (digital_at sys (state m.kernel)) m.place) ≡ tried-by sys (state_of (state m.kernel).digital m.place) a m.place.cycles_left (m.place.tries_left - 1) crosses (used_events crosses gives a m.options.xres is_chosen bs (counted m.place))
tried-next sys part state m a bs is_chosen gives crosses u =
    let k = state m.kernel in
    let p = m.place in
    let d = k.digital in
    let q = state_of d p in
    let n = p.tries_left - 1 in
    let t : Attempts sys k m.frame m.cycles p a = attempts sys part state m a u.sound u.ahead u.made in
    let branches : chosen_of is_chosen bs (olds_of p) ≡ l.step_branches sys q =
    u.chosen ∙ ap (λ (f : List Val). l.branches_or (olds_of p) (sys.choose f p.tip.t Timed p.tip.x)) t.phase.goes.frame_is in
    let crossing : l.is_crossing sys q a ≡ crosses =
    ap (λ (g : Bool). g && differs a.x (sys.thresholds d)) (sym u.gives_is) ∙ sym (u.crosses_is t.phase.goes.stage) in
    ap (λ (y : Digital). next_of sys (held_of y p)) t.digital
    ∙ t.tried.comes
    ∙ ap (λ (y : Attempt). h.attempted sys p.cycles_left n q y) (sym t.made)
    ∙ ap (λ (b : Bool). tried-by sys q a p.cycles_left n b (cond b (l.bound_events sys q (l.attempt_bounds q a)) (cond (l.gives_point q a) (l.point_events a.end 0 a.x (l.step_branches sys q) (olds_of p)) []))) crossing
    ∙ ap (λ (g : Bool). tried-by sys q a p.cycles_left n crosses (cond crosses (l.bound_events sys q (l.attempt_bounds q a)) (cond g (l.point_events a.end 0 a.x (l.step_branches sys q) (olds_of p)) []))) (sym u.gives_is)
    ∙ ap (λ (es : List Event). tried-by sys q a p.cycles_left n crosses es) (sym (used_gives crosses sys d gives is_chosen bs m.options.xres p a (ap (λ (o : Options). o.xres) u.sound.options_are) branches))

held-is : {D S K : Type 0} (sys : System) (part : S → ℕ) (state : K → KernelState) (m : Machine D S K) (a : Attempt) (bs : List ℕ) (is_chosen gives crosses : Bool) (P : RunPlace) → Uses sys part state m a bs is_chosen gives crosses → P ≡ used_left crosses gives a m.options.xres is_chosen bs (counted m.place) →
    held_of (digital_at sys (state m.kernel)) P ≡ held-behind sys (state_of (state m.kernel).digital m.place) a m.place.cycles_left (m.place.tries_left - 1) crosses
held-is sys part state m a bs is_chosen gives crosses P u left =
    let k = state m.kernel in
    let p = m.place in
    let d = k.digital in
    let t : Attempts sys k m.frame m.cycles p a = attempts sys part state m a u.sound u.ahead u.made in
    ap (λ (y : Digital). held_of y P) t.digital
    ∙ ap (λ (y : RunPlace). held_of d y) left
    ∙ used_held crosses sys d gives is_chosen bs m.options.xres p a t.tried.stage u.gives_is
    (u.chosen ∙ ap (λ (f : List Val). l.branches_or (olds_of p) (sys.choose f p.tip.t Timed p.tip.x)) t.phase.goes.frame_is)

-- the tip behind it
passed-tip : (failed gives is_chosen : Bool) (a : Attempt) (bs : List ℕ) (p : RunPlace) (t : Tip) → (ended_by failed a (record (given_at gives is_chosen bs (counted p)) { tip = t })).tip ≡ t
passed-tip true true true a bs p t = refl
passed-tip true true false a bs p t = refl
passed-tip true false is_chosen a bs p t = refl
passed-tip false true true a bs p t = refl
passed-tip false true false a bs p t = refl
passed-tip false false is_chosen a bs p t = refl

failed-tip : (kind : Kind) (t : Tip) (a : Attempt) → is_failed kind ≡ true → next_by kind t a ≡ t
failed-tip Accepted t a e = cc
failed-tip Rejected t a e = cc
failed-tip Failed t a e = refl

-- the tip that is named where it was looked for
asked-tip : {D S K : Type 0} (sys : System) (part : S → ℕ) (state : K → KernelState) (m : Machine D S K) → m.awaited ≡ Looking → (moment_of sys state m).tip ≡ m.place.tip
asked-tip sys part state m awaits = ap (λ (x : Awaited). asked_of x m.asked m.place.tip) awaits

-- the walk of a machine, by what it holds and awaits
pub walk_is : {D S K : Type 0} (sys : System) (state : K → KernelState) (m : Machine D S K) (held : Held) (awaited : w.Awaited) (tip : Tip) (frame : List Val) (own cycles : ℕ) →
    held_of (digital_at sys (state m.kernel)) m.place ≡ held → awaited_of m.awaited m.place.tip ≡ awaited → asked_of m.awaited m.asked m.place.tip ≡ tip → m.frame ≡ frame → m.own ≡ own → m.cycles ≡ cycles →
    walk_of sys (moment_of sys state m) ≡ walk_of sys (record { held = held; awaited = awaited; tip = tip; frame = frame; own = own; cycles = cycles })
walk_is sys state m held awaited tip frame own cycles a b c d e f =
    let M = moment_of sys state m in
    ap (λ (x : Held). walk_of sys (record M { held = x })) a
    ∙ ap (λ (x : w.Awaited). walk_of sys (record M { held = held; awaited = x })) b
    ∙ ap (λ (x : Tip). walk_of sys (record M { held = held; awaited = awaited; tip = x })) c
    ∙ ap (λ (x : List Val). walk_of sys (record M { held = held; awaited = awaited; tip = tip; frame = x })) d
    ∙ ap (λ (x : ℕ). walk_of sys (record M { held = held; awaited = awaited; tip = tip; frame = frame; own = x })) e
    ∙ ap (λ (x : ℕ). walk_of sys (record M { held = held; awaited = awaited; tip = tip; frame = frame; own = own; cycles = x })) f

asked-fits : (crosses : Bool) (n : ℕ) (A old tip : Tip) → length old.x ≡ n → length tip.x ≡ n → (crosses ≡ true → A ≡ old) → (crosses ≡ false → A ≡ tip) → length A.x ≡ n
asked-fits true n A old tip a b stays goes = ap (λ (y : Tip). length y.x) (stays refl) ∙ a
asked-fits false n A old tip a b stays goes = ap (λ (y : Tip). length y.x) (goes refl) ∙ b

used-sound : {D S K : Type 0} (sys : System) (part : S → ℕ) (state : K → KernelState) (m : Machine D S K) (a made : Attempt) (bs : List ℕ) (is_chosen gives crosses : Bool) (s' : S) (P : RunPlace) (A : Tip) (aw : Awaited) (n : ℕ) → Uses sys part state m a bs is_chosen gives crosses → part s' ≡ 0 → length made.x ≡ sys.unknowns → P ≡ used_left crosses gives a m.options.xres is_chosen bs (counted m.place) →
    (crosses ≡ true → A ≡ m.asked) → (crosses ≡ false → A ≡ m.place.tip) → Sound sys part state (record m { stepper = s'; made = made; branches = bs; place = P; asked = A; awaited = aw; own = n })
used-sound {D = D} {S = S} {K = K} sys part state m a made bs is_chosen gives crosses s' P A aw n u part_is room left stays goes =
    let k = state m.kernel in
    let s = u.sound in
    let t : Attempts sys k m.frame m.cycles m.place a = attempts sys part state m a s u.ahead u.made in
    let m' : Machine D S K = record m { stepper = s'; made = made; branches = bs; place = P; asked = A; awaited = aw; own = n } in
    still_sound sys part state m m' s part_is refl
    (record { asked = asked-fits crosses sys.unknowns A m.asked m.place.tip s.room.asked s.stands.fits.tip_fits stays goes; frame = s.room.frame; made = room; x = s.room.x; branches = u.branches_fit; new_frame = s.room.new_frame })
    s.frame_fits
    (subst (λ (y : RunPlace). Stands sys k m.frame m.cycles y) (sym left)
    (used_stands crosses sys k m.frame m.cycles gives is_chosen bs m.options.xres m.place a s.stands.fits t (ap (λ (o : Options). o.xres) s.options_are) u.branches_fit u.room (crossing_order sys part state m a bs is_chosen gives crosses u)))

-- an own attempt was used
pub own_used : {D S K : Type 0} (sys : System) (part count : S → ℕ) (state : K → KernelState) (m : Machine D S K) (a : Attempt) (bs : List ℕ) (is_chosen gives crosses : Bool) (s' : S) (P : RunPlace) (A : Tip) (aw : Awaited) (n : ℕ) (said : Moved) (out out' : List Event)
    → Uses sys part state m a bs is_chosen gives crosses → part s' ≡ 0 → count s' ≡ more (count m.stepper) → n ≡ more m.own
    → P ≡ used_left crosses gives a m.options.xres is_chosen bs (counted m.place)
    → (crosses ≡ true → A ≡ m.asked) → (crosses ≡ false → A ≡ m.place.tip)
    → aw ≡ awaited_after true crosses → said ≡ says.Ask (ask_after crosses)
    → out' ≡ out ++ used_events crosses gives a m.options.xres is_chosen bs (counted m.place)
    → Performs sys part count state (count m.stepper) (record m { stepper = s'; made = a; branches = bs; place = P; asked = A; awaited = aw; own = n }) out out' (Ok said) (own_by (next_of sys (held_of (digital_at sys (state m.kernel)) m.place)) sys (moment_of sys state m))
own_used {D = D} {S = S} {K = K} sys part count state m a bs is_chosen gives crosses s' P A aw n said out out' u part_is made one left stays goes awaits saying gave =
    let events = used_events crosses gives a m.options.xres is_chosen bs (counted m.place) in
    let m' : Machine D S K = record m { stepper = s'; made = a; branches = bs; place = P; asked = A; awaited = aw; own = n } in
    subst (λ (x : Step). Performs sys part count state (count m.stepper) m' out out' (Ok said) (own_by x sys (moment_of sys state m))) (sym (tried-next sys part state m a bs is_chosen gives crosses u))
    (record {
      sound = used-sound sys part state m a a bs is_chosen gives crosses s' P A aw n u part_is u.room left stays goes;
      walk = own-walk sys part state m a bs is_chosen gives crosses s' P A aw n u one left goes awaits;
      ahead = used-ahead true crosses aw P.tip (next_of sys (held_of (digital_at sys (state m.kernel)) P)) awaits;
      says_is = saying ∙ asked-is crosses;
      events = gave;
      count_is = made;
      front = tt;
    })
  where
    asked-is : (crosses : Bool) → says.Ask (ask_after crosses) ≡ says.Ask (cond crosses asks.None asks.Consume)
    asked-is true = refl
    asked-is false = refl

    used-ahead : (own crosses : Bool) (aw : Awaited) (t : Tip) (s : Step) → aw ≡ awaited_after own crosses → AheadOf (awaited_of aw t) s
    used-ahead own true aw t s e = subst (λ (x : Awaited). AheadOf (awaited_of x t) s) (sym e) tt
    used-ahead own false aw t s e = subst (λ (x : Awaited). AheadOf (awaited_of x t) s) (sym e) tt

    own-walk : {D S K : Type 0} (sys : System) (part : S → ℕ) (state : K → KernelState) (m : Machine D S K) (a : Attempt) (bs : List ℕ) (is_chosen gives crosses : Bool) (s' : S) (P : RunPlace) (A : Tip) (aw : Awaited) (n : ℕ)
        → Uses sys part state m a bs is_chosen gives crosses → n ≡ more m.own → P ≡ used_left crosses gives a m.options.xres is_chosen bs (counted m.place) → (crosses ≡ false → A ≡ m.place.tip) → aw ≡ awaited_after true crosses
        → walk_of sys (moment_of sys state (record m { stepper = s'; made = a; branches = bs; place = P; asked = A; awaited = aw; own = n })) ≡
        walk_of sys (record (moment_of sys state m) { held = held-behind sys (state_of (state m.kernel).digital m.place) a m.place.cycles_left (m.place.tries_left - 1) crosses; awaited = cond crosses w.Ready (w.Settling true (next (moment_of sys state m).tip a)); own = more m.own })
    own-walk {D = D} {S = S} {K = K} sys part state m a bs is_chosen gives true s' P A aw n u one left goes awaits =
        let m' : Machine D S K = record m { stepper = s'; made = a; branches = bs; place = P; asked = A; awaited = aw; own = n } in
        walk_is sys state m' (held-behind sys (state_of (state m.kernel).digital m.place) a m.place.cycles_left (m.place.tries_left - 1) true) w.Ready (moment_of sys state m).tip m.frame (more m.own) m.cycles
        (held-is sys part state m a bs is_chosen gives true P u left)
        (ap (λ (x : Awaited). awaited_of x P.tip) awaits)
        (ap (λ (x : Awaited). asked_of x A P.tip) awaits ∙ ap (λ (y : RunPlace). y.tip) left ∙ sym (asked-tip sys part state m u.awaits))
        refl one refl
    own-walk {D = D} {S = S} {K = K} sys part state m a bs is_chosen gives false s' P A aw n u one left goes awaits =
        let m' : Machine D S K = record m { stepper = s'; made = a; branches = bs; place = P; asked = A; awaited = aw; own = n } in
        let tip : P.tip ≡ next m.place.tip a =
        ap (λ (y : RunPlace). y.tip) left ∙ passed-tip (is_failed a.kind) gives is_chosen a bs m.place (next m.place.tip a) in
        walk_is sys state m' (held-behind sys (state_of (state m.kernel).digital m.place) a m.place.cycles_left (m.place.tries_left - 1) false) (w.Settling true (next (moment_of sys state m).tip a)) (moment_of sys state m).tip m.frame (more m.own) m.cycles
        (held-is sys part state m a bs is_chosen gives false P u left)
        (ap (λ (x : Awaited). awaited_of x P.tip) awaits ∙ ap (λ (t : Tip). w.Settling true t) (tip ∙ ap (λ (t : Tip). next t a) (sym (asked-tip sys part state m u.awaits))))
        (ap (λ (x : Awaited). asked_of x A P.tip) awaits ∙ goes refl ∙ sym (asked-tip sys part state m u.awaits))
        refl one refl

-- no memory was found for its point
pub own_lost : {D S K : Type 0} (sys : System) (part count : S → ℕ) (state : K → KernelState) (m m' : Machine D S K) (a : Attempt) (bs : List ℕ) (is_chosen gives crosses : Bool) (out out' : List Event) (res : Result Moved AllocError)
    → IsErr res → Uses sys part state m a bs is_chosen gives crosses
    → AddsFront out out' (used_events crosses gives a m.options.xres is_chosen bs (counted m.place))
    → Performs sys part count state (count m.stepper) m' out out' res (own_by (next_of sys (held_of (digital_at sys (state m.kernel)) m.place)) sys (moment_of sys state m))
own_lost sys part count state m m' a bs is_chosen gives crosses out out' (Ok said) lost u front = cc
own_lost sys part count state m m' a bs is_chosen gives crosses out out' (Err fault) lost u front =
    subst (λ (x : Step). Performs sys part count state (count m.stepper) m' out out' (Err fault) (own_by x sys (moment_of sys state m))) (sym (tried-next sys part state m a bs is_chosen gives crosses u))
    (record { sound = tt; walk = tt; ahead = tt; says_is = tt; events = tt; count_is = tt; front = front })

-- ---- an attempt that was found

-- what is awaited doesn't count where nothing is left to be decided
proceed-any : (s : Step) (M : Moment) (x : w.Awaited) (sys : System) → IsReady s → proceed_by s (made_ready sys (record M { awaited = x })) ≡ proceed_by s (made_ready sys M)
proceed-any (Decides new) M x sys r = absurd r
proceed-any (Makes p (Worked kind events renews standing) new) M x sys r = refl
proceed-any (Makes p (Tried tip frame until made crossing events) new) M x sys r = refl
proceed-any (Stops e) M x sys r = refl

proceed-awaits : (sys : System) (M : Moment) (x : w.Awaited) → proceed sys (record M { awaited = x }) ≡ proceed sys M
proceed-awaits sys M x = proceed-any (next_of sys (ready sys M.held)) M x sys (ready_ready sys M.held)

-- the events come before those of what follows
led-by : {D S K : Type 0} (sys : System) (part count : S → ℕ) (state : K → KernelState) (made : ℕ) (m : Machine D S K) (out out' out'' events : List Event) (res : Result Moved AllocError) (v : Moving) → out' ≡ out ++ events → Performs sys part count state made m out' out'' res v → Performs sys part count state made m out out'' res (led events v)
led-by sys part count state made m out out' out'' events (Ok said) v gave done =
    record {
      sound = done.sound;
      walk = done.walk;
      ahead = done.ahead;
      says_is = done.says_is;
      events = done.events ∙ ap (λ (y : List Event). y ++ v.events) gave ∙ append_assoc out events v.events;
      count_is = done.count_is;
      front = tt;
    }
led-by sys part count state made m out out' out'' events (Err fault) v gave done =
    let f : AddsFront out' out'' v.events = done.front in
    record {
      sound = tt;
      walk = tt;
      ahead = tt;
      says_is = tt;
      events = tt;
      count_is = tt;
      front =
          record {
            front = events ++ f.front;
            is_front = (f.is_front.0, append_assoc events f.front f.is_front.0 ∙ ap (λ (y : List Event). events ++ y) f.is_front.1);
            new_is = f.new_is ∙ ap (λ (y : List Event). y ++ f.front) gave ∙ append_assoc out events f.front;
          };
    }

-- a front of the first events is one of them all
pub front_led : (out out' events later : List Event) → AddsFront out out' events → AddsFront out out' (events ++ later)
front_led out out' events later f =
    record {
      front = f.front;
      is_front = (f.is_front.0 ++ later, sym (append_assoc f.front f.is_front.0 later) ∙ ap (λ (y : List Event). y ++ later) f.is_front.1);
      new_is = f.new_is;
    }

-- one that was found goes on
pub found_used : {D S K : Type 0} (sys : System) (part count : S → ℕ) (state : K → KernelState) (m : Machine D S K) (a : Attempt) (bs : List ℕ) (is_chosen gives crosses : Bool) (s' : S) (P : RunPlace) (A : Tip) (out out' : List Event)
    → Uses sys part state m a bs is_chosen gives crosses → part s' ≡ 0 → count s' ≡ count m.stepper
    → (crosses || is_failed a.kind) ≡ false
    → P ≡ used_left crosses gives a m.options.xres is_chosen bs (counted m.place)
    → (crosses ≡ true → A ≡ m.asked) → (crosses ≡ false → A ≡ m.place.tip)
    → out' ≡ out ++ used_events crosses gives a m.options.xres is_chosen bs (counted m.place)
    → Performs sys part count state (count m.stepper) (record m { stepper = s'; branches = bs; place = P; asked = A; awaited = Settling false }) out out' (Ok (says.Ask asks.Consume)) (found_by (next_of sys (held_of (digital_at sys (state m.kernel)) m.place)) sys (moment_of sys state m))
found_used sys part count state m a bs is_chosen true true s' P A out out' u part_is made stays left keeps goes gave = cc
found_used sys part count state m a bs is_chosen false true s' P A out out' u part_is made stays left keeps goes gave = cc
found_used {D = D} {S = S} {K = K} sys part count state m a bs is_chosen gives false s' P A out out' u part_is made stays left keeps goes gave =
    let M = moment_of sys state m in
    let H = held-behind sys (state_of (state m.kernel).digital m.place) a m.place.cycles_left (m.place.tries_left - 1) false in
    let events = used_events false gives a m.options.xres is_chosen bs (counted m.place) in
    let m' : Machine D S K = record m { stepper = s'; branches = bs; place = P; asked = A; awaited = Settling false } in
    let tip : P.tip ≡ next m.place.tip a =
    ap (λ (y : RunPlace). y.tip) left ∙ passed-tip (is_failed a.kind) gives is_chosen a bs m.place (next m.place.tip a) in
    let at : M.tip ≡ m.place.tip = asked-tip sys part state m u.awaits in
    subst (λ (x : Step). Performs sys part count state (count m.stepper) m' out out' (Ok (says.Ask asks.Consume)) (found_by x sys M)) (sym (tried-next sys part state m a bs is_chosen gives false u))
    (subst (λ (b : Bool). Performs sys part count state (count m.stepper) m' out out' (Ok (says.Ask asks.Consume)) (cond b (led events (proceed sys (record M { held = H }))) (record { moment = record M { held = H; awaited = w.Settling false (next M.tip a) }; says = says.Ask asks.Consume; events = events; computed = 0 }))) (sym stays)
    (record {
      sound = used-sound sys part state m a m.made bs is_chosen gives false s' P A (Settling false) m.own u part_is u.sound.room.made left keeps goes;
      walk =
          walk_is sys state m' H (w.Settling false (next M.tip a)) M.tip m.frame m.own m.cycles
          (held-is sys part state m a bs is_chosen gives false P u left)
          (ap (λ (t : Tip). w.Settling false t) (tip ∙ ap (λ (t : Tip). next t a) (sym at)))
          (goes refl ∙ sym at)
          refl refl refl;
      ahead = tt;
      says_is = refl;
      events = gave;
      count_is = made;
      front = tt;
    }))

-- one that was a crossing or failed isn't consumed, and what follows comes at once
pub found_led : {D S K : Type 0} (sys : System) (part count : S → ℕ) (state : K → KernelState) (m m'' : Machine D S K) (a : Attempt) (bs : List ℕ) (is_chosen gives crosses : Bool) (s' : S) (P : RunPlace) (A : Tip) (out out' out'' : List Event) (res : Result Moved AllocError)
    → Uses sys part state m a bs is_chosen gives crosses → count s' ≡ count m.stepper
    → (crosses || is_failed a.kind) ≡ true
    → P ≡ used_left crosses gives a m.options.xres is_chosen bs (counted m.place)
    → out' ≡ out ++ used_events crosses gives a m.options.xres is_chosen bs (counted m.place)
    → Performs sys part count state (count s') m'' out' out'' res (proceed sys (moment_of sys state (record m { stepper = s'; branches = bs; place = P; asked = A; awaited = Ready })))
    → Performs sys part count state (count m.stepper) m'' out out'' res (found_by (next_of sys (held_of (digital_at sys (state m.kernel)) m.place)) sys (moment_of sys state m))
found_led {D = D} {S = S} {K = K} sys part count state m m'' a bs is_chosen gives crosses s' P A out out' out'' res u made stays left gave done =
    let M = moment_of sys state m in
    let H = held-behind sys (state_of (state m.kernel).digital m.place) a m.place.cycles_left (m.place.tries_left - 1) crosses in
    let events = used_events crosses gives a m.options.xres is_chosen bs (counted m.place) in
    let m' : Machine D S K = record m { stepper = s'; branches = bs; place = P; asked = A; awaited = Ready } in
    let tip : P.tip ≡ M.tip = ap (λ (y : RunPlace). y.tip) left ∙ stays-tip crosses gives is_chosen a bs m.options.xres m.place stays ∙ sym (asked-tip sys part state m u.awaits) in
    let same : proceed sys (moment_of sys state m') ≡ proceed sys (record M { held = H }) =
    ap (λ (x : Held). proceed sys (record M { held = x; awaited = w.Ready; tip = P.tip })) (held-is sys part state m a bs is_chosen gives crosses P u left)
    ∙ ap (λ (t : Tip). proceed sys (record M { held = H; awaited = w.Ready; tip = t })) tip
    ∙ proceed-awaits sys (record M { held = H }) w.Ready in
    subst (λ (x : Step). Performs sys part count state (count m.stepper) m'' out out'' res (found_by x sys M)) (sym (tried-next sys part state m a bs is_chosen gives crosses u))
    (subst (λ (b : Bool). Performs sys part count state (count m.stepper) m'' out out'' res (cond b (led events (proceed sys (record M { held = H }))) (record { moment = record M { held = H; awaited = w.Settling false (next M.tip a) }; says = says.Ask asks.Consume; events = events; computed = 0 }))) (sym stays)
    (led-by sys part count state (count m.stepper) m'' out out' out'' events res (proceed sys (record M { held = H })) gave
    (subst (λ (v : Moving). Performs sys part count state (count m.stepper) m'' out' out'' res v) same
    (subst (λ (n : ℕ). Performs sys part count state n m'' out' out'' res (proceed sys (moment_of sys state m'))) made done))))
  where
    stays-tip : (crosses gives is_chosen : Bool) (a : Attempt) (bs : List ℕ) (xres : ℕ) (p : RunPlace) → (crosses || is_failed a.kind) ≡ true → (used_left crosses gives a xres is_chosen bs (counted p)).tip ≡ p.tip
    stays-tip true gives is_chosen a bs xres p e = refl
    stays-tip false gives is_chosen a bs xres p e = passed-tip (is_failed a.kind) gives is_chosen a bs p (next p.tip a) ∙ failed-tip a.kind p.tip a e

-- nothing is awaited any more behind one that isn't consumed
pub found_sound : {D S K : Type 0} (sys : System) (part : S → ℕ) (state : K → KernelState) (m : Machine D S K) (a : Attempt) (bs : List ℕ) (is_chosen gives crosses : Bool) (s' : S) (P : RunPlace) (A : Tip) → Uses sys part state m a bs is_chosen gives crosses → part s' ≡ 0
    → P ≡ used_left crosses gives a m.options.xres is_chosen bs (counted m.place) → (crosses ≡ true → A ≡ m.asked) → (crosses ≡ false → A ≡ m.place.tip)
    → Sound sys part state (record m { stepper = s'; branches = bs; place = P; asked = A; awaited = Ready })
found_sound sys part state m a bs is_chosen gives crosses s' P A u part_is left keeps goes =
    used-sound sys part state m a m.made bs is_chosen gives crosses s' P A Ready m.own u part_is u.sound.room.made left keeps goes

-- no memory was found for its point
pub found_lost : {D S K : Type 0} (sys : System) (part count : S → ℕ) (state : K → KernelState) (m m' : Machine D S K) (a : Attempt) (bs : List ℕ) (is_chosen gives crosses : Bool) (out out' : List Event) (res : Result Moved AllocError)
    → IsErr res → Uses sys part state m a bs is_chosen gives crosses
    → AddsFront out out' (used_events crosses gives a m.options.xres is_chosen bs (counted m.place))
    → Performs sys part count state (count m.stepper) m' out out' res (found_by (next_of sys (held_of (digital_at sys (state m.kernel)) m.place)) sys (moment_of sys state m))
found_lost sys part count state m m' a bs is_chosen gives crosses out out' (Ok said) lost u front = cc
found_lost sys part count state m m' a bs is_chosen gives crosses out out' (Err fault) lost u front =
    let M = moment_of sys state m in
    let H = held-behind sys (state_of (state m.kernel).digital m.place) a m.place.cycles_left (m.place.tries_left - 1) crosses in
    let events = used_events crosses gives a m.options.xres is_chosen bs (counted m.place) in
    subst (λ (x : Step). Performs sys part count state (count m.stepper) m' out out' (Err fault) (found_by x sys M)) (sym (tried-next sys part state m a bs is_chosen gives crosses u))
    (elim (crosses || is_failed a.kind) as
    (λ b. Performs sys part count state (count m.stepper) m' out out' (Err fault) (cond b (led events (proceed sys (record M { held = H }))) (record { moment = record M { held = H; awaited = w.Settling false (next M.tip a) }; says = says.Ask asks.Consume; events = events; computed = 0 }))) [
      | true ↦ record { sound = tt; walk = tt; ahead = tt; says_is = tt; events = tt; count_is = tt; front = front_led out out' events (proceed sys (record M { held = H })).events front }
      | false ↦ record { sound = tt; walk = tt; ahead = tt; says_is = tt; events = tt; count_is = tt; front = front }
    ])
