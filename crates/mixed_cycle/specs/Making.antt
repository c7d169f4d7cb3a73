-- What a move does to a machine and to the events.
use Rattle.std.specs.Prelude.{◌≡◌, ℕ, zero, suc, ◌+◌, ◌++◌, Bool, List, IsTrue, Result, Ok, Err, OnOk, OnErr, IfOk, IsErr}
use Rattle.std.proofs.Common.{ap, sym, subst, ◌∙◌}
use Rattle.std.specs.declared.alloc.AllocError.{AllocError}
use Rattle.ams_value.specs.declared.val.Val.{Val}
use Rattle.step_data.specs.declared.event.Event.{Event}
use Rattle.step_data.specs.declared.tip.Tip.{Tip}
use Rattle.step_model.specs.Counts.{more}
use Rattle.step_model.specs.Kernel.{KernelState, AddsFront}
use Rattle.step_model.specs.System.{System}
use Rattle.lockstep_model.specs.RunStates.{RunState}
use Rattle.lockstep_model.specs.Works.{Run, WorkKind, Worked, Standing, cycles_at, steps_at}
use Rattle.lockstep_model.specs.Walk as w
use Rattle.lockstep_model.specs.Walk.{ask_of}
use Rattle.lockstep_model.specs.declared.moves.Moved.{Moved}
use Rattle.lockstep_model.specs.declared.moves.Moved.TheVariants as says
use Rattle.cycle_machine.specs.Held.{Held, Step, Makes, rest_of, next_of}
use Rattle.cycle_machine.specs.Ready.{decided, ready}
use Rattle.cycle_machine.specs.Moves.{Moment, Moving, walk_of, walk_with, made_ready, proceed_by, IsAhead}
use Rattle.run_place.specs.Places.{held_of}
use Rattle.mixed_cycle.specs.declared.machine.Awaited.{Awaited}
use Rattle.mixed_cycle.specs.declared.machine.Awaited.TheVariants.{Ready}
use Rattle.mixed_cycle.specs.declared.machine.Machine.{Machine}
use Rattle.mixed_cycle.specs.Standing.{Stands, digital_at}
use Rattle.mixed_cycle.specs.Machine.{Sound, HasRoom, Decides, moment_of, awaited_of, asked_of}

-- as many trials and attempts more
abbrev pub counted : ℕ → ℕ → ℕ
counted zero n = n
counted (suc k) n = more (counted k n)

-- a move, behind which the walk of the run that is left is the one of the exact machine; where it finds no memory a front
-- of its events was added
pub record Performs {D S K : Type 0} (sys : System) (part count : S → ℕ) (state : K → KernelState) (made : ℕ) (new : Machine D S K) (out out' : List Event) (result : Result Moved AllocError) (v : Moving) : Type 0 where
  pub sound : OnOk result (Sound sys part state new)
  pub walk : OnOk result (walk_of sys (moment_of sys state new) ≡ walk_of sys v.moment)
  pub ahead : OnOk result (IsAhead sys (moment_of sys state new))
  pub says_is : IfOk result (λ s. s ≡ v.says)
  pub events : OnOk result (out' ≡ out ++ v.events)
  pub count_is : OnOk result (count new.stepper ≡ counted v.computed made)
  pub front : OnErr result (AddsFront out out' v.events)

-- the next thing is done at once
abbrev pub worked : System → Moment → Moving
worked sys m = proceed_by (next_of sys m.held) m

-- all decisions are made
pub record Readies {D S K : Type 0} (sys : System) (part count : S → ℕ) (state : K → KernelState) (old new : Machine D S K) : Type 0 where
  pub sound : Sound sys part state new
  pub moment : moment_of sys state new ≡ made_ready sys (moment_of sys state old)
  pub count_is : count new.stepper ≡ count old.stepper
  pub awaited_is : new.awaited ≡ old.awaited

pub three_decide : {D S K : Type 0} (sys : System) (part count : S → ℕ) (state : K → KernelState) (a b c d : Machine D S K) → Decides sys part count state a b → Decides sys part count state b c → Decides sys part count state c d → Readies sys part count state a d
unfolding ready
three_decide sys part count state a b c d x y z =
    record {
      sound = z.sound;
      moment =
          z.moment
          ∙ ap (λ (m : Moment). record m { held = decided sys m.held }) y.moment
          ∙ ap (λ (m : Moment). record m { held = decided sys (decided sys m.held) }) x.moment;
      count_is = z.count_is ∙ y.count_is ∙ x.count_is;
      awaited_is = z.awaited_is ∙ y.awaited_is ∙ x.awaited_is;
    }

-- no reply is awaited, so nothing has to come next
pub ready_ahead : {D S K : Type 0} (sys : System) (state : K → KernelState) (m : Machine D S K) → m.awaited ≡ Ready → IsAhead sys (moment_of sys state m)
ready_ahead sys state m e =
    subst (λ (a : Awaited). IsAhead sys (record (moment_of sys state m) { awaited = awaited_of a m.place.tip; tip = asked_of a m.asked m.place.tip })) (sym e) tt

-- a work that is no attempt was made
pub work_done : {D S K : Type 0} (sys : System) (part count : S → ℕ) (state : K → KernelState) (m m' : Machine D S K) (out out' : List Event) (q : RunState) (kind : WorkKind) (events : List Event) (renews : Bool) (standing : Standing) (h : Held) (said : Moved)
    → next_of sys (held_of (digital_at sys (state m.kernel)) m.place) ≡ Makes q (Worked kind events renews standing) h
    → rest_of sys (held_of (digital_at sys (state m'.kernel)) m'.place) ≡ rest_of sys h
    → m'.awaited ≡ Ready → m'.place.tip ≡ standing.tip → m'.frame ≡ standing.frame → m'.own ≡ m.own → m'.cycles ≡ cycles_at kind + m.cycles
    → Sound sys part state m' → count m'.stepper ≡ counted (steps_at kind) (count m.stepper)
    → said ≡ says.Ask (ask_of renews) → out' ≡ out ++ events
    → Performs sys part count state (count m.stepper) m' out out' (Ok said) (worked sys (moment_of sys state m))
work_done sys part count state m m' out out' q kind events renews standing h said next rest awaits tip frame own cycles sound made saying gave =
    subst (λ (s : Step). Performs sys part count state (count m.stepper) m' out out' (Ok said) (proceed_by s (moment_of sys state m))) (sym next)
    (record {
      sound = sound;
      walk =
          ap (λ (r : Run). walk_with r (moment_of sys state m')) rest
          ∙ ap (λ (a : Awaited). walk_with (rest_of sys h) (record (moment_of sys state m') { awaited = awaited_of a m'.place.tip; tip = asked_of a m'.asked m'.place.tip })) awaits
          ∙ ap (λ (t : Tip). walk_with (rest_of sys h) (record (moment_of sys state m') { awaited = w.Ready; tip = t })) tip
          ∙ ap (λ (f : List Val). walk_with (rest_of sys h) (record (moment_of sys state m') { awaited = w.Ready; tip = standing.tip; frame = f })) frame
          ∙ ap (λ (n : ℕ). walk_with (rest_of sys h) (record (moment_of sys state m') { awaited = w.Ready; tip = standing.tip; frame = standing.frame; own = n })) own
          ∙ ap (λ (n : ℕ). walk_with (rest_of sys h) (record (moment_of sys state m') { awaited = w.Ready; tip = standing.tip; frame = standing.frame; own = m.own; cycles = n })) cycles;
      ahead = ready_ahead sys state m' awaits;
      says_is = saying;
      events = gave;
      count_is = made;
      front = tt;
    })

-- no memory was found for its events
pub work_lost : {D S K : Type 0} (sys : System) (part count : S → ℕ) (state : K → KernelState) (made : ℕ) (m m' : Machine D S K) (out out' : List Event) (q : RunState) (kind : WorkKind) (events : List Event) (renews : Bool) (standing : Standing) (h : Held) (res : Result Moved AllocError)
    → IsErr res
    → next_of sys (held_of (digital_at sys (state m.kernel)) m.place) ≡ Makes q (Worked kind events renews standing) h
    → AddsFront out out' events
    → Performs sys part count state made m' out out' res (worked sys (moment_of sys state m))
work_lost sys part count state made m m' out out' q kind events renews standing h (Ok said) lost next front = cc
work_lost sys part count state made m m' out out' q kind events renews standing h (Err fault) lost next front =
    subst (λ (s : Step). Performs sys part count state made m' out out' (Err fault) (proceed_by s (moment_of sys state m))) (sym next)
    (record { sound = tt; walk = tt; ahead = tt; says_is = tt; events = tt; count_is = tt; front = front })

-- a machine with other contents is still sound
pub still_sound : {D S K : Type 0} (sys : System) (part : S → ℕ) (state : K → KernelState) (m m' : Machine D S K) → Sound sys part state m → part m'.stepper ≡ 0 → m'.options ≡ m.options → HasRoom sys m' → IsTrue (sys.is_frame m'.frame) → Stands sys (state m'.kernel) m'.frame m'.cycles m'.place → Sound sys part state m'
still_sound sys part state m m' s part_is options room fits stands =
    record {
      part_is = part_is;
      options_are = options ∙ s.options_are;
      allowed = s.allowed;
      deltas = s.deltas;
      choices = s.choices;
      room = room;
      frame_fits = fits;
      stands = stands;
    }
