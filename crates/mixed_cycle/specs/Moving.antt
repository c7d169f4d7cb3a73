-- A move, by the reply to the last ask.
use Rattle.std.specs.Prelude.{◌≡◌, ℕ, Bool, List, [], length, Result, Err, refl}
use Rattle.std.specs.declared.alloc.AllocError.{AllocError}
use Rattle.std.proofs.Common.{ap, sym, subst, ◌∙◌, append-nil}
use Rattle.step_data.specs.declared.event.Event.{Event}
use Rattle.step_data.specs.declared.tip.Attempt.{Attempt}
use Rattle.step_model.specs.Kernel.{KernelState}
use Rattle.step_model.specs.System.{System, attempt}
use Rattle.lockstep_model.specs.Walk.{Reply, NoReply, Here, Nothing, Consumed, Fits, was_consumed}
use Rattle.lockstep_model.specs.declared.moves.Moved.{Moved}
use Rattle.cycle_machine.specs.Held.{next_of}
use Rattle.cycle_machine.specs.Moves.{AheadOf, IsAhead, IsTried, walk_of, own_by, found_by, proceed, settle, moved_at, moving}
use Rattle.run_place.specs.Places.{held_of}
use Rattle.mixed_cycle.specs.declared.machine.Awaited.{Awaited}
use Rattle.mixed_cycle.specs.declared.machine.Awaited.TheVariants.{Ready, Looking, Settling}
use Rattle.mixed_cycle.specs.declared.machine.Machine.{Machine}
use Rattle.mixed_cycle.specs.Standing.{digital_at}
use Rattle.mixed_cycle.specs.Machine.{moment_of, awaited_of, asked_of}
use Rattle.mixed_cycle.specs.Making.{Performs}

-- a found attempt has the values of so many unknowns
abbrev pub FitsIn : ℕ → Reply → Type 0
FitsIn n NoReply = Unit {0}
FitsIn n (Here a) = length a.x ≡ n
FitsIn n Nothing = Unit {0}
FitsIn n (Consumed b) = Unit {0}

-- none was found
abbrev pub IsMissing : Reply → Type 0
IsMissing NoReply = Unit {0}
IsMissing (Here a) = ⊥
IsMissing Nothing = Unit {0}
IsMissing (Consumed b) = Unit {0}

pub moves_ready : {D S K : Type 0} (sys : System) (part count : S → ℕ) (state : K → KernelState) (made : ℕ) (m m' : Machine D S K) (reply : Reply) (out out' : List Event) (res : Result Moved AllocError) → m.awaited ≡ Ready → Performs sys part count state made m' out out' res (proceed sys (moment_of sys state m)) → Performs sys part count state made m' out out' res (moving sys (moment_of sys state m) reply)
moves_ready sys part count state made m m' reply out out' res e done =
    subst (λ (x : Awaited). Performs sys part count state made m' out out' res (moved_at (awaited_of x m.place.tip) reply sys (moment_of sys state m))) (sym e) done

pub moves_found : {D S K : Type 0} (sys : System) (part count : S → ℕ) (state : K → KernelState) (made : ℕ) (m m' : Machine D S K) (reply : Reply) (a : Attempt) (out out' : List Event) (res : Result Moved AllocError) → m.awaited ≡ Looking → reply ≡ Here a → Performs sys part count state made m' out out' res (found_by (next_of sys (held_of (digital_at sys (state m.kernel)) m.place)) sys (moment_of sys state m)) → Performs sys part count state made m' out out' res (moving sys (moment_of sys state m) reply)
moves_found sys part count state made m m' reply a out out' res e here done =
    subst (λ (r : Reply). Performs sys part count state made m' out out' res (moving sys (moment_of sys state m) r)) (sym here)
    (subst (λ (x : Awaited). Performs sys part count state made m' out out' res (moved_at (awaited_of x m.place.tip) (Here a) sys (moment_of sys state m))) (sym e) done)

pub moves_own : {D S K : Type 0} (sys : System) (part count : S → ℕ) (state : K → KernelState) (made : ℕ) (m m' : Machine D S K) (reply : Reply) (out out' : List Event) (res : Result Moved AllocError) → m.awaited ≡ Looking → IsMissing reply → Performs sys part count state made m' out out' res (own_by (next_of sys (held_of (digital_at sys (state m.kernel)) m.place)) sys (moment_of sys state m)) → Performs sys part count state made m' out out' res (moving sys (moment_of sys state m) reply)
moves_own sys part count state made m m' NoReply out out' res e missing done =
    subst (λ (x : Awaited). Performs sys part count state made m' out out' res (moved_at (awaited_of x m.place.tip) NoReply sys (moment_of sys state m))) (sym e) done
moves_own sys part count state made m m' (Here a) out out' res e missing done = absurd missing
moves_own sys part count state made m m' Nothing out out' res e missing done =
    subst (λ (x : Awaited). Performs sys part count state made m' out out' res (moved_at (awaited_of x m.place.tip) Nothing sys (moment_of sys state m))) (sym e) done
moves_own sys part count state made m m' (Consumed b) out out' res e missing done =
    subst (λ (x : Awaited). Performs sys part count state made m' out out' res (moved_at (awaited_of x m.place.tip) (Consumed b) sys (moment_of sys state m))) (sym e) done

pub moves_settled : {D S K : Type 0} (sys : System) (part count : S → ℕ) (state : K → KernelState) (made : ℕ) (m m' : Machine D S K) (reply : Reply) (own consumed : Bool) (out out' : List Event) (res : Result Moved AllocError) → m.awaited ≡ Settling own → consumed ≡ was_consumed reply → Performs sys part count state made m' out out' res (settle own m.place.tip consumed sys (moment_of sys state m)) → Performs sys part count state made m' out out' res (moving sys (moment_of sys state m) reply)
moves_settled sys part count state made m m' reply own consumed out out' res e is done =
    subst (λ (x : Awaited). Performs sys part count state made m' out out' res (moved_at (awaited_of x m.place.tip) reply sys (moment_of sys state m))) (sym e)
    (subst (λ (b : Bool). Performs sys part count state made m' out out' res (settle own m.place.tip b sys (moment_of sys state m))) is done)

-- what is left of a run that found no memory
pub moves_broken : {D S K : Type 0} (sys : System) (part count : S → ℕ) (state : K → KernelState) (made : ℕ) (m : Machine D S K) (reply : Reply) (out : List Event) (fault : AllocError) → Performs sys part count state made m out out (Err fault) (moving sys (moment_of sys state m) reply)
moves_broken sys part count state made m reply out fault =
    let M = moment_of sys state m in
    record { sound = tt; walk = tt; ahead = tt; says_is = tt; events = tt; count_is = tt; front = record { front = []; is_front = ((moving sys M reply).events, refl); new_is = sym (append-nil out) } }

-- where a look is awaited an attempt comes next, and a found one is it
pub looks_ahead : {D S K : Type 0} (sys : System) (state : K → KernelState) (m : Machine D S K) → m.awaited ≡ Looking → IsAhead sys (moment_of sys state m) → IsTried (next_of sys (held_of (digital_at sys (state m.kernel)) m.place))
looks_ahead sys state m e ahead =
    subst (λ (x : Awaited). AheadOf (awaited_of x m.place.tip) (next_of sys (held_of (digital_at sys (state m.kernel)) m.place))) e ahead

pub found_is : {D S K : Type 0} (sys : System) (state : K → KernelState) (m : Machine D S K) (reply : Reply) (a : Attempt) → m.awaited ≡ Looking → reply ≡ Here a → Fits (attempt sys) (walk_of sys (moment_of sys state m)) (moment_of sys state m).awaited reply → a ≡ attempt sys m.frame m.place.tip
found_is sys state m reply a e here fits =
    let W = walk_of sys (moment_of sys state m) in
    let first : Fits (attempt sys) W (awaited_of m.awaited m.place.tip) (Here a) = subst (λ (r : Reply). Fits (attempt sys) W (awaited_of m.awaited m.place.tip) r) here fits in
    let second : a ≡ attempt sys m.frame W.tip = subst (λ (x : Awaited). Fits (attempt sys) W (awaited_of x m.place.tip) (Here a)) e first in
    second ∙ ap (λ (x : Awaited). attempt sys m.frame (asked_of x m.asked m.place.tip)) e

pub found_fits : (n : ℕ) (reply : Reply) (a : Attempt) → reply ≡ Here a → FitsIn n reply → length a.x ≡ n
found_fits n reply a here fits = subst (λ (r : Reply). FitsIn n r) here fits
