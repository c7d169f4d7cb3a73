-- What an engine shows of itself, and what a move does to it.
use Rattle.std.specs.Prelude.{◌≡◌, ◌≢◌, ℕ, List, [], ◌++◌, OnOk, OnErr, IfOk, Result, Ok, Err, refl}
use Rattle.std.specs.declared.alloc.AllocError.{AllocError}
use Rattle.std.proofs.Common.{ap, sym, subst, ◌∙◌}
use Rattle.std.proofs.lemmas.List.{append_assoc}
use Rattle.step_data.specs.declared.event.Event.{Event}
use Rattle.step_data.specs.declared.outcome.End.{End}
use Rattle.step_data.specs.declared.tip.Tip.{Tip}
use Rattle.step_model.specs.Kernel.{KernelState, AddsFront}
use Rattle.step_model.specs.System.{System, attempt}
use Rattle.lockstep_model.specs.Works.{Work, events_of}
use Rattle.lockstep_model.specs.Walk as w
use Rattle.lockstep_model.specs.Walk.{Walk, Move, Reply, Fits, Keeps, Costs, Begins, EndsAll, Awaits, Spends, OwnsOne, Falls, moved, moved_at, proceed_to}
use Rattle.lockstep_model.specs.declared.moves.Moved.{Moved}
use Rattle.lockstep_model.specs.declared.moves.Moved.TheVariants as says
use Rattle.cycle_machine.specs.Moves.{Moving, IsAhead, walk_of, move_of, moving}
use Rattle.cycle_machine.specs.MoveLaws.{moving_is}
use Rattle.cycle_machine.specs.RunLaws.{moving_keeps, moving_costs, moving_begins}
use Rattle.mixed_cycle.specs.declared.machine.Awaited.{Awaited}
use Rattle.mixed_cycle.specs.declared.machine.Awaited.TheVariants.{Ready, Looking, Settling, Broken}
use Rattle.mixed_cycle.specs.declared.machine.Machine.{Machine}
use Rattle.mixed_cycle.specs.Machine.{Sound, moment_of, awaited_of}
use Rattle.mixed_cycle.specs.Making.{Performs, counted}
use Rattle.mixed_cycle.specs.Used.{front_led}

-- the walk of the run that is left, and how many trials and attempts its stepper has made
pub record Running : Type 0 where
  pub walk : Walk
  pub count : ℕ

abbrev pub running : {D S K : Type 0} → System → (S → ℕ) → (K → KernelState) → Machine D S K → Running
running sys count state m = record { walk = walk_of sys (moment_of sys state m); count = count m.stepper }

-- what is true of its machine between two moves
pub record Kept {D S K : Type 0} (sys : System) (part : S → ℕ) (state : K → KernelState) (m : Machine D S K) : Type 0 where
  pub sound : m.awaited ≢ Broken → Sound sys part state m
  pub ahead : IsAhead sys (moment_of sys state m)

-- where the end was told, every later move tells it again and changes nothing
abbrev pub EndsAgain : Walk → Moved → Type 0
EndsAgain w (says.Ended e) = (later : Reply) → moved w later ≡ record { walk = w; says = says.Ended e; events = []; computed = 0 }
EndsAgain w (says.Ask ask) = Unit {0}

ended_again : (w : Walk) (s : Moved) → Awaits w s → EndsAll w s → EndsAgain w s
ended_again y (says.Ended e) awaits ended =
    λ later.
    ap (λ (a : w.Awaited). moved_at a later y) awaits
    ∙ ap (λ (works : List Work). proceed_to works y) ended.0
    ∙ ap (λ (a : w.Awaited). record { walk = record y { awaited = a }; says = says.Ended y.end; events = []; computed = 0 }) (sym awaits)
    ∙ ap (λ (end : End). record { walk = y; says = says.Ended end; events = []; computed = 0 }) (sym ended.1)
ended_again y (says.Ask ask) awaits ended = tt

-- what a move does: the walk's move; the events go on as they would have, and the end is the same one; an attempt is found
-- or made once, and the moves come to an end; where no memory is found a front of the events that are left was added
pub record Follows (old new : Running) (reply : Reply) (out out' : List Event) (res : Result Moved AllocError) : Type 0 where
  pub walk : OnOk res (new.walk ≡ (moved old.walk reply).walk)
  pub says_is : IfOk res (λ s. s ≡ (moved old.walk reply).says)
  pub events : OnOk res (out' ≡ out ++ (moved old.walk reply).events)
  pub count_is : OnOk res (new.count ≡ counted (moved old.walk reply).computed old.count)
  pub rest : OnOk res (out' ++ events_of new.walk.works ≡ out ++ events_of old.walk.works)
  pub end : OnOk res (new.walk.end ≡ old.walk.end)
  pub ended : IfOk res (EndsAll new.walk)
  pub awaits : IfOk res (Awaits new.walk)
  pub again : IfOk res (EndsAgain new.walk)
  pub begins : OnOk res (Begins old.walk reply (moved old.walk reply))
  pub spends : OnOk res (Spends old.walk new.walk reply)
  pub owns : OnOk res (OwnsOne old.walk new.walk reply)
  pub falls : IfOk res (Falls old.walk new.walk)
  pub front : OnErr res (AddsFront out out' (events_of old.walk.works))

alive-walk : (x : Awaited) (t : Tip) → x ≢ Broken → awaited_of x t ≢ w.Broken
alive-walk Ready t alive = λ e. cc
alive-walk Looking t alive = λ e. cc
alive-walk (Settling own) t alive = λ e. cc
alive-walk Broken t alive = absurd (alive refl)

pub follows : {D S K : Type 0} (sys : System) (part count : S → ℕ) (state : K → KernelState) (m m' : Machine D S K) (reply : Reply) (out out' : List Event) (res : Result Moved AllocError) → IsAhead sys (moment_of sys state m) → OnOk res (m.awaited ≢ Broken) → Fits (attempt sys) (walk_of sys (moment_of sys state m)) (moment_of sys state m).awaited reply →
    Performs sys part count state (count m.stepper) m' out out' res (moving sys (moment_of sys state m) reply) → Follows (running sys count state m) (running sys count state m') reply out out' res
follows sys part count state m m' reply out out' (Ok said) ahead alive fits done =
    let M = moment_of sys state m in
    let W = walk_of sys M in
    let is : move_of sys (moving sys M reply) ≡ moved W reply = moving_is sys M reply ahead in
    let keeps : Keeps W (moved W reply) = subst (λ (v : Move). Keeps W v) is (moving_keeps sys M reply ahead) in
    let costs : Costs W reply (moved W reply) = subst (λ (v : Move). Costs W reply v) is (moving_costs (attempt sys) sys M reply ahead (alive-walk m.awaited m.place.tip alive) fits) in
    let walk : walk_of sys (moment_of sys state m') ≡ (moved W reply).walk = done.walk ∙ ap (λ (v : Move). v.walk) is in
    let saying : said ≡ (moved W reply).says = done.says_is ∙ ap (λ (v : Move). v.says) is in
    let events : out' ≡ out ++ (moved W reply).events = done.events ∙ ap (λ (v : Move). out ++ v.events) is in
    record {
      walk = walk;
      says_is = saying;
      events = events;
      count_is = done.count_is ∙ ap (λ (v : Move). counted v.computed (count m.stepper)) is;
      rest =
          ap (λ (y : List Event). y ++ events_of (walk_of sys (moment_of sys state m')).works) events
          ∙ ap (λ (y : Walk). (out ++ (moved W reply).events) ++ events_of y.works) walk
          ∙ append_assoc out (moved W reply).events (events_of (moved W reply).walk.works)
          ∙ ap (λ (y : List Event). out ++ y) keeps.events;
      end = ap (λ (y : Walk). y.end) walk ∙ keeps.end;
      ended = subst (λ (s : Moved). EndsAll (walk_of sys (moment_of sys state m')) s) (sym saying) (subst (λ (y : Walk). EndsAll y (moved W reply).says) (sym walk) keeps.ended);
      awaits = subst (λ (s : Moved). Awaits (walk_of sys (moment_of sys state m')) s) (sym saying) (subst (λ (y : Walk). Awaits y (moved W reply).says) (sym walk) keeps.awaits);
      again =
          subst (λ (s : Moved). EndsAgain (walk_of sys (moment_of sys state m')) s) (sym saying)
          (subst (λ (y : Walk). EndsAgain y (moved W reply).says) (sym walk) (ended_again (moved W reply).walk (moved W reply).says keeps.awaits keeps.ended));
      begins = subst (λ (v : Move). Begins W reply v) is (moving_begins (attempt sys) sys M reply ahead (alive-walk m.awaited m.place.tip alive) fits);
      spends = subst (λ (y : Walk). Spends W y reply) (sym walk) costs.spends;
      owns = subst (λ (y : Walk). OwnsOne W y reply) (sym walk) costs.owns;
      falls = subst (λ (s : Moved). Falls W (walk_of sys (moment_of sys state m')) s) (sym saying) (subst (λ (y : Walk). Falls W y (moved W reply).says) (sym walk) costs.falls);
      front = tt;
    }
follows sys part count state m m' reply out out' (Err fault) ahead alive fits done =
    let M = moment_of sys state m in
    let v = moving sys M reply in
    record {
      walk = tt;
      says_is = tt;
      events = tt;
      count_is = tt;
      rest = tt;
      end = tt;
      ended = tt;
      awaits = tt;
      again = tt;
      begins = tt;
      spends = tt;
      owns = tt;
      falls = tt;
      front =
          subst (λ (es : List Event). AddsFront out out' es) (moving_keeps sys M reply ahead).events
          (front_led out out' v.events (events_of (walk_of sys v.moment).works) done.front);
    }

pub kept_on : {D S K : Type 0} (sys : System) (part count : S → ℕ) (state : K → KernelState) (made : ℕ) (m' : Machine D S K) (out out' : List Event) (res : Result Moved AllocError) (v : Moving) → Performs sys part count state made m' out out' res v → OnOk res (Kept sys part state m')
kept_on sys part count state made m' out out' (Ok said) v done = record { sound = λ alive. done.sound; ahead = done.ahead }
kept_on sys part count state made m' out out' (Err fault) v done = tt

-- one that found no memory answers so for ever
pub kept_broken : {D S K : Type 0} (sys : System) (part : S → ℕ) (state : K → KernelState) (m : Machine D S K) → Kept sys part state (record m { awaited = Broken })
kept_broken sys part state m = record { sound = λ alive. absurd (alive refl); ahead = tt }

-- the same, of what an engine shows
pub follows_from : {D S K : Type 0} (sys : System) (part count : S → ℕ) (state : K → KernelState) (m m' : Machine D S K) (old : Running) (reply : Reply) (out out' : List Event) (res : Result Moved AllocError) → old ≡ running sys count state m → IsAhead sys (moment_of sys state m) → OnOk res (m.awaited ≢ Broken) → Fits (attempt sys) old.walk old.walk.awaited reply →
    Performs sys part count state (count m.stepper) m' out out' res (moving sys (moment_of sys state m) reply) → Follows old (running sys count state m') reply out out' res
follows_from sys part count state m m' old reply out out' res e ahead alive fits done =
    subst (λ (v : Running). Follows v (running sys count state m') reply out out' res) (sym e)
    (follows sys part count state m m' reply out out' res ahead alive (subst (λ (v : Running). Fits (attempt sys) v.walk v.walk.awaited reply) e fits) done)
