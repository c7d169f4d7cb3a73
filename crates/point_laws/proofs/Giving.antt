-- The points of a run, with what was told before each: by the works, of any system whose events tell its digital side.
use Rattle.std.proofs.Common.{◌≡◌, refl, sym, ap, ◌∙◌, ℕ, ◌-◌, ◌≤◌, ◌||◌, Bool, true, false, List, [], ◌∷◌, length}
use Rattle.std.specs.Prelude.{ℤ, map, Some, Ok}
use Rattle.ams_value.specs.declared.val.Val.{Val}
use Rattle.step_data.specs.declared.tip.Tip.{Tip}
use Rattle.step_data.specs.declared.breaks.Element.{Element}
use Rattle.step_data.specs.declared.event.Event.{Event}
use Rattle.step_data.specs.declared.outcome.ChooseKind.{ChooseKind}
use Rattle.step_data.specs.declared.outcome.ChooseKind.TheVariants.{Quiet, Timed}
use Rattle.step_data.specs.declared.outcome.SetKind.TheVariants.{Quiescent, Discontinuity}
use Rattle.step_data.specs.declared.outcome.Ran.TheVariants as rans
use Rattle.step_model.specs.System.{System, Digital, Landing}
use Rattle.lockstep_model.specs.RunStates.{RunState}
use Rattle.lockstep_model.specs.Works.{Work, Worked, Tried, Run, before, over, events_of_work}
use Rattle.lockstep_model.specs.Works as kinds
use Rattle.lockstep_model.specs.Crossing.{Bounds}
use Rattle.lockstep_model.specs.Lockstep as l
use Rattle.lockstep_model.specs.Lockstep.{PhaseStep, Following, phase, locate, goes_on, lockstep, frame_at}
use Rattle.lockstep_model.specs.Solutions.{IsReached, IsSolution}
use Rattle.point_laws.specs.Told.{Told, told_over, EachPoint}
use Rattle.point_laws.proofs.Telling.{named, all_named, point_told, point_holds}

-- ---- what the events of a system tell

-- the values of the digital side are those that were told
pub record Tells (thresholds : ℕ) (told : Told) (d : Digital) : Type 0 where
  pub signals : told.signals ≡ d.signals
  pub thresholds_are : told.thresholds ≡ d.kept
  pub count : length d.kept ≡ thresholds
  pub domain : told.timed ≡ d.timed

abbrev pub NoPoint : Told → ℕ → List ℤ → Type 0
NoPoint told t x = ⊥

-- some events with which the digital side comes to be this one: no points and no branches
pub record ComesTo (thresholds : ℕ) (told : Told) (events : List Event) (d : Digital) (timed : Bool) : Type 0 where
  pub tells : Tells thresholds (told_over told events) d
  pub branches : (told_over told events).branches ≡ told.branches
  pub timed_is : d.timed ≡ timed

-- where branches are chosen
pub record IsChosen (sys : System) (frame : List Val) (t : ℕ) (kind : ChooseKind) (x : List ℤ) : Type 0 where
  pub branches : List ℕ
  pub chosen : sys.choose frame t kind x ≡ Ok branches
  pub count : length branches ≡ sys.choices

-- branches are chosen before each step and each solution that is accepted, and start and cycles tell what they change
pub record Speaks (sys : System) (thresholds : ℕ) : Type 0 where
  pub steps : (frame : List Val) (tip : Tip) (s : ℕ) (landing : Landing) → sys.trial frame tip s ≡ Ok landing → IsChosen sys frame tip.t Timed tip.x
  pub quiet : (frame : List Val) (t : ℕ) (elements : List Element) (x y : List ℤ) → sys.settle frame t Quiescent elements x ≡ Ok y → IsChosen sys frame t Quiet x
  pub timed : (frame : List Val) (t : ℕ) (elements : List Element) (x y : List ℤ) → sys.settle frame t Discontinuity elements x ≡ Ok y → IsChosen sys frame t Timed x
  pub starts : (told : Told) → Tells thresholds told sys.unstarted → EachPoint NoPoint told (sys.start sys.initial).events
  pub started : (told : Told) (broke : Bool) → Tells thresholds told sys.unstarted → (sys.start sys.initial).ran ≡ rans.Done broke
      → ComesTo thresholds told (sys.start sys.initial).events (sys.start sys.initial).digital false
  pub cycles : (told : Told) (d : Digital) (t n : ℕ) (x : List ℤ) (to_time : Bool) → Tells thresholds told d → EachPoint NoPoint told (sys.cycle d t n x to_time).events
  pub cycled : (told : Told) (d : Digital) (t n : ℕ) (x : List ℤ) (to_time broke : Bool) → Tells thresholds told d → (sys.cycle d t n x to_time).ran ≡ rans.Done broke
      → ComesTo thresholds told (sys.cycle d t n x to_time).events (sys.cycle d t n x to_time).digital (d.timed || to_time)

-- ---- what is known of each point

-- the solution of the state, by the branches that were told
pub record IsSettled (sys : System) (thresholds : ℕ) (p : RunState) (told : Told) (t : ℕ) (x : List ℤ) : Type 0 where
  pub tells : Tells thresholds told p.digital
  pub timed_is : told.timed ≡ p.timed
  pub branches : List ℕ
  pub named_are : told.branches ≡ map Some branches
  pub chosen : sys.choose (frame_at sys p) p.time (l.solution_kind p.timed) p.point ≡ Ok branches
  pub solution : IsSolution sys p t x

-- the end of an accepted step from the tip, by the branches that were told
pub record IsStepped (sys : System) (thresholds : ℕ) (p : RunState) (told : Told) (t : ℕ) (x : List ℤ) : Type 0 where
  pub tells : Tells thresholds told p.digital
  pub timed_is : told.timed ≡ p.timed
  pub in_time : p.timed ≡ true
  pub branches : List ℕ
  pub named_are : told.branches ≡ map Some branches
  pub chosen : sys.choose (frame_at sys p) p.tip.t Timed p.tip.x ≡ Ok branches
  pub reached : IsReached sys p t x
  pub later : p.tip.t ≤ t

-- of each point of a work that begins in a state
abbrev pub IsGiven : System → ℕ → Work → RunState → Told → ℕ → List ℤ → Type 0
IsGiven sys n (Worked kinds.Start events renews s) p told t x = ⊥
IsGiven sys n (Worked kinds.Solve events renews s) p told t x = IsSettled sys n p told t x
IsGiven sys n (Worked kinds.Cycle events renews s) p told t x = ⊥
IsGiven sys n (Worked kinds.Side events renews s) p told t x = IsStepped sys n p told t x
IsGiven sys n (Worked kinds.Probe events renews s) p told t x = IsStepped sys n p told t x
IsGiven sys n (Tried tip frame until made crossing events) p told t x = IsStepped sys n p told t x

abbrev pub AreGiven : System → ℕ → Told → List Work → List RunState → Type 0
AreGiven sys n told [] [] = Unit {0}
AreGiven sys n told [] (p ∷ states) = ⊥
AreGiven sys n told (w ∷ works) [] = ⊥
AreGiven sys n told (w ∷ works) (p ∷ states) = EachPoint (IsGiven sys n w p) told (events_of_work w) × AreGiven sys n (told_over told (events_of_work w)) works states

abbrev pub Gives : System → ℕ → Told → Run → Type 0
Gives sys n told r = AreGiven sys n told r.works r.states

-- ---- what is known at each place

pub record Agrees (sys : System) (n : ℕ) (told : Told) (d : Digital) (timed : Bool) (branches : List ℕ) : Type 0 where
  pub tells : Tells n told d
  pub timed_is : d.timed ≡ timed
  pub branches_are : told.branches ≡ named sys.choices branches

-- a place at which a cycle is done
pub record IsPlaced (sys : System) (n : ℕ) (told : Told) (p : RunState) : Type 0 where
  pub agrees : Agrees sys n told p.digital p.timed p.branches
  pub tip : p.tip.t ≤ p.time
  pub within : p.time ≤ sys.options.stop

-- a place within a phase
pub record InPhase (sys : System) (n : ℕ) (told : Told) (p : RunState) : Type 0 where
  pub agrees : Agrees sys n told p.digital p.timed p.branches
  pub timed_is : p.timed ≡ true
  pub before : p.time ≤ l.until sys p
  pub tip : p.tip.t ≤ l.until sys p
  pub within : l.until sys p ≤ sys.options.stop

-- what follows from every place
abbrev pub Arrives : System → ℕ → (RunState → Run) → Type 0
Arrives sys n rest = (told : Told) (q : RunState) → IsPlaced sys n told q → Gives sys n told (rest q)

abbrev pub GoesOn : System → ℕ → (RunState → Run) → Type 0
GoesOn sys n rest = (told : Told) (q : RunState) → InPhase sys n told q → Gives sys n told (rest q)

-- bounds of a crossing that a step from the tip found
pub record IsBetween (sys : System) (p : RunState) (b : Bounds) : Type 0 where
  pub order : b.lo ≤ b.hi
  pub tip : p.tip.t ≤ b.lo
  pub within : b.hi ≤ sys.options.stop
  pub reached : IsReached sys p b.hi b.x

-- ---- the point of a step

pub chosen_branches : (sys : System) (frame : List Val) (t : ℕ) (kind : ChooseKind) (x : List ℤ) (olds : List ℕ) (c : IsChosen sys frame t kind x) → l.branches_or olds (sys.choose frame t kind x) ≡ c.branches
chosen_branches sys frame t kind x olds c = ap (l.branches_or olds) c.chosen

-- the state agrees with what was told behind a point, whose branches are chosen
pub agrees_behind : (sys : System) (n : ℕ) (told : Told) (d : Digital) (timed : Bool) (t k : ℕ) (x : List ℤ) (bs olds : List ℕ) → Agrees sys n told d timed olds → length bs ≡ sys.choices
    → Agrees sys n (told_over told (l.point_events t k x bs olds)) d timed bs
agrees_behind sys n told d timed t k x bs olds a count =
    let told_is : told_over told (l.point_events t k x bs olds) ≡ record told { branches = map Some bs } =
    point_told told t k x bs olds (a.branches_are ∙ ap (λ m. named m olds) (sym count)) in
    record {
      tells = record {
        signals = ap (λ (u : Told). u.signals) told_is ∙ a.tells.signals;
        thresholds_are = ap (λ (u : Told). u.thresholds) told_is ∙ a.tells.thresholds_are;
        count = a.tells.count;
        domain = ap (λ (u : Told). u.timed) told_is ∙ a.tells.domain;
      };
      timed_is = a.timed_is;
      branches_are = ap (λ (u : Told). u.branches) told_is ∙ (sym (all_named bs) ∙ ap (λ m. named m bs) count);
    }

-- a point with its branches, and what is known behind it
pub record Point (P : Told → ℕ → List ℤ → Type 0) (sys : System) (n : ℕ) (told : Told) (d : Digital) (timed : Bool) (bs : List ℕ) (events : List Event) : Type 0 where
  pub holds : EachPoint P told events
  pub agrees : Agrees sys n (told_over told events) d timed bs

pub step_point : (sys : System) (n : ℕ) (told : Told) (p : RunState) (t k : ℕ) (x : List ℤ) → Speaks sys n → Agrees sys n told p.digital p.timed p.branches → p.timed ≡ true → p.tip.t ≤ t → IsReached sys p t x
    → Point (IsStepped sys n p) sys n told p.digital p.timed (l.step_branches sys p) (l.point_events t k x (l.step_branches sys p) p.branches)
step_point sys n told p t k x speaks a timed later reached =
    let c : IsChosen sys (frame_at sys p) p.tip.t Timed p.tip.x = speaks.steps (frame_at sys p) p.tip (t - p.tip.t) reached.landing reached.step_is in
    let are : l.step_branches sys p ≡ c.branches = chosen_branches sys (frame_at sys p) p.tip.t Timed p.tip.x p.branches c in
    let count : length (l.step_branches sys p) ≡ sys.choices = ap (λ (bs : List ℕ). length bs) are ∙ c.count in
    record {
      holds = point_holds (IsStepped sys n p) told t k x (l.step_branches sys p) p.branches (a.branches_are ∙ ap (λ m. named m p.branches) (sym count))
          (record {
            tells = record { signals = a.tells.signals; thresholds_are = a.tells.thresholds_are; count = a.tells.count; domain = a.tells.domain };
            timed_is = a.tells.domain ∙ a.timed_is;
            in_time = timed;
            branches = l.step_branches sys p;
            named_are = refl;
            chosen = c.chosen ∙ ap (λ (bs : List ℕ). Ok bs) (sym are);
            reached = reached;
            later = later;
          });
      agrees = agrees_behind sys n told p.digital p.timed t k x (l.step_branches sys p) p.branches a count;
    }
