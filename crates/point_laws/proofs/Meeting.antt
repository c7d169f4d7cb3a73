-- Each point of a run of a design meets its equations.
use Rattle.std.proofs.Common.{◌≡◌, ◌≤◌, refl, sym, ap, ◌∙◌, subst, ℕ, suc, ◌+◌, ◌-◌, Bool, true, false, List, [], ◌∷◌, ◌++◌, length, map, append_assoc, Result, Ok, Err, arith}
use Rattle.std.specs.Prelude.{ℤ, unsigned_abs, if◌then◌else◌, Some, IsOkAnd}
use Rattle.std.specs.List.{All, slice_index_or}
use Rattle.std.proofs.lemmas.List.{length-map}
use Rattle.std.proofs.lemmas.List.Elements.{All-nil, All-cons, All-head, All-tail}
use Rattle.fix_core.specs.Passes.{and_then, each}
use Rattle.ams_value.specs.declared.val.Val.{Val}
use Rattle.ams_value.specs.declared.val.Val.TheVariants as val
use Rattle.flat_expr.specs.declared.expr.SignalName.{SignalName}
use Rattle.flat_expr.specs.declared.expr.SignalName.TheVariants as name
use Rattle.flat_design.specs.declared.objects.Threshold.{Threshold}
use Rattle.flat_design.specs.declared.objects.Objects.{Objects}
use Rattle.flat_design.specs.Reads.{frame_of}
use Rattle.step_data.specs.declared.breaks.Element.{Element}
use Rattle.step_data.specs.declared.event.Event.{Event}
use Rattle.step_data.specs.declared.event.Event.TheVariants as event
use Rattle.step_data.specs.declared.outcome.Cause.{Cause}
use Rattle.step_data.specs.declared.outcome.Options.{Options}
use Rattle.step_data.specs.declared.outcome.ChooseKind.{ChooseKind}
use Rattle.step_data.specs.declared.outcome.ChooseKind.TheVariants.{Quiet, Timed}
use Rattle.step_data.specs.declared.outcome.SetKind.TheVariants.{Quiescent, Discontinuity}
use Rattle.step_model.specs.System.{Digital}
use Rattle.lockstep_model.specs.RunStates.{RunState}
use Rattle.lockstep_model.specs.Works.{Work, Worked, Tried, events_of, events_of_work}
use Rattle.lockstep_model.specs.Works as kinds
use Rattle.lockstep_model.specs.Lockstep as l
use Rattle.design_meaning.specs.declared.fault.EvalFault.{EvalFault}
use Rattle.design_meaning.specs.Equations.{Row, Augmentation, residual_of, common_rows, rows_of, augmentations_from}
use Rattle.design_meaning.specs.Reading.{quiescent_domain, time_domain, readings_of}
use Rattle.design_meaning.specs.Newton.{of_evaluation}
use Rattle.design_meaning.specs.Steps.{choose, branch_chosen, selections_of, kind_of_set, problem}
use Rattle.design_meaning.specs.Solutions.{Solves, LandsWithin, SettlesWithin, SolutionsAreWithinTolerance}
use Rattle.cycle_meaning.specs.Cycles.{value_in, frame, first_digital}
use Rattle.system_model.specs.System.{system_of}
use Rattle.system_model.specs.Trace.{run_of, trace}
use Rattle.point_laws.specs.Told.{Told, told_over, EachPoint}
use Rattle.point_laws.specs.Points.{first_told, told_value, told_frame, domain_kind, IsMet, PointMeets, EventsMeet, PointsMeet, TextMeets, IsToldAt, set_in, elements_in, IsSolvedIn, IsSteppedIn, WorkMeets, WorksMeet, RunMeets}
use Rattle.point_laws.proofs.Telling.{each_append, each_at, each_map, none_named}
use Rattle.point_laws.proofs.Giving.{Tells, IsChosen, Speaks, IsSettled, IsStepped, IsGiven, AreGiven}
use Rattle.point_laws.proofs.Cycles.{cycle_points, cycle_comes, start_points, start_comes}
use Rattle.point_laws.proofs.Running.{lockstep_gives}

-- ---- a branch for each choice

-- what was answered on the way to an answer
parts : {A B E : Type 0} (f : A → Result B E) (r : Result A E) (b : B) → and_then f r ≡ Ok b → (a : A) × (r ≡ Ok a) × (f a ≡ Ok b)
parts f (Ok a) b e = (a, refl, e)
parts f (Err x) b e = cc

each_count : {A B : Type 0} (f : A → Result B EvalFault) (xs : List A) (ys : List B) → each f xs ≡ Ok ys → length ys ≡ length xs
unfolding each
each_count f [] ys e = let is : [] ≡ ys = cc in ap length (sym is)
each_count f (x ∷ xs) ys e =
    let first = parts (λ b. and_then (λ bs. Ok (b ∷ bs)) (each f xs)) (f x) ys e in
    let others = parts (λ bs. Ok (first.0 ∷ bs)) (each f xs) ys first.2 in
    let whole : first.0 ∷ others.0 ≡ ys = cc in
    ap length (sym whole) ∙ ap suc (each_count f xs others.0 others.1)

evaluated : {A : Type 0} (r : Result A EvalFault) (a : A) → of_evaluation r ≡ Ok a → r ≡ Ok a
evaluated (Ok b) a e = let same : b ≡ a = cc in ap Ok same
evaluated (Err x) a e = cc

choices_count : (objects : Objects) (values : List Val) (t : ℕ) (kind : ChooseKind) (x : List ℤ) (branches : List ℕ) → choose objects values t kind x ≡ Ok branches → length branches ≡ length (selections_of objects.equations)
unfolding choose
choices_count objects values t kind x branches e =
    each_count (branch_chosen (readings_of objects values kind t x)) (selections_of objects.equations) branches (evaluated _ branches e)

-- ---- the frame of a state is the one that was told

map_same : {A B : Type 0} (f g : A → B) → ((a : A) → f a ≡ g a) → (xs : List A) → map f xs ≡ map g xs
map_same f g same [] = refl
map_same f g same (x ∷ xs) = ap (λ y. y ∷ map f xs) (same x) ∙ ap (λ ys. g x ∷ ys) (map_same f g same xs)

value_same : (thresholds : ℕ) (told : Told) (d : Digital) → Tells thresholds told d → (s : SignalName) → told_value told s ≡ value_in d s
value_same thresholds told d tells (name.Signal i) = ap (λ (values : List Val). slice_index_or values i (val.Bool false)) tells.signals
value_same thresholds told d tells (name.Threshold k) = ap (λ (kept : List Bool). val.Bool (slice_index_or kept k false)) tells.thresholds_are
value_same thresholds told d tells name.Domain = ap (λ (b : Bool). if b then time_domain else quiescent_domain) tells.domain

frame_same : (objects : Objects) (thresholds : ℕ) (told : Told) (d : Digital) → Tells thresholds told d → told_frame objects told ≡ frame objects d
frame_same objects thresholds told d tells = map_same (told_value told) (value_in d) (value_same thresholds told d tells) (frame_of objects)

-- ---- what every set has

all_front : {A : Type 0} (P : A → Type 0) (xs ys : List A) → All P (xs ++ ys) → All P xs
all_front P [] ys h = All-nil P
all_front P (x ∷ xs) ys h = All-cons P x xs (All-head P x (xs ++ ys) h) (all_front P xs ys (All-tail P x (xs ++ ys) h))

-- the readings of a problem at a point are those that were told
front_met : (objects : Objects) (options : Options) (told : Told) (t : ℕ) (x : List ℤ) (values : List Val) (kind : ChooseKind) (set : Augmentation) (elements : List Element) (branches : List ℕ)
    → told_frame objects told ≡ values → domain_kind told.timed ≡ kind → Solves (problem objects options values kind t set elements branches) x → All (IsMet objects options told t x) (common_rows objects branches)
unfolding rows_of
front_met objects options told t x values kind set elements branches same_frame same_kind solves =
    let reads : List Val → ChooseKind → Row → Type 0 = λ vs k row. IsOkAnd (residual_of row (readings_of objects vs k t x)) (λ z. unsigned_abs z ≤ options.tol) in
    let front : All (reads values kind) (common_rows objects branches) = all_front (reads values kind) (common_rows objects branches) (augmentations_from set elements 0 objects.dots) solves in
    subst (λ (k : ChooseKind). All (reads (told_frame objects told) k) (common_rows objects branches)) (sym same_kind)
    (subst (λ (vs : List Val). All (reads vs kind) (common_rows objects branches)) (sym same_frame) front)

-- ---- the system of a design

module _ (within : SolutionsAreWithinTolerance) (objects : Objects) (options : Options) where
  chosen_before : (values : List Val) (t : ℕ) (kind : ChooseKind) (x : List ℤ) (branches : List ℕ) → choose objects values t kind x ≡ Ok branches → IsChosen (system_of objects options) values t kind x
  chosen_before values t kind x branches e = record { branches = branches; chosen = e; count = choices_count objects values t kind x branches e }

  speaks : Speaks (system_of objects options) (length objects.thresholds)
  speaks =
      record {
        steps = λ values tip s landing e. let found = within.stepped objects options values tip s landing e in chosen_before values tip.t Timed tip.x found.0 found.1.chosen;
        quiet = λ values t elements x y e. let found = within.settled objects options values t Quiescent elements x y e in chosen_before values t Quiet x found.0 found.1.chosen;
        timed = λ values t elements x y e. let found = within.settled objects options values t Discontinuity elements x y e in chosen_before values t Timed x found.0 found.1.chosen;
        starts = λ told tells. start_points objects told _;
        started = λ told broke tells e. start_comes objects told _ broke tells e;
        cycles = λ told d t n x to_time tells. cycle_points objects told d t n x to_time;
        cycled = λ told d t n x to_time broke tells e. cycle_comes objects told d t n x to_time broke tells e;
      }

  -- ---- a point of a solution and of a step

  abbrev passed : {A : Type 0} → A → Result A Cause
  passed a = Ok a

  ok_is : {A : Type 0} (a b : A) → passed a ≡ passed b → a ≡ b
  ok_is a b e = cc

  told_at : (p : RunState) (told : Told) (branches : List ℕ) → Tells (length objects.thresholds) told p.digital → told.branches ≡ map Some branches → told.timed ≡ p.timed → IsToldAt objects p told branches
  told_at p told branches tells named timed = record { named = named; frame_is = frame_same objects (length objects.thresholds) told p.digital tells; domain_is = timed }

  settles_by : (timed : Bool) (p : RunState) (x : List ℤ) (branches : List ℕ) → l.solution_by timed (system_of objects options) p ≡ Ok x
      → choose objects (frame objects p.digital) p.time (l.solution_kind timed) p.point ≡ Ok branches
      → SettlesWithin objects options (frame objects p.digital) p.time (set_in timed) (elements_in timed p) p.point branches x
  settles_by false p x branches e chosen =
      let found = within.settled objects options (frame objects p.digital) p.time Quiescent p.gathered p.point x e in
      let same : found.0 ≡ branches = ok_is found.0 branches (sym found.1.chosen ∙ chosen) in
      subst (λ (bs : List ℕ). SettlesWithin objects options (frame objects p.digital) p.time Quiescent p.gathered p.point bs x) same found.1
  settles_by true p x branches e chosen =
      let found = within.settled objects options (frame objects p.digital) p.time Discontinuity p.digital.broken p.point x e in
      let same : found.0 ≡ branches = ok_is found.0 branches (sym found.1.chosen ∙ chosen) in
      subst (λ (bs : List ℕ). SettlesWithin objects options (frame objects p.digital) p.time Discontinuity p.digital.broken p.point bs x) same found.1

  solved_in : (p : RunState) (told : Told) (t : ℕ) (x : List ℤ) → IsSettled (system_of objects options) (length objects.thresholds) p told t x → IsSolvedIn objects options p told t x
  solved_in p told t x h =
      record {
        branches = h.branches;
        told_is = told_at p told h.branches h.tells h.named_are h.timed_is;
        time_is = h.solution.time_is;
        settles = subst (λ (u : ℕ). SettlesWithin objects options (frame objects p.digital) u (set_in p.timed) (elements_in p.timed p) p.point h.branches x) (sym h.solution.time_is)
            (settles_by p.timed p x h.branches h.solution.solution_is h.chosen);
      }

  stepped_in : (p : RunState) (told : Told) (t : ℕ) (x : List ℤ) → IsStepped (system_of objects options) (length objects.thresholds) p told t x → IsSteppedIn objects options p told t x
  stepped_in p told t x h =
      let found = within.stepped objects options (frame objects p.digital) p.tip (t - p.tip.t) h.reached.landing h.reached.step_is in
      let same : found.0 ≡ h.branches = ok_is found.0 h.branches (sym found.1.chosen ∙ h.chosen) in
      record {
        branches = h.branches;
        told_is = told_at p told h.branches h.tells h.named_are h.timed_is;
        timed_is = h.in_time;
        later = h.later;
        landing = h.reached.landing;
        point_is = h.reached.point_is;
        lands = subst (λ (bs : List ℕ). LandsWithin objects options (frame objects p.digital) p.tip (t - p.tip.t) bs h.reached.landing) same found.1;
      }

  kinds_agree : (timed : Bool) → domain_kind timed ≡ kind_of_set (set_in timed)
  kinds_agree false = refl
  kinds_agree true = refl

  solved_meets : (p : RunState) (told : Told) (t : ℕ) (x : List ℤ) → IsSolvedIn objects options p told t x → PointMeets objects options told t x
  solved_meets p told t x h =
      record {
        branches = h.branches;
        named = h.told_is.named;
        meets = front_met objects options told t x (frame objects p.digital) (kind_of_set (set_in p.timed)) _ _ h.branches h.told_is.frame_is (ap domain_kind h.told_is.domain_is ∙ kinds_agree p.timed) h.settles.solved;
      }

  forward : (a b : ℕ) → a ≤ b → a + (b - a) ≡ b
  forward a b h = omega arith

  stepped_meets : (p : RunState) (told : Told) (t : ℕ) (x : List ℤ) → IsSteppedIn objects options p told t x → PointMeets objects options told t x
  stepped_meets p told t x h =
      record {
        branches = h.branches;
        named = h.told_is.named;
        meets = subst (λ (y : List ℤ). All (IsMet objects options told t y) (common_rows objects h.branches)) h.point_is
            (subst (λ (u : ℕ). All (IsMet objects options told u h.landing.x) (common_rows objects h.branches)) (forward p.tip.t t h.later)
            (front_met objects options told (p.tip.t + (t - p.tip.t)) h.landing.x (frame objects p.digital) Timed _ _ h.branches h.told_is.frame_is (ap domain_kind (h.told_is.domain_is ∙ h.timed_is)) h.lands.solved));
      }

  -- ---- each work, and each point

  work_meets : (w : Work) (p : RunState) (told : Told) (t : ℕ) (x : List ℤ) → IsGiven (system_of objects options) (length objects.thresholds) w p told t x → WorkMeets objects options w p told t x
  work_meets (Worked kinds.Start events renews s) p told t x h = h
  work_meets (Worked kinds.Solve events renews s) p told t x h = solved_in p told t x h
  work_meets (Worked kinds.Cycle events renews s) p told t x h = h
  work_meets (Worked kinds.Side events renews s) p told t x h = stepped_in p told t x h
  work_meets (Worked kinds.Probe events renews s) p told t x h = stepped_in p told t x h
  work_meets (Tried tip values until made crossing events) p told t x h = stepped_in p told t x h

  point_meets : (w : Work) (p : RunState) (told : Told) (t : ℕ) (x : List ℤ) → WorkMeets objects options w p told t x → PointMeets objects options told t x
  point_meets (Worked kinds.Start events renews s) p told t x h = absurd h
  point_meets (Worked kinds.Solve events renews s) p told t x h = solved_meets p told t x h
  point_meets (Worked kinds.Cycle events renews s) p told t x h = absurd h
  point_meets (Worked kinds.Side events renews s) p told t x h = stepped_meets p told t x h
  point_meets (Worked kinds.Probe events renews s) p told t x h = stepped_meets p told t x h
  point_meets (Tried tip values until made crossing events) p told t x h = stepped_meets p told t x h

  works_meet : (told : Told) (works : List Work) (states : List RunState) → AreGiven (system_of objects options) (length objects.thresholds) told works states → WorksMeet objects options told works states
  works_meet told [] [] h = tt
  works_meet told [] (p ∷ states) h = absurd h
  works_meet told (w ∷ works) [] h = absurd h
  works_meet told (w ∷ works) (p ∷ states) h = (
    each_map (IsGiven (system_of objects options) (length objects.thresholds) w p) (WorkMeets objects options w p) (work_meets w p) told (events_of_work w) h.0,
    works_meet (told_over told (events_of_work w)) works states h.1,
  )

  points_of : (told : Told) (works : List Work) (states : List RunState) → WorksMeet objects options told works states → EachPoint (PointMeets objects options) told (events_of works)
  points_of told [] [] h = tt
  points_of told [] (p ∷ states) h = absurd h
  points_of told (w ∷ works) [] h = absurd h
  points_of told (w ∷ works) (p ∷ states) h =
      each_append (PointMeets objects options) told (events_of_work w) (events_of works)
      (each_map (WorkMeets objects options w p) (PointMeets objects options) (point_meets w p) told (events_of_work w) h.0)
      (points_of (told_over told (events_of_work w)) works states h.1)

  first_tells : Tells (length objects.thresholds) (first_told objects) (first_digital objects)
  first_tells = record { signals = refl; thresholds_are = refl; count = length-map objects.thresholds (λ (k : Threshold). false); domain = refl }

  pub run_meets : RunMeets objects options
  run_meets =
      works_meet (first_told objects) _ _
      (lockstep_gives (system_of objects options) (length objects.thresholds) speaks (first_told objects) first_tells (sym (none_named (length (selections_of objects.equations)))))

  pub points_meet : PointsMeet objects options
  points_meet front behind t n x e =
      each_at (PointMeets objects options) (first_told objects) front behind t n x
      (subst (λ (events : List Event). EachPoint (PointMeets objects options) (first_told objects) events) e (points_of (first_told objects) _ _ run_meets))

  pub texts_meet : (top : List ℕ) → TextMeets objects top options (trace objects top options)
  texts_meet top = record { events = events_of (run_of objects options).works; last = (run_of objects options).end; text_is = refl; meets = points_meet }

pub fronts_meet : (objects : Objects) (options : Options) (some more : List Event) → EventsMeet objects options (some ++ more) → EventsMeet objects options some
fronts_meet objects options some more h front behind t n x e =
    h front (behind ++ more) t n x (ap (λ (events : List Event). events ++ more) e ∙ append_assoc front (event.Solved t n x ∷ behind) more)
