-- Laws of the search of a crossing: its answer lies between its bounds, and the run crosses there.
use Rattle.std.specs.Prelude.{◌≡◌, ℕ, zero, suc, ◌+◌, ◌-◌, ◌≤◌, ◌<◌, Bool, true, false, cond, ℤ, List, [], ◌∷◌, length, replicate, Result, Ok, Err, refl}
use Rattle.std.proofs.Common.{arith, ap}
use Rattle.std.proofs.lemmas.Bool.Decides.{leb_tells}
use Rattle.step_data.specs.declared.breaks.ThresholdState.{ThresholdState}
use Rattle.step_data.specs.declared.outcome.Cause.{Cause}
use Rattle.step_model.specs.System.{System, Landing}
use Rattle.lockstep_model.specs.Works.{Run, Work, Worked, Tried, before, followed_by, probes_at}
use Rattle.lockstep_model.specs.Works as kinds
use Rattle.lockstep_model.specs.Crossing.{Bounds, is_near, differs, narrowed, middle, lower_half, upper_half, located, located_by, location}
use Rattle.lockstep_model.specs.Lockstep as l
use Rattle.lockstep_model.specs.RunStates.{RunState}
use Rattle.lockstep_model.specs.Lockstep.{locate}

-- the new bounds lie within the old ones, in order
pub record LiesWithin (old new : Bounds) : Type 0 where
  pub lower : old.lo ≤ new.lo
  pub order : new.lo < new.hi
  pub upper : new.hi ≤ old.hi

apart : (xres : ℕ) (b : Bounds) → is_near xres b ≡ false → xres < b.hi - b.lo
apart xres b far = grind (arith, leb_tells)

halves-within : (xres : ℕ) (b : Bounds) (x : List ℤ) → 1 ≤ xres → is_near xres b ≡ false → LiesWithin b (lower_half b x) × LiesWithin b (upper_half b)
halves-within xres b x fine far =
    let gap = apart xres b far in
    (record { lower = omega arith; order = omega arith; upper = omega arith }, record { lower = omega arith; order = omega arith; upper = omega arith })

pub narrowed-within : (xres : ℕ) (thresholds : List ThresholdState) (b : Bounds) (o : Result Landing Cause) → 1 ≤ xres → is_near xres b ≡ false → LiesWithin b (narrowed thresholds b o)
narrowed-within xres thresholds b (Err c) fine far = (halves-within xres b b.x fine far).1
narrowed-within xres thresholds b (Ok s) fine far =
    elim (differs s.x thresholds) as (λ t. LiesWithin b (cond t (lower_half b s.x) (upper_half b))) [
      | true ↦ (halves-within xres b s.x fine far).0
      | false ↦ (halves-within xres b s.x fine far).1
    ]

within-trans : (a b c : Bounds) → LiesWithin a b → LiesWithin b c → LiesWithin a c
within-trans a b c h k =
    let al = h.lower in
    let bl = k.lower in
    let au = h.upper in
    let bu = k.upper in
    record { lower = omega arith; order = k.order; upper = omega arith }

-- the answer is later than the lower bound and not past the upper one
pub located_within : (xres : ℕ) (step : ℕ → Result Landing Cause) (thresholds : List ThresholdState) (n : ℕ) (b : Bounds) → 1 ≤ xres → b.lo < b.hi → LiesWithin b (located xres step thresholds n b)
unfolding located
located_within xres step thresholds zero b fine order = record { lower = omega arith; order = order; upper = omega arith }
located_within xres step thresholds (suc n) b fine order =
    elim (is_near xres b) as
    (λ t. is_near xres b ≡ t → LiesWithin b (located_by t (λ c. located xres step thresholds n (narrowed thresholds c (step (middle c)))) b)) [
      | true ↦ λ near. record { lower = omega arith; order = order; upper = omega arith }
      | false ↦
          λ far.
          let half = narrowed-within xres thresholds b (step (middle b)) fine far in
          within-trans b (narrowed thresholds b (step (middle b))) (located xres step thresholds n (narrowed thresholds b (step (middle b)))) half
          (located_within xres step thresholds n (narrowed thresholds b (step (middle b))) fine half.order)
    ] refl

-- the step from a place's tip to a time
abbrev pub step_to : System → RunState → ℕ → Result Landing Cause
step_to sys p t = sys.trial (l.frame_at sys p) p.tip (t - p.tip.t)

-- the bounds that a place's search ends with, within so many tries
abbrev pub search : System → RunState → ℕ → Bounds → Bounds
search sys p n b = located sys.options.xres (step_to sys p) (l.thresholds_at sys p) n b

-- works that are probes
abbrev pub IsProbe : Work → Type 0
IsProbe (Worked kind events renews standing) = probes_at kind ≡ 1
IsProbe (Tried tip frame until made crossing events) = ⊥

abbrev pub AreProbes : List Work → Type 0
AreProbes [] = Unit {0}
AreProbes (w ∷ works) = IsProbe w × AreProbes works

-- a run that makes probes from a place, each of one try, and then crosses at these bounds with the tries that are left
pub record CrossesAt (sys : System) (cross : ℕ → RunState → Run) (p : RunState) (b : Bounds) (n : ℕ) (r : Run) : Type 0 where
  pub probes : List Work
  pub tries : ℕ
  pub are_probes : AreProbes probes
  pub tries_are : length probes + tries ≡ n
  pub run_is : r ≡ followed_by probes (replicate (length probes) p) (cross tries (l.stepped_to sys p b.hi b.x))

-- a run that makes a probe for each try, and then has too many
pub record GivesUp (p : RunState) (n : ℕ) (r : Run) : Type 0 where
  pub probes : List Work
  pub are_probes : AreProbes probes
  pub tries_are : length probes ≡ n
  pub run_is : r ≡ followed_by probes (replicate (length probes) p) (l.too_many_tries p)

abbrev probe : System → RunState → Bounds → Work
probe sys p b = Worked kinds.Probe (l.bound_events sys p (l.probed sys p b)) false (l.standing sys p)

crosses-before : (sys : System) (cross : ℕ → RunState → Run) (p : RunState) (b c : Bounds) (n : ℕ) (r : Run) → CrossesAt sys cross p b n r → CrossesAt sys cross p b (suc n) (before p (probe sys p c) r)
crosses-before sys cross p b c n r h =
    record {
      probes = probe sys p c ∷ h.probes;
      tries = h.tries;
      are_probes = (refl, h.are_probes);
      tries_are = let all = h.tries_are in omega arith;
      run_is = ap (before p (probe sys p c)) h.run_is;
    }

gives-before : (sys : System) (p : RunState) (c : Bounds) (n : ℕ) (r : Run) → GivesUp p n r → GivesUp p (suc n) (before p (probe sys p c) r)
gives-before sys p c n r h =
    record {
      probes = probe sys p c ∷ h.probes;
      are_probes = (refl, h.are_probes);
      tries_are = let all = h.tries_are in omega arith;
      run_is = ap (before p (probe sys p c)) h.run_is;
    }

-- the answer of the search behind a probe
abbrev searched_on : System → RunState → ℕ → Bounds → Bounds
searched_on sys p n c = search sys p n (narrowed (l.thresholds_at sys p) c (step_to sys p (middle c)))

-- where the tries suffice, the run crosses at the answer of the search
pub locate_crosses : (sys : System) (cross : ℕ → RunState → Run) (n : ℕ) (p : RunState) (b : Bounds) → is_near sys.options.xres (search sys p n b) ≡ true → CrossesAt sys cross p (search sys p n b) n (locate sys cross n p b)
unfolding locate located
locate_crosses sys cross zero p b =
    elim (is_near sys.options.xres b) as
    (λ t. t ≡ true → CrossesAt sys cross p b zero (l.searched t sys (cross zero) (λ b'. l.too_many_tries p) p b)) [
      | true ↦ λ e. record { probes = []; tries = zero; are_probes = tt; tries_are = refl; run_is = refl }
      | false ↦ λ e. cc
    ]
locate_crosses sys cross (suc n) p b =
    elim (is_near sys.options.xres b) as
    (λ t. is_near sys.options.xres (located_by t (searched_on sys p n) b) ≡ true → CrossesAt sys cross p (located_by t (searched_on sys p n) b) (suc n) (l.searched t sys (cross (suc n)) (l.probe_run sys p (locate sys cross n p)) p b)) [
      | true ↦ λ e. record { probes = []; tries = suc n; are_probes = tt; tries_are = omega arith; run_is = refl }
      | false ↦
          λ e.
          crosses-before sys cross p (search sys p n (l.probed sys p b)) b n (locate sys cross n p (l.probed sys p b))
          (locate_crosses sys cross n p (l.probed sys p b) e)
    ]

-- and where they don't, it ends
pub locate_gives_up : (sys : System) (cross : ℕ → RunState → Run) (n : ℕ) (p : RunState) (b : Bounds) → is_near sys.options.xres (search sys p n b) ≡ false → GivesUp p n (locate sys cross n p b)
unfolding locate located
locate_gives_up sys cross zero p b =
    elim (is_near sys.options.xres b) as
    (λ t. t ≡ false → GivesUp p zero (l.searched t sys (cross zero) (λ b'. l.too_many_tries p) p b)) [
      | true ↦ λ e. cc
      | false ↦ λ e. record { probes = []; are_probes = tt; tries_are = refl; run_is = refl }
    ]
locate_gives_up sys cross (suc n) p b =
    elim (is_near sys.options.xres b) as
    (λ t. is_near sys.options.xres b ≡ t → is_near sys.options.xres (located_by t (searched_on sys p n) b) ≡ false → GivesUp p (suc n) (l.searched t sys (cross (suc n)) (l.probe_run sys p (locate sys cross n p)) p b)) [
      | true ↦ λ near far. absurd (both near far)
      | false ↦
          λ same e.
          gives-before sys p b n (locate sys cross n p (l.probed sys p b)) (locate_gives_up sys cross n p (l.probed sys p b) e)
    ] refl
  where
    both : {t : Bool} → t ≡ true → t ≡ false → ⊥
    both e f = cc

-- each turn makes the distance less
narrowed-less : (xres : ℕ) (thresholds : List ThresholdState) (b : Bounds) (o : Result Landing Cause) (n : ℕ) → 1 ≤ xres → is_near xres b ≡ false → b.hi - b.lo ≤ suc n → (narrowed thresholds b o).hi - (narrowed thresholds b o).lo ≤ n
narrowed-less xres thresholds b (Err c) n fine far small = let gap = apart xres b far in omega arith
narrowed-less xres thresholds b (Ok s) n fine far small =
    elim (differs s.x thresholds) as
    (λ t. (cond t (lower_half b s.x) (upper_half b)).hi - (cond t (lower_half b s.x) (upper_half b)).lo ≤ n) [
      | true ↦ let gap = apart xres b far in omega arith
      | false ↦ let gap = apart xres b far in omega arith
    ]

near-at-once : (xres : ℕ) (b : Bounds) → b.hi - b.lo ≤ 0 → is_near xres b ≡ true
near-at-once xres b small = grind (arith, leb_tells)

-- as many turns as the distance are enough
pub located_near : (xres : ℕ) (step : ℕ → Result Landing Cause) (thresholds : List ThresholdState) → 1 ≤ xres → (n : ℕ) (b : Bounds) → b.hi - b.lo ≤ n → is_near xres (located xres step thresholds n b) ≡ true
unfolding located
located_near xres step thresholds fine zero b small = near-at-once xres b small
located_near xres step thresholds fine (suc n) b small =
    elim (is_near xres b) as
    (λ t. is_near xres b ≡ t → is_near xres (located_by t (λ c. located xres step thresholds n (narrowed thresholds c (step (middle c)))) b) ≡ true) [
      | true ↦ λ near. near
      | false ↦
          λ far.
          located_near xres step thresholds fine n (narrowed thresholds b (step (middle b)))
          (narrowed-less xres thresholds b (step (middle b)) n fine far small)
    ] refl

pub location_near : (xres : ℕ) (step : ℕ → Result Landing Cause) (thresholds : List ThresholdState) (b : Bounds) → 1 ≤ xres → is_near xres (location xres step thresholds b) ≡ true
location_near xres step thresholds b fine = located_near xres step thresholds fine (b.hi - b.lo) b (omega arith)

-- a search that ends with bounds that are near ends where each longer one does
pub located_same : (xres : ℕ) (step : ℕ → Result Landing Cause) (thresholds : List ThresholdState) → 1 ≤ xres → (n m : ℕ) (b : Bounds) → b.hi - b.lo ≤ m → is_near xres (located xres step thresholds n b) ≡ true → located xres step thresholds n b ≡ located xres step thresholds m b
unfolding located
located_same xres step thresholds fine zero zero b small near = refl
located_same xres step thresholds fine zero (suc m) b small near = rw near refl
located_same xres step thresholds fine (suc n) zero b small near = rw (near-at-once xres b small) refl
located_same xres step thresholds fine (suc n) (suc m) b small near =
    elim (is_near xres b) as
    (λ t. is_near xres b ≡ t → is_near xres (located_by t (λ c. located xres step thresholds n (narrowed thresholds c (step (middle c)))) b) ≡ true → located_by t (λ c. located xres step thresholds n (narrowed thresholds c (step (middle c)))) b ≡ located_by t (λ c. located xres step thresholds m (narrowed thresholds c (step (middle c)))) b) [
      | true ↦ λ e h. refl
      | false ↦
          λ far h.
          located_same xres step thresholds fine n m (narrowed thresholds b (step (middle b)))
          (narrowed-less xres thresholds b (step (middle b)) m fine far small) h
    ] refl near

pub located_is : (xres : ℕ) (step : ℕ → Result Landing Cause) (thresholds : List ThresholdState) (n : ℕ) (b : Bounds) → 1 ≤ xres → is_near xres (located xres step thresholds n b) ≡ true → located xres step thresholds n b ≡ location xres step thresholds b
located_is xres step thresholds n b fine near =
    located_same xres step thresholds fine n (b.hi - b.lo) b (omega arith) near
