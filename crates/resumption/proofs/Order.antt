-- The processes are looked at in order.
use Rattle.std.proofs.Common.{◌≡◌, refl, ap, sym, ◌∙◌, subst, ℕ, zero, suc, ◌+◌, ◌<◌, Bool, false, List, [], ◌∷◌, length, map, Option, Some, None, Result, Ok, Err, get_or, arith}
use Rattle.std.specs.Prelude.{option_map}
use Rattle.std.specs.List.{slice_get}
use Rattle.std.proofs.lemmas.Option.{slice_get-map}
use Rattle.flat_design.specs.declared.objects.WaitPlace.{WaitPlace}
use Rattle.flat_design.specs.declared.objects.Process.{Process}
use Rattle.step_data.specs.declared.outcome.Refusal.{Refusal}
use Rattle.step_model.specs.System.{ProcessState}
use Rattle.cycle_meaning.specs.World.{World, Context}
use Rattle.cycle_meaning.specs.Cycles.{Waiting, waiting_at, waiting_for, waiting_of, is_met, joined, local_of, resumes}
use Rattle.resumption.specs.Sleeps.{Sleep, sleep_of, sleeps_of, waits_of, waiting_or_none, met_at, met, all_met}
use Rattle.resumption.specs.Waits.{no_sleep}

-- ---- what is kept says the same as the states

place_is : (p : Process) (o : Option WaitPlace) → waiting_or_none (option_map (λ (w : WaitPlace). waiting_at w.path p.statements) o) ≡ waiting_for p o
place_is p None = refl
place_is p (Some w) = refl

waiting_is : (p : Process) (s : ProcessState) → waiting_or_none (slice_get (waits_of p) s.wait) ≡ waiting_of p s
waiting_is p s = ap waiting_or_none (slice_get-map (λ (w : WaitPlace). waiting_at w.path p.statements) p.waits s.wait) ∙ place_is p (slice_get p.waits s.wait)

met_is : (here : Context) (w : World) (p : Process) (s : ProcessState) → met here w (waits_of p) (sleep_of p s) ≡ is_met here w p s
met_is here w p s = ap (λ (q : Waiting). met_at here (local_of w p s) s.timeout q) (waiting_is p s)

all_are_resumes : (at : ℕ → Context) (w : World) (k : ℕ) (ps : List Process) (states : List ProcessState) → all_met at w k (map waits_of ps) (sleeps_of ps states) ≡ resumes at w k ps states
unfolding resumes
all_are_resumes at w k [] states = refl
all_are_resumes at w k (p ∷ ps) [] = refl
all_are_resumes at w k (p ∷ ps) (s ∷ states) =
    ap (λ (m : Result Bool Refusal). joined m (all_met at w (k + 1) (map waits_of ps) (sleeps_of ps states))) (met_is (at k) w p s)
    ∙ ap (joined (is_met (at k) w p s)) (all_are_resumes at w (k + 1) ps states)

pub resumes_so : (at : ℕ → Context) (w : World) (ps : List Process) (states : List ProcessState) (rows : List (List Waiting)) (sleeps : List Sleep) (a : Result (List Bool) Refusal)
    → rows ≡ map waits_of ps → sleeps ≡ sleeps_of ps states → a ≡ all_met at w 0 rows sleeps → a ≡ resumes at w 0 ps states
resumes_so at w ps states rows sleeps a waits kept found =
    found ∙ (ap (λ (r : List (List Waiting)). all_met at w 0 r sleeps) waits ∙ (ap (λ (z : List Sleep). all_met at w 0 (map waits_of ps) z) kept ∙ all_are_resumes at w 0 ps states))

-- ---- one after the other

moved : (k j : ℕ) → (k + 1) + j ≡ k + suc j
moved k j = omega arith

here : (k : ℕ) → k + 0 ≡ k
here k = omega arith

abbrev met_in : (ℕ → Context) → World → ℕ → List (List Waiting) → List Sleep → ℕ → Result Bool Refusal
met_in at w k rows sleeps j = met (at (k + j)) w (get_or rows j []) (get_or sleeps j no_sleep)

first_of : (at : ℕ → Context) (w : World) (k : ℕ) (row : List Waiting) (z : Sleep) (m : Result Bool Refusal) → met (at (k + 0)) w row z ≡ m → met (at k) w row z ≡ m
first_of at w k row z m h = subst (λ i. met (at i) w row z ≡ m) (here k) h

later_of : (at : ℕ → Context) (w : World) (k j : ℕ) (row : List Waiting) (z : Sleep) (m : Result Bool Refusal) → met (at (k + suc j)) w row z ≡ m → met (at ((k + 1) + j)) w row z ≡ m
later_of at w k j row z m h = subst (λ i. met (at i) w row z ≡ m) (sym (moved k j)) h

joined_ok : (m : Result Bool Refusal) (more : Result (List Bool) Refusal) (b : Bool) (bs : List Bool) → m ≡ Ok b → more ≡ Ok bs → joined m more ≡ Ok (b ∷ bs)
joined_ok m more b bs e f = rw (e, f) refl

joined_later : (m : Result Bool Refusal) (more : Result (List Bool) Refusal) (b : Bool) (r : Refusal) → m ≡ Ok b → more ≡ Err r → joined m more ≡ Err r
joined_later m more b r e f = rw (e, f) refl

joined_first : (m : Result Bool Refusal) (more : Result (List Bool) Refusal) (r : Refusal) → m ≡ Err r → joined m more ≡ Err r
joined_first m more r e = rw e refl

-- each has its answer
pub all_are : (at : ℕ → Context) (w : World) (k : ℕ) (rows : List (List Waiting)) (sleeps : List Sleep) (bs : List Bool) → length rows ≡ length sleeps → length bs ≡ length sleeps
    → ((j : ℕ) → j < length sleeps → met_in at w k rows sleeps j ≡ Ok (get_or bs j false)) → all_met at w k rows sleeps ≡ Ok bs
all_are at w k [] [] [] e f h = refl
all_are at w k [] [] (b ∷ bs) e f h = absurd (omega arith)
all_are at w k [] (z ∷ sleeps) bs e f h = absurd (omega arith)
all_are at w k (row ∷ rows) [] bs e f h = absurd (omega arith)
all_are at w k (row ∷ rows) (z ∷ sleeps) [] e f h = absurd (omega arith)
all_are at w k (row ∷ rows) (z ∷ sleeps) (b ∷ bs) e f h =
    joined_ok (met (at k) w row z) (all_met at w (k + 1) rows sleeps) b bs
    (first_of at w k row z (Ok b) (h 0 (omega arith)))
    (all_are at w (k + 1) rows sleeps bs (omega arith) (omega arith)
    (λ j lt. later_of at w k j (get_or rows j []) (get_or sleeps j no_sleep) (Ok (get_or bs j false)) (h (suc j) (omega arith))))

-- the first fault ends it
pub first_fault : (at : ℕ → Context) (w : World) (k : ℕ) (rows : List (List Waiting)) (sleeps : List Sleep) (i : ℕ) (r : Refusal) (b : ℕ → Bool) → length rows ≡ length sleeps → i < length sleeps
    → ((j : ℕ) → j < i → met_in at w k rows sleeps j ≡ Ok (b j)) → met_in at w k rows sleeps i ≡ Err r → all_met at w k rows sleeps ≡ Err r
first_fault at w k [] [] i r b e lt h last = absurd (omega arith)
first_fault at w k [] (z ∷ sleeps) i r b e lt h last = absurd (omega arith)
first_fault at w k (row ∷ rows) [] i r b e lt h last = absurd (omega arith)
first_fault at w k (row ∷ rows) (z ∷ sleeps) zero r b e lt h last =
    joined_first (met (at k) w row z) (all_met at w (k + 1) rows sleeps) r (first_of at w k row z (Err r) last)
first_fault at w k (row ∷ rows) (z ∷ sleeps) (suc i) r b e lt h last =
    joined_later (met (at k) w row z) (all_met at w (k + 1) rows sleeps) (b 0) r
    (first_of at w k row z (Ok (b 0)) (h 0 (omega arith)))
    (first_fault at w (k + 1) rows sleeps i r (λ j. b (suc j)) (omega arith) (omega arith)
    (λ j less. later_of at w k j (get_or rows j []) (get_or sleeps j no_sleep) (Ok (b (suc j))) (h (suc j) (omega arith)))
    (later_of at w k i (get_or rows i []) (get_or sleeps i no_sleep) (Err r) last))
