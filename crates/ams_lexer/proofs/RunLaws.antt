-- The run at the front is a run, and the longest one.
use Rattle.std.proofs.Common.{◌≡◌, ℕ, suc, ◌+◌, ◌≤◌, Bool, true, false, cond, ◌&&◌, eqb, List, [], ◌∷◌, ◌++◌, length, take, drop, refl, ap, arith, inl, inr}
use Rattle.std.proofs.lemmas.Bool.{or_cases, or_left, or_right, and_parts, and_from}
use Rattle.std.proofs.lemmas.List.{drop-drop}
use Rattle.ams_lexer.specs.Runs.{begins, goes_on, IsRun, run_length}

begins-run : (p : ℕ → Bool) (bs : List ℕ) → begins p bs ≡ true → begins p (take (run_length p bs) bs) ≡ true
begins-run p [] h = h
begins-run p (b ∷ bs) h =
    let on : goes_on p (b ∷ bs) ≡ true = or_left (p b) (eqb b 95 && begins p bs) h in
    rw on h

goes_on-run : (p : ℕ → Bool) (b : ℕ) (bs : List ℕ) → goes_on p (b ∷ bs) ≡ true → goes_on p (b ∷ take (run_length p bs) bs) ≡ true
goes_on-run p b bs h =
    elim (or_cases (p b) (eqb b 95 && begins p bs) h) [
      | inl one ↦ or_left (p b) _ one
      | inr joined ↦
          let parts = and_parts (eqb b 95) (begins p bs) joined in
          or_right (p b) _ (and_from _ _ parts.0 (begins-run p bs parts.1))
    ]

pub record TakesRun (p : ℕ → Bool) (bs : List ℕ) (n : ℕ) : Type 0 where
  pub run : IsRun p (take n bs)
  pub stops : goes_on p (drop n bs) ≡ false

takes_more : (p : ℕ → Bool) (b : ℕ) (bs : List ℕ) (on : Bool) → goes_on p (b ∷ bs) ≡ on → TakesRun p bs (run_length p bs) → TakesRun p (b ∷ bs) (cond on (suc (run_length p bs)) 0)
takes_more p b bs true h more = record { run = (goes_on-run p b bs h, more.run); stops = more.stops }
takes_more p b bs false h more = record { run = tt; stops = h }

pub takes_run : (p : ℕ → Bool) (bs : List ℕ) → TakesRun p bs (run_length p bs)
takes_run p [] = record { run = tt; stops = refl }
takes_run p (b ∷ bs) = takes_more p b bs (goes_on p (b ∷ bs)) refl (takes_run p bs)

run_length-stop : (p : ℕ → Bool) (bs : List ℕ) → goes_on p bs ≡ false → run_length p bs ≡ 0
run_length-stop p [] h = refl
run_length-stop p (b ∷ bs) h = rw h refl

begins-append : (p : ℕ → Bool) (w rest : List ℕ) → begins p w ≡ true → begins p (w ++ rest) ≡ true
begins-append p [] rest h = absurd cc
begins-append p (b ∷ w) rest h = h

goes_on-append : (p : ℕ → Bool) (b : ℕ) (w rest : List ℕ) → goes_on p (b ∷ w) ≡ true → goes_on p (b ∷ (w ++ rest)) ≡ true
goes_on-append p b w rest h =
    elim (or_cases (p b) (eqb b 95 && begins p w) h) [
      | inl one ↦ or_left (p b) _ one
      | inr joined ↦
          let parts = and_parts (eqb b 95) (begins p w) joined in
          or_right (p b) _ (and_from _ _ parts.0 (begins-append p w rest parts.1))
    ]

pub run_length-append : (p : ℕ → Bool) (w rest : List ℕ) → IsRun p w → goes_on p rest ≡ false → run_length p (w ++ rest) ≡ length w
run_length-append p [] rest run stop = run_length-stop p rest stop
run_length-append p (b ∷ w) rest run stop =
    let on : goes_on p (b ∷ (w ++ rest)) ≡ true = goes_on-append p b w rest run.0 in
    rw on (ap suc (run_length-append p w rest run.1 stop))

bound_more : (p : ℕ → Bool) (bs : List ℕ) (on : Bool) → run_length p bs ≤ length bs → cond on (suc (run_length p bs)) 0 ≤ suc (length bs)
bound_more p bs true h = omega arith
bound_more p bs false h = omega arith

pub run_length-bound : (p : ℕ → Bool) (bs : List ℕ) → run_length p bs ≤ length bs
run_length-bound p [] = omega arith
run_length-bound p (b ∷ bs) = bound_more p bs (goes_on p (b ∷ bs)) (run_length-bound p bs)

-- ---- the loop

run_length-next : (p : ℕ → Bool) (bs : List ℕ) → goes_on p bs ≡ true → run_length p bs ≡ suc (run_length p (drop 1 bs))
run_length-next p [] h = absurd cc
run_length-next p (b ∷ bs) h = rw h refl

pub run_length-more : (p : ℕ → Bool) (bs : List ℕ) (i : ℕ) → goes_on p (drop i bs) ≡ true → run_length p (drop i bs) ≡ suc (run_length p (drop (i + 1) bs))
run_length-more p bs i h = rw (← drop-drop 1 i bs) (run_length-next p (drop i bs) h)
