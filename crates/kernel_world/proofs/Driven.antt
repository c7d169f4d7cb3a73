-- A signal that a process drives has a driver.
use Rattle.std.proofs.Common.{◌≡◌, ◌<◌, ◌≤◌, ◌+◌, ℕ, zero, suc, Bool, true, false, List, [], ◌∷◌, ◌||◌, length, Some, inl, inr, refl, arith}
use Rattle.std.specs.Prelude.{slice_get, nat_eq, filter, cond}
use Rattle.std.specs.List.{list_any, range_with_len}
use Rattle.std.proofs.lemmas.Bool.{cases_eq}
use Rattle.std.proofs.lemmas.Bool.Decides.{nat_tests}
use Rattle.flat_design.specs.declared.objects.Process.{Process}
use Rattle.step_data.specs.declared.trans.Trans.{Trans}
use Rattle.cycle_meaning.specs.World.{Context, drives, driven_of}
use Rattle.process_ready.specs.Allowed.{IsDriven}
use Rattle.driver_set.specs.Numbers.{number_of}
use Rattle.driver_set.proofs.NumberSteps.{first_in, number_is_first}
use Rattle.kernel_world.specs.Sound.{IsSound}

same_number : (i x : ℕ) → i ≡ x → nat_eq i x ≡ true
same_number i x e = grind (arith, nat_tests)

-- ---- the place of a member

first_inside : (i : ℕ) (xs : List ℕ) → list_any (nat_eq i) xs ≡ true → first_in i xs < length xs
first_inside i [] h = absurd (cc)
first_inside i (x ∷ xs) h = at (nat_eq i x) h (first_inside i xs)
  where
    at : (b : Bool) → (b || list_any (nat_eq i) xs) ≡ true → (list_any (nat_eq i) xs ≡ true → first_in i xs < length xs) → cond b 0 (suc (first_in i xs)) < length (x ∷ xs)
    at true e more = omega arith
    at false e more = let h = more e in omega arith

-- ---- the driven signals

or_right : (a b : Bool) → b ≡ true → (a || b) ≡ true
or_right true b h = refl
or_right false b h = h

kept_behind : (i : ℕ) (b : Bool) (x : ℕ) (xs : List ℕ) → list_any (nat_eq i) xs ≡ true → list_any (nat_eq i) (cond b (x ∷ xs) xs) ≡ true
kept_behind i true x xs h = or_right (nat_eq i x) (list_any (nat_eq i) xs) h
kept_behind i false x xs h = h

kept : (p : ℕ → Bool) (i start n : ℕ) → p i ≡ true → start ≤ i → i < start + n → list_any (nat_eq i) (filter p (range_with_len start n)) ≡ true
kept p i start zero h low high = absurd (omega arith)
kept p i start (suc n) h low high =
    elim (cases_eq start i) [
      | inl here ↦ rw (here, h, same_number i i refl) refl
      | inr other ↦ kept_behind i (p start) start (filter p (range_with_len (start + 1) n)) (kept p i (start + 1) n h (omega arith) (omega arith))
    ]

-- a process that drives a signal is one of those
some_drives : (i k : ℕ) (ps : List Process) (p : Process) → slice_get ps k ≡ Some p → drives i p ≡ true → list_any (drives i) ps ≡ true
some_drives i k [] p e h = cc
some_drives i zero (q ∷ ps) p e h = let same : q ≡ p = cc in rw (same, h) refl
some_drives i (suc k) (q ∷ ps) p e h = or_right (drives i q) (list_any (drives i) ps) (some_drives i k ps p e h)

pub has_driver : (here : Context) (driven : List ℕ) (queues : List (List Trans)) (i : ℕ) → IsSound here.objects driven queues → IsDriven here i → number_of driven i < length driven
has_driver here driven queues i sound d =
    let any : list_any (drives i) here.objects.processes ≡ true = some_drives i here.process here.objects.processes d.0 d.1 d.2 in
    let inside : i < length here.objects.signals = sound.known i any in
    let member : list_any (nat_eq i) (driven_of here.objects) ≡ true = kept (λ j. list_any (drives j) here.objects.processes) i 0 (length here.objects.signals) any (omega arith) (omega arith) in
    let place : first_in i (driven_of here.objects) < length (driven_of here.objects) = first_inside i (driven_of here.objects) member in
    rw (sound.driven_are, number_is_first i (driven_of here.objects)) place
