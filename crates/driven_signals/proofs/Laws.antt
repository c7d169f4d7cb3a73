-- The driven signals are in order.
use Rattle.std.proofs.Common.{◌≡◌, ◌<◌, ◌+◌, ℕ, zero, suc, Bool, true, false, List, [], ◌∷◌, ◌++◌, length, filter, get_or, refl, sym, ap, ◌∙◌, arith, add-one}
use Rattle.std.specs.Prelude.{cond, if◌then◌else◌}
use Rattle.std.proofs.lemmas.List.{append-nil}
use Rattle.std.specs.List.{All, AllPairs, list_any, range_with_len}
use Rattle.std.proofs.lemmas.List.Elements.{All-filter}
use Rattle.std.proofs.lemmas.List.Kept.{AllPairs-filter}
use Rattle.cycle_meaning.specs.World.{drives}
use Rattle.driven_signals.specs.Driven.{DrivenAreOrdered}

length_range : (a n : ℕ) → length (range_with_len a n) ≡ n
length_range a zero = refl
length_range a (suc n) = ap suc (length_range (a + 1) n)

range_at : (a n i d : ℕ) → i < n → get_or (range_with_len a n) i d ≡ a + i
range_at a zero i d h = absurd (omega arith)
range_at a (suc n) zero d h = omega arith
range_at a (suc n) (suc i) d h = let more : get_or (range_with_len (a + 1) n) i d ≡ (a + 1) + i = range_at (a + 1) n i d (omega arith) in more ∙ (let e : (a + 1) + i ≡ a + suc i = omega arith in e)

range_within : (n : ℕ) → All (λ (i : ℕ). i < n) (range_with_len 0 n)
range_within n = λ k d h.
    let long : k < n = omega (arith, h, length_range 0 n) in
    let is : get_or (range_with_len 0 n) k d ≡ 0 + k = range_at 0 n k d long in
    omega (arith, is, long)

range_rising : (n : ℕ) → AllPairs (λ a b. a < b) (range_with_len 0 n)
range_rising n = λ i j d less h.
    let long : j < n = omega (arith, h, length_range 0 n) in
    let one : get_or (range_with_len 0 n) i d ≡ 0 + i = range_at 0 n i d (omega arith) in
    let two : get_or (range_with_len 0 n) j d ≡ 0 + j = range_at 0 n j d long in
    omega (arith, one, two, less)

pub ordered : DrivenAreOrdered
ordered objects =
    let p : ℕ → Bool = λ i. list_any (drives i) objects.processes in
    record {
      rising = AllPairs-filter (λ a b. a < b) p (range_with_len 0 (length objects.signals)) (range_rising (length objects.signals));
      within = All-filter p (λ (i : ℕ). i < length objects.signals) (range_with_len 0 (length objects.signals)) (range_within (length objects.signals));
    }

-- ---- one number more

pull : (b : Bool) (a : ℕ) (F X E : List ℕ) → F ≡ X ++ E → cond b (a ∷ F) F ≡ cond b (a ∷ X) X ++ E
pull true a F X E e = ap (λ l. a ∷ l) e
pull false a F X E e = e

filter_more : (p : ℕ → Bool) (a n : ℕ) → filter p (range_with_len a (suc n)) ≡ filter p (range_with_len a n) ++ cond (p (a + n)) ((a + n) ∷ []) []
filter_more p a zero = let place : a + zero ≡ a = omega arith in rw place refl
filter_more p a (suc n) =
    let place : (a + 1) + n ≡ a + suc n = omega arith in
    pull (p a) a (filter p (range_with_len (a + 1) (suc n))) (filter p (range_with_len (a + 1) n)) (cond (p (a + suc n)) ((a + suc n) ∷ []) [])
    (filter_more p (a + 1) n ∙ ap (λ (m : ℕ). filter p (range_with_len (a + 1) n) ++ cond (p m) (m ∷ []) []) place)

added : (b : Bool) (xs : List ℕ) (i : ℕ) → (if b then xs ++ i ∷ [] else xs) ≡ xs ++ cond b (i ∷ []) []
added true xs i = refl
added false xs i = sym (append-nil xs)

pub one_more : (p : ℕ → Bool) (i : ℕ) (b : Bool) (xs ys : List ℕ) → b ≡ p i → xs ≡ filter p (range_with_len 0 i) → ys ≡ (if b then xs ++ i ∷ [] else xs) → ys ≡ filter p (range_with_len 0 (i + 1))
one_more p i b xs ys eb ex ey =
    let place : 0 + i ≡ i = omega arith in
    let whole : filter p (range_with_len 0 (suc i)) ≡ filter p (range_with_len 0 i) ++ cond (p i) (i ∷ []) [] =
    filter_more p 0 i ∙ ap (λ (m : ℕ). filter p (range_with_len 0 i) ++ cond (p m) (m ∷ []) []) place in
    rw add-one
    (ey ∙ added b xs i ∙ ap (λ (c : Bool). xs ++ cond c (i ∷ []) []) eb ∙ ap (λ (l : List ℕ). l ++ cond (p i) (i ∷ []) []) ex ∙ sym whole)
