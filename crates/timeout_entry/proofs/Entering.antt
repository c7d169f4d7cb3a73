-- One timeout more is entered.
use Rattle.std.proofs.Common.{◌≡◌, refl, ap, sym, ◌∙◌, subst, ℕ, zero, suc, ◌+◌, Bool, true, false, List, [], ◌∷◌, ◌++◌, add-one, length, take, drop, set, get_or, arith, ◌-◌, ◌<◌, ◌≤◌, Option, None}
use Rattle.std.specs.Prelude.{if◌then◌else◌}
use Rattle.process_runs.specs.Kept.{Kept}
use Rattle.process_runs.specs.Called.{MarksAreCalled}
use Rattle.process_runs.proofs.Called.{next_called, within_count, AreUnmarked, none_first, none_between, next_behind}
use Rattle.cycle_timeouts.specs.Entered.{entered}
use Rattle.timeout_entry.specs.Kept.{timeouts_kept}

-- ---- what is kept

pub kept_at : (ks : List Kept) (k : ℕ) (d : Kept) → k < length ks → get_or (timeouts_kept ks) k None ≡ (get_or ks k d).timeout
kept_at [] k d h = absurd (omega arith)
kept_at (z ∷ ks) zero d h = refl
kept_at (z ∷ ks) (suc k) d h = kept_at ks k d (omega arith)

pub how_many : (ks : List Kept) → length (timeouts_kept ks) ≡ length ks
how_many [] = refl
how_many (z ∷ ks) = ap suc (how_many ks)

-- ---- those of the processes that ran

pub entered_none : (times : List (Option ℕ)) → entered times [] [] ≡ times
entered_none [] = refl
entered_none (t ∷ times) = refl

entered_more : (times new : List (Option ℕ)) (bs : List Bool) (k : ℕ) (u : Option ℕ) (b : Bool) → k < length times → length new ≡ length times → length bs ≡ length times → u ≡ get_or new k None → b ≡ get_or bs k false
    → entered times (take (suc k) new) (take (suc k) bs) ≡ (if b then set (entered times (take k new) (take k bs)) k u else entered times (take k new) (take k bs))
entered_more [] new bs k u b h ln lb eu eb = absurd (omega arith)
entered_more (t ∷ times) [] bs k u b h ln lb eu eb = absurd (omega arith)
entered_more (t ∷ times) (x ∷ new) [] k u b h ln lb eu eb = absurd (omega arith)
entered_more (t ∷ times) (x ∷ new) (y ∷ bs) zero u b h ln lb eu eb =
    ap (λ (l : List (Option ℕ)). (if y then x else t) ∷ l) (entered_none times) ∙ at b y eb ∙ ap (λ (o : Option ℕ). if b then o ∷ times else t ∷ times) (sym eu)
  where
    at : (b y : Bool) → b ≡ y → ((if y then x else t) ∷ times) ≡ (if b then x ∷ times else t ∷ times)
    at true true e = refl
    at true false e = absurd (cc)
    at false true e = absurd (cc)
    at false false e = refl
entered_more (t ∷ times) (x ∷ new) (y ∷ bs) (suc k) u b h ln lb eu eb =
    ap (λ (l : List (Option ℕ)). (if y then x else t) ∷ l) (entered_more times new bs k u b (omega arith) (omega arith) (omega arith) eu eb)
    ∙ inside b
  where
    inside : (b : Bool) → ((if y then x else t) ∷ (if b then set (entered times (take k new) (take k bs)) k u else entered times (take k new) (take k bs)))
        ≡ (if b then set ((if y then x else t) ∷ entered times (take k new) (take k bs)) (suc k) u else (if y then x else t) ∷ entered times (take k new) (take k bs))
    inside true = refl
    inside false = refl

-- one more, as the code enters it
pub entered_next : (first now after : List (Option ℕ)) (ks : List Kept) (bs : List Bool) (k : ℕ) (u : Option ℕ) (b : Bool) → k < length ks → length ks ≡ length first → length bs ≡ length first → u ≡ get_or (timeouts_kept ks) k None → b ≡ get_or bs k false
    → now ≡ entered first (take k (timeouts_kept ks)) (take k bs) → after ≡ (if b then set now k u else now) → after ≡ entered first (take (k + 1) (timeouts_kept ks)) (take (k + 1) bs)
entered_next first now after ks bs k u b h lk lb eu eb was got =
    rw (add-one k)
    (got ∙ ap (λ (l : List (Option ℕ)). if b then set l k u else l) was
    ∙ sym (entered_more first (timeouts_kept ks) bs k u b (subst (λ (n : ℕ). k < n) lk h) (how_many ks ∙ lk) lb eu eb))

-- those that aren't marked are passed over
entered_past : (first new : List (Option ℕ)) (bs : List Bool) (d n m : ℕ) → n + d ≡ m → m ≤ length first → length new ≡ length first → length bs ≡ length first → AreUnmarked bs n m
    → entered first (take n new) (take n bs) ≡ entered first (take m new) (take m bs)
entered_past first new bs zero n m e within ln lb unmarked = let same : n ≡ m = omega (arith, e) in ap (λ (i : ℕ). entered first (take i new) (take i bs)) same
entered_past first new bs (suc d) n m e within ln lb unmarked =
    sym (entered_more first new bs n (get_or new n None) false (omega (arith, e, within)) ln lb refl (sym (unmarked n (omega arith) (omega (arith, e)))))
    ∙ entered_past first new bs d (suc n) m (omega (arith, e)) within ln lb (λ k from to. unmarked k (omega (arith, from)) to)

pub entered_first : (first now : List (Option ℕ)) (ks : List Kept) (bs : List Bool) (called : List ℕ) → length ks ≡ length first → length bs ≡ length first → MarksAreCalled (length first) called bs → now ≡ first
    → now ≡ entered first (take (next_called called (length first) 0) (timeouts_kept ks)) (take (next_called called (length first) 0) bs)
entered_first first now ks bs called lk lb are was =
    was ∙ sym (entered_none first)
    ∙ entered_past first (timeouts_kept ks) bs (next_called called (length first) 0) 0 (next_called called (length first) 0) (omega arith) (within_count (length first) called bs 0 are) (how_many ks ∙ lk) lb
    (none_first (length first) called bs are)

pub entered_called : (first now after : List (Option ℕ)) (ks : List Kept) (bs : List Bool) (called : List ℕ) (i k : ℕ) (u : Option ℕ) (b : Bool) → length ks ≡ length first → length bs ≡ length first → MarksAreCalled (length first) called bs
    → i < length called → next_called called (length first) i ≡ k → k < length ks → u ≡ get_or (timeouts_kept ks) k None → b ≡ get_or bs k false
    → now ≡ entered first (take (next_called called (length first) i) (timeouts_kept ks)) (take (next_called called (length first) i) bs) → after ≡ (if b then set now k u else now)
    → after ≡ entered first (take (next_called called (length first) (i + 1)) (timeouts_kept ks)) (take (next_called called (length first) (i + 1)) bs)
entered_called first now after ks bs called i k u b lk lb are h number within eu eb was got =
    let next : ℕ = next_called called (length first) (i + 1) in
    entered_next first now after ks bs k u b within lk lb eu eb (was ∙ ap (λ (n : ℕ). entered first (take n (timeouts_kept ks)) (take n bs)) number) got
    ∙ entered_past first (timeouts_kept ks) bs (next - (k + 1)) (k + 1) next (omega (arith, next_behind (length first) called bs i k are h number)) (within_count (length first) called bs (i + 1) are) (how_many ks ∙ lk) lb
    (none_between (length first) called bs i k are h number)

take_whole : {A : Type 0} (xs : List A) (n : ℕ) → n ≡ length xs → take n xs ≡ xs
take_whole [] zero e = refl
take_whole [] (suc n) e = refl
take_whole (x ∷ xs) zero e = absurd (omega arith)
take_whole (x ∷ xs) (suc n) e = ap (λ l. x ∷ l) (take_whole xs n (omega arith))

pub entered_whole : (first now : List (Option ℕ)) (ks : List Kept) (bs : List Bool) (n : ℕ) → n ≡ length ks → length ks ≡ length first → length bs ≡ length first
    → now ≡ entered first (take n (timeouts_kept ks)) (take n bs) → now ≡ entered first (timeouts_kept ks) bs
entered_whole first now ks bs n e lk lb was =
    was ∙ ap (λ (l : List (Option ℕ)). entered first l (take n bs)) (take_whole (timeouts_kept ks) n (e ∙ sym (how_many ks)))
    ∙ ap (entered first (timeouts_kept ks)) (take_whole bs n (e ∙ lk ∙ sym lb))

-- ---- all

all_more : (old new : List (Option ℕ)) (k : ℕ) (u : Option ℕ) → k < length old → length new ≡ length old → u ≡ get_or new k None → set (take k new ++ drop k old) k u ≡ take (suc k) new ++ drop (suc k) old
all_more [] new k u h ln eu = absurd (omega arith)
all_more (t ∷ old) [] k u h ln eu = absurd (omega arith)
all_more (t ∷ old) (x ∷ new) zero u h ln eu = ap (λ (o : Option ℕ). o ∷ old) eu
all_more (t ∷ old) (x ∷ new) (suc k) u h ln eu = ap (λ (l : List (Option ℕ)). x ∷ l) (all_more old new k u (omega arith) (omega arith) eu)

pub all_next : (first now after : List (Option ℕ)) (ks : List Kept) (k : ℕ) (u : Option ℕ) → k < length ks → length ks ≡ length first → u ≡ get_or (timeouts_kept ks) k None
    → now ≡ take k (timeouts_kept ks) ++ drop k first → after ≡ set now k u → after ≡ take (k + 1) (timeouts_kept ks) ++ drop (k + 1) first
all_next first now after ks k u h lk eu was got =
    rw (add-one k)
    (got ∙ ap (λ (l : List (Option ℕ)). set l k u) was ∙ all_more first (timeouts_kept ks) k u (subst (λ (n : ℕ). k < n) lk h) (how_many ks ∙ lk) eu)

none_left : {A : Type 0} (xs ys : List A) (n : ℕ) → n ≡ length xs → n ≡ length ys → take n xs ++ drop n ys ≡ xs
none_left [] [] n e f = grind arith
none_left [] (y ∷ ys) n e f = absurd (omega arith)
none_left (x ∷ xs) [] n e f = absurd (omega arith)
none_left (x ∷ xs) (y ∷ ys) zero e f = absurd (omega arith)
none_left (x ∷ xs) (y ∷ ys) (suc n) e f = ap (λ l. x ∷ l) (none_left xs ys n (omega arith) (omega arith))

pub all_whole : (first now : List (Option ℕ)) (ks : List Kept) (n : ℕ) → n ≡ length ks → length ks ≡ length first → now ≡ take n (timeouts_kept ks) ++ drop n first → now ≡ timeouts_kept ks
all_whole first now ks n e lk was = was ∙ none_left (timeouts_kept ks) first n (e ∙ sym (how_many ks)) (e ∙ lk)
