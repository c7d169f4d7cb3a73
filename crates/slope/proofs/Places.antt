-- Answers that are written place by place.
use Rattle.std.proofs.Common.{◌≡◌, ◌<◌, ◌≤◌, ◌+◌, ℕ, List, length, take, drop, set, get_or, Result, Ok, Err, arith, refl, sym}
use Rattle.std.proofs.lemmas.List.{drop_more, take_more_set, drop_all, take_all, append-nil}
use Rattle.fix_core.specs.Passes.{each, joined}
use Rattle.fix_core.specs.Laws.{joined-joined, joined_none}

-- nothing is written yet
pub each_first : {A B E : Type 0} (f : A → Result B E) (xs : List A) (out : List B) → each f xs ≡ joined (take 0 out) (each f (drop 0 xs))
each_first f xs out = sym (joined_none (each f xs))

-- an answer is written behind those before it
pub each_next : {A B E : Type 0} (f : A → Result B E) (xs : List A) (out : List B) (i : ℕ) (z : A) (y : B) → length out ≡ length xs → i < length xs → f (get_or xs i z) ≡ Ok y →
    joined (take i out) (each f (drop i xs)) ≡ joined (take (i + 1) (set out i y)) (each f (drop (i + 1) xs))
unfolding each
each_next f xs out i z y l h e = rw (drop_more xs i z h, e, take_more_set out i y (omega arith)) (joined-joined (take i out) y (each f (drop (i + 1) xs)))

-- an answer is a fault
pub each_stops : {A B E : Type 0} (f : A → Result B E) (xs : List A) (out : List B) (i : ℕ) (z : A) (e : E) → i < length xs → f (get_or xs i z) ≡ Err e →
    joined (take i out) (each f (drop i xs)) ≡ Err e
unfolding each
each_stops f xs out i z e h q = rw (drop_more xs i z h, q) refl

-- all are written
pub each_last : {A B E : Type 0} (f : A → Result B E) (xs : List A) (out : List B) (i : ℕ) → length out ≡ length xs → length xs ≤ i → joined (take i out) (each f (drop i xs)) ≡ Ok out
unfolding each
each_last f xs out i l h = rw (drop_all i xs h, take_all i out (omega arith), append-nil out) refl
