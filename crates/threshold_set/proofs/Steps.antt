-- Lists that are changed place by place, and events that are given one by one.
use Rattle.std.proofs.Common.{◌≡◌, ℕ, zero, suc, ◌<◌, ◌≤◌, ◌+◌, Bool, false, List, [], ◌∷◌, ◌++◌, length, map, take, drop, get_or, set, refl, sym, ap, ◌∙◌, arith, append_assoc, add-one}
use Rattle.std.specs.Prelude.{ℤ, pos, Some, Result, Ok, Err, OnErr, slice_get}
use Rattle.std.proofs.lemmas.Option.{slice_get-get_or}
use Rattle.std.proofs.lemmas.List.{append-nil, drop_all, take_all, get_or_default}
use Rattle.fix_core.specs.Laws.{at_place}
use Rattle.step_data.specs.declared.breaks.ThresholdState.{ThresholdState}
use Rattle.step_data.specs.declared.event.Event.TheVariants.{Cross}
use Rattle.cycle_meaning.specs.Cycles.{event_if, crossings, is_on}
use Rattle.threshold_set.specs.Crossed.{after, crossed, crossed_of, silenced}
use Rattle.step_data.specs.declared.event.Event.{Event}
use Rattle.step_model.specs.Kernel.{AddsFront}
use Rattle.threshold_set.specs.Given.{Given}

-- the first places have their new values
abbrev pub done : {A B : Type 0} → (A → B) → ℕ → List A → List B → List B
done f k xs ys = map f (take k xs) ++ drop k ys

one_more : {A B : Type 0} (f : A → B) (k : ℕ) (xs : List A) (ys : List B) (a : A) → k < length xs → k < length ys → a ≡ get_or xs k a → set (done f k xs ys) k (f a) ≡ done f (suc k) xs ys
one_more f k [] ys a h g e = absurd (omega arith)
one_more f k (x ∷ xs) [] a h g e = absurd (omega arith)
one_more f zero (x ∷ xs) (y ∷ ys) a h g e = ap (λ b. f b ∷ ys) e
one_more f (suc k) (x ∷ xs) (y ∷ ys) a h g e = ap (λ l. f x ∷ l) (one_more f k xs ys a (omega arith) (omega arith) e)

pub done_more : {A B : Type 0} (f : A → B) (k : ℕ) (xs : List A) (ys : List B) (a : A) → k < length xs → k < length ys → a ≡ get_or xs k a → set (done f k xs ys) k (f a) ≡ done f (k + 1) xs ys
done_more f k xs ys a h g e = rw add-one (one_more f k xs ys a h g e)

-- ---- events

pub given_none : (old whole : List Event) → Given old old whole whole
given_none old whole = record { front = []; is_front = refl; new_is = sym (append-nil old) }

pub given_more : (old new now more left whole rest : List Event) → Given old new rest whole → now ≡ new ++ more → rest ≡ more ++ left → Given old now left whole
given_more old new now more left whole rest g e r = record {
  front = g.front ++ more;
  is_front = append_assoc g.front more left ∙ ap (λ l. g.front ++ l) (sym r) ∙ g.is_front;
  new_is = e ∙ ap (λ l. l ++ more) g.new_is ∙ append_assoc old g.front more;
}

pub given_all : (old new whole : List Event) → Given old new [] whole → new ≡ old ++ whole
given_all old new whole g = g.new_is ∙ ap (λ l. old ++ l) (sym (append-nil g.front) ∙ g.is_front)

pub given_front : (old new left whole : List Event) → Given old new left whole → AddsFront old new whole
given_front old new left whole g = record { front = g.front; is_front = (left, g.is_front); new_is = g.new_is }

-- ---- lists that grow

grows : {A B : Type 0} (f : A → B) (xs : List A) (i : ℕ) (x : A) → i < length xs → x ≡ get_or xs i x → map f (take i xs) ++ f x ∷ [] ≡ map f (take (suc i) xs)
grows f [] i x h e = absurd (omega arith)
grows f (a ∷ xs) zero x h e = ap (λ b. f b ∷ []) e
grows f (a ∷ xs) (suc i) x h e = ap (λ l. f a ∷ l) (grows f xs i x (omega arith) e)

pub grows_more : {A B : Type 0} (f : A → B) (xs : List A) (i : ℕ) (x : A) → i < length xs → x ≡ get_or xs i x → map f (take i xs) ++ f x ∷ [] ≡ map f (take (i + 1) xs)
grows_more f xs i x h e = rw add-one (grows f xs i x h e)

pub all_done : {A B : Type 0} (f : A → B) (k : ℕ) (xs : List A) (ys : List B) → length xs ≤ k → length ys ≤ k → done f k xs ys ≡ map f xs
all_done f k xs ys h g = ap (λ l. map f l ++ drop k ys) (take_all k xs h) ∙ ap (λ l. map f xs ++ l) (drop_all k ys g) ∙ append-nil (map f xs)

take_none : {A : Type 0} (k : ℕ) → take {A = A} k [] ≡ []
take_none zero = refl
take_none (suc k) = refl

drop_none : {A : Type 0} (k : ℕ) → drop {A = A} k [] ≡ []
drop_none zero = refl
drop_none (suc k) = refl

pub length_done : {A B : Type 0} (f : A → B) (k : ℕ) (xs : List A) (ys : List B) → length ys ≡ length xs → length (done f k xs ys) ≡ length xs
length_done f k [] [] e = rw (take_none k, drop_none k) refl
length_done f k [] (y ∷ ys) e = absurd (omega arith)
length_done f k (x ∷ xs) [] e = absurd (omega arith)
length_done f zero (x ∷ xs) (y ∷ ys) e = e
length_done f (suc k) (x ∷ xs) (y ∷ ys) e = ap suc (length_done f k xs ys (omega arith))

past : {A B : Type 0} (f : A → B) (k : ℕ) (xs : List A) (d : B) → k < length xs → get_or (map f (take k xs) ++ []) k d ≡ d
past f k [] d h = absurd (omega arith)
past f zero (x ∷ xs) d h = refl
past f (suc k) (x ∷ xs) d h = past f k xs d (omega arith)

-- an element that isn't reached yet
pub not_done : {A B : Type 0} (f : A → B) (k : ℕ) (xs : List A) (ys : List B) (d : B) → k < length xs → get_or (done f k xs ys) k d ≡ get_or ys k d
not_done f k [] ys d h = absurd (omega arith)
not_done f zero (x ∷ xs) ys d h = refl
not_done f (suc k) (x ∷ xs) [] d h = past f k xs d (omega arith)
not_done f (suc k) (x ∷ xs) (y ∷ ys) d h = not_done f k xs ys d (omega arith)

-- ---- one threshold more

pub on_err : {A E : Type 0} (r : Result A E) (P : Type 0) → P → OnErr r P
on_err (Ok a) P h = tt
on_err (Err e) P h = h

blank : ThresholdState
blank = record { unknown = 0; level = pos 0; on = false }

read_at : (f : ThresholdState → ThresholdState) (k : ℕ) (old list : List ThresholdState) (s : ThresholdState) → k < length old → s ≡ get_or old k s → list ≡ done f k old old → slice_get list k ≡ Some s
read_at f k old list s h e is =
    let inside : k < length list = rw (is, length_done f k old old refl) h in
    slice_get-get_or list k s inside ∙ ap Some (ap (λ (l : List ThresholdState). get_or l k s) is ∙ not_done f k old old s h ∙ sym e)

pub here : (old : List ThresholdState) (k : ℕ) → k < length old → (s : ThresholdState) × (s ≡ get_or old k s)
here old k h = (get_or old k blank, get_or_default old k blank (get_or old k blank) h)

pub list_more : (x : List ℤ) (k : ℕ) (old list now : List ThresholdState) → k < length old → list ≡ done (after x) k old old
    → ((s : ThresholdState) → slice_get list k ≡ Some s → now ≡ set list k (after x s)) → now ≡ done (after x) (k + 1) old old
list_more x k old list now h is one =
    let s = (here old k h).0 in
    let e : s ≡ get_or old k s = (here old k h).1 in
    one s (read_at (after x) k old list s h e is) ∙ ap (λ (l : List ThresholdState). set l k (after x s)) is ∙ done_more (after x) k old old s h h e

pub events_more : (x : List ℤ) (k : ℕ) (old list : List ThresholdState) (were events now : List Bool) → k < length old → length were ≡ length old → list ≡ done (after x) k old old
    → events ≡ done (λ (s : ThresholdState). (crossed x s).event) k old were
    → ((s : ThresholdState) → slice_get list k ≡ Some s → now ≡ set events k (crossed x s).event) → now ≡ done (λ (s : ThresholdState). (crossed x s).event) (k + 1) old were
events_more x k old list were events now h l is are one =
    let s = (here old k h).0 in
    let e : s ≡ get_or old k s = (here old k h).1 in
    let g : k < length were = omega arith in
    one s (read_at (after x) k old list s h e is) ∙ ap (λ (b : List Bool). set b k (crossed x s).event) are
    ∙ done_more (λ (s : ThresholdState). (crossed x s).event) k old were s h g e

pub crossings_more : (x : List ℤ) (t n k : ℕ) (old list : List ThresholdState) (first out now whole : List Event) → k < length old → list ≡ done (after x) k old old
    → Given first out (crossings t n k (crossed_of x (drop k old))) whole
    → ((s : ThresholdState) → slice_get list k ≡ Some s → now ≡ out ++ event_if (crossed x s).event (Cross t n k (is_on (crossed x s).value)))
    → Given first now (crossings t n (k + 1) (crossed_of x (drop (k + 1) old))) whole
crossings_more x t n k old list first out now whole h is g one =
    let s = (here old k h).0 in
    let e : s ≡ get_or old k s = (here old k h).1 in
    given_more first out now (event_if (crossed x s).event (Cross t n k (is_on (crossed x s).value))) (crossings t n (k + 1) (crossed_of x (drop (k + 1) old))) whole
    (crossings t n k (crossed_of x (drop k old))) g (one s (read_at (after x) k old list s h e is))
    (ap (λ (l : List ThresholdState). crossings t n k (crossed_of x l)) (at_place old k s h e))

-- a threshold that is written with its own unknown and level
pub silenced_set : (list : List ThresholdState) (k : ℕ) (s : ThresholdState) (on : Bool) → slice_get list k ≡ Some s → map silenced (set list k (record s { on = on })) ≡ map silenced list
silenced_set [] k s on e = refl
silenced_set (x ∷ list) zero s on e = let same : x ≡ s = cc in rw same refl
silenced_set (x ∷ list) (suc k) s on e = ap (λ l. silenced x ∷ l) (silenced_set list k s on e)
