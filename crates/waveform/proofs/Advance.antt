-- What the first pending transaction says of all of them.
use Rattle.std.proofs.Common.{◌≡◌, ℕ, ◌<◌, ◌≤◌, true, false, List, [], ◌∷◌, ◌++◌, length, drop, get_or, Some, Result, Ok, Err, refl, ap, ◌∙◌, arith}
use Rattle.std.specs.Prelude.{filter, find, None, slice_get, OnOk, OnErr}
use Rattle.std.specs.List.{All, Any}
use Rattle.std.proofs.lemmas.Bool.Decides.{nat_tests}
use Rattle.std.proofs.lemmas.List.Elements.{All-head, All-tail, All-cons, All-weaker}
use Rattle.ams_value.specs.declared.val.Val.{Val}
use Rattle.step_data.specs.declared.trans.Trans.{Trans}
use Rattle.waveform.specs.declared.trans.DelayKind.{DelayKind}
use Rattle.waveform.specs.Projected.{IsRising, is_before, kept, projected}
use Rattle.step_data.specs.Pending.{is_at, is_after}
use Rattle.waveform.specs.Waveform.{driver_at}
use Rattle.waveform.proofs.Rising.{rising-head, rising-tail}

first_is : (x y : Trans) (ys : List Trans) → slice_get (y ∷ ys) 0 ≡ Some x → y ≡ x
first_is x y ys e = cc

-- the first transaction isn't at t, so all are after it
pub all_after : (t : ℕ) (xs : List Trans) (x : Trans) → slice_get xs 0 ≡ Some x → All (λ y. t ≤ y.at) xs → (x.at ≡ t → ⊥) → IsRising xs → All (λ y. t < y.at) xs
all_after t [] x e waits other rising = cc
all_after t (y ∷ ys) x e waits other rising =
    let same : y.at ≡ x.at = ap (λ (z : Trans). z.at) (first_is x y ys e) in
    let here : t ≤ y.at = All-head (λ z. t ≤ z.at) y ys waits in
    let later : t < y.at = omega arith in
    All-cons (λ z. t < z.at) y ys later (All-weaker (λ z. y.at < z.at) (λ z. t < z.at) (λ z h. omega arith) ys (rising-head y ys rising))

pub none_at : (t : ℕ) (xs : List Trans) → All (λ y. t < y.at) xs → Any (λ y. y.at ≡ t) xs → ⊥
none_at t xs later any =
    let k = any.0 in
    let x = any.1 in
    let h : t < (get_or xs k x).at = later k x any.2 in
    let same : (get_or xs k x).at ≡ x.at = ap (λ (z : Trans). z.at) any.3 in
    let there : x.at ≡ t = any.4 in
    omega arith

is_after_yes : (t : ℕ) (x : Trans) → t < x.at → is_after t x ≡ true
is_after_yes t x h = grind (arith, nat_tests)

is_after_no : (t : ℕ) (x : Trans) → x.at ≡ t → is_after t x ≡ false
is_after_no t x h = grind (arith, nat_tests)

is_at_yes : (t : ℕ) (x : Trans) → x.at ≡ t → is_at t x ≡ true
is_at_yes t x h = grind (arith, nat_tests)

is_at_no : (t : ℕ) (x : Trans) → t < x.at → is_at t x ≡ false
is_at_no t x h = grind (arith, nat_tests)

filter_all : (t : ℕ) (xs : List Trans) → All (λ y. t < y.at) xs → filter (is_after t) xs ≡ xs
filter_all t [] later = refl
filter_all t (x ∷ xs) later = rw (is_after_yes t x (All-head (λ y. t < y.at) x xs later), filter_all t xs (All-tail (λ y. t < y.at) x xs later)) refl

find_none : (t : ℕ) (xs : List Trans) → All (λ y. t < y.at) xs → find (is_at t) xs ≡ None
find_none t [] later = refl
find_none t (x ∷ xs) later = rw (is_at_no t x (All-head (λ y. t < y.at) x xs later)) (find_none t xs (All-tail (λ y. t < y.at) x xs later))

pub stays : (t : ℕ) (v : Val) (xs : List Trans) → All (λ y. t < y.at) xs → driver_at t (record { value = v; pending = xs }) ≡ record { value = v; pending = xs }
stays t v xs later = rw (find_none t xs later, filter_all t xs later) refl

pub takes_over : (t : ℕ) (v : Val) (xs : List Trans) (x : Trans) → slice_get xs 0 ≡ Some x → x.at ≡ t → IsRising xs → driver_at t (record { value = v; pending = xs }) ≡ record { value = x.value; pending = drop 1 xs }
takes_over t v [] x e here rising = cc
takes_over t v (y ∷ ys) x e here rising =
    let first : y ≡ x = first_is x y ys e in
    let at : y.at ≡ t = ap (λ (z : Trans). z.at) first ∙ here in
    let later : All (λ z. t < z.at) ys = All-weaker (λ z. y.at < z.at) (λ z. t < z.at) (λ z h. omega arith) ys (rising-head y ys rising) in
    rw (is_at_yes t y at, is_after_no t y at, filter_all t ys later, first) refl

pub rising_rest : (xs : List Trans) → IsRising xs → IsRising (drop 1 xs)
rising_rest [] rising = rising
rising_rest (x ∷ xs) rising = rising-tail x xs rising

-- ---- an assignment

pub by_answer : {E : Type 0} (r : Result (Unit {0}) E) (P Q R : Type 0) → (P → R) → (Q → R) → OnOk r P → OnErr r Q → R
by_answer (Ok u) P Q R f g p q = f p
by_answer (Err e) P Q R f g p q = g q

pub projected_is : (kind : DelayKind) (reject : ℕ) (old new : List Trans) (first : Trans) → 0 < length new → first ≡ get_or new 0 first → kept kind reject first (filter (is_before first.at) old) ++ new ≡ projected kind reject old new
projected_is kind reject old [] first some e = absurd (omega arith)
projected_is kind reject old (y ∷ ys) first some e = rw e refl
