-- Signals take the values of their drivers one by one.
use Rattle.std.proofs.Common.{◌≡◌, ℕ, zero, suc, ◌<◌, ◌≤◌, ◌+◌, Bool, true, false, List, [], ◌∷◌, length, map, get_or, set, Some, inl, inr, refl, sym, ap, ◌∙◌, arith}
use Rattle.std.specs.Prelude.{Option, None, nat_eq, nat_lt, not, cond, replicate, position, if◌then◌else◌}
use Rattle.std.specs.List.{All, AllPairs, position_or_len}
use Rattle.std.proofs.lemmas.Bool.{cases_lt, cases_eq}
use Rattle.std.proofs.lemmas.Bool.Decides.{nat_tests}
use Rattle.std.proofs.lemmas.List.Elements.{All-nil, All-head, All-tail, All-cons}
use Rattle.ams_value.specs.declared.val.Val.{Val}
use Rattle.step_data.specs.declared.trans.Trans.{Trans}
use Rattle.step_data.specs.Pending.{due, advanced, is_at, is_after}
use Rattle.waveform.specs.Projected.{IsRising}
use Rattle.waveform.proofs.Advance.{all_after}
use Rattle.agenda.specs.Times.{is_time}
use Rattle.design_meaning.specs.Readings.{Seen, still}
use Rattle.cycle_meaning.specs.Cycles.{driving, queue_in, with_driving}
use Rattle.driver_set.specs.Queues.{AreLate, AreRising, stands_first}
use Rattle.driving_values.specs.Driving.{seens, due_for, driven_by}

-- ---- the definition, signal by signal

pub with_driving_is : (t : ℕ) (driven : List ℕ) (queues : List (List Trans)) (i : ℕ) (values : List Val) → with_driving t driven queues i values ≡ driven_by (due_for t driven queues) i (map still values)
with_driving_is t driven queues i [] = refl
with_driving_is t driven queues i (v ∷ values) = ap (λ l. driving (still v) (due_for t driven queues i) ∷ l) (with_driving_is t driven queues (i + 1) values)

pub cleared : (values : List Val) → seens values (replicate (length values) false) ≡ map still values
cleared [] = refl
cleared (v ∷ values) = ap (λ l. still v ∷ l) (cleared values)

driven_same : (before after : ℕ → Option Trans) (d b : ℕ) (S : List Seen) → d < b → ((i : ℕ) → (i ≡ d → ⊥) → after i ≡ before i) → driven_by after b S ≡ driven_by before b S
driven_same before after d b [] h same = refl
driven_same before after d b (s ∷ S) h same =
    let here : after b ≡ before b = same b (λ e. omega arith) in
    rw (here, driven_same before after d (b + 1) S (omega arith) same) refl

-- one signal has taken its value, and nothing is due for it any more
pub driven_once : (before after : ℕ → Option Trans) (d b j : ℕ) (S : List Seen) (a s : Seen) → ((i : ℕ) → (i ≡ d → ⊥) → after i ≡ before i) → after d ≡ None → b + j ≡ d → j < length S
    → a ≡ get_or S j a → s ≡ driving a (before d) → driven_by after b (set S j s) ≡ driven_by before b S
driven_once before after d b j [] a s same none e h is now = absurd (omega arith)
driven_once before after d b zero (x ∷ S) a s same none e h is now =
    let here : b ≡ d = omega arith in
    let gone : driving s (after b) ≡ s = rw (here, none) refl in
    let taken : s ≡ driving x (before b) = rw here (now ∙ ap (λ (y : Seen). driving y (before d)) is) in
    rw (gone, driven_same before after d (b + 1) S (omega arith) same) (ap (λ (y : Seen). y ∷ driven_by before (b + 1) S) taken)
driven_once before after d b (suc j) (x ∷ S) a s same none e h is now =
    let here : after b ≡ before b = same b (λ q. omega arith) in
    rw (here, driven_once before after d (b + 1) j S a s same none (omega arith) (omega arith) is now) refl

pub driven_all : (dues : ℕ → Option Trans) (b : ℕ) (S : List Seen) → ((i : ℕ) → dues i ≡ None) → driven_by dues b S ≡ S
driven_all dues b [] none = refl
driven_all dues b (s ∷ S) none = rw (none b, driven_all dues (b + 1) S none) refl

-- ---- the queue of a signal

eq_yes : (i j : ℕ) → i ≡ j → nat_eq i j ≡ true
eq_yes i j e = grind (arith, nat_tests)

pub eq_no : (i j : ℕ) → (i ≡ j → ⊥) → nat_eq i j ≡ false
eq_no i j e = grind (arith, nat_tests)

pub queue_other : (driven : List ℕ) (queues : List (List Trans)) (k i d : ℕ) (q : List Trans) → k < length driven → d ≡ get_or driven k d → (i ≡ d → ⊥)
    → queue_in i driven (set queues k q) ≡ queue_in i driven queues
queue_other [] queues k i d q h is other = absurd (omega arith)
queue_other (j ∷ driven) [] zero i d q h is other = refl
queue_other (j ∷ driven) [] (suc k) i d q h is other = refl
queue_other (j ∷ driven) (p ∷ queues) zero i d q h is other = let miss : nat_eq i j ≡ false = eq_no i j (λ e. other (e ∙ sym is)) in rw miss refl
queue_other (j ∷ driven) (p ∷ queues) (suc k) i d q h is other = ap (λ l. if nat_eq i j then p else l) (queue_other driven queues k i d q (omega arith) is other)

pub queue_here : (driven : List ℕ) (queues : List (List Trans)) (k d : ℕ) → AllPairs (λ a b. a < b) driven → k < length driven → k < length queues → d ≡ get_or driven k d → queue_in d driven queues ≡ get_or queues k []
queue_here [] queues k d rising h g is = absurd (omega arith)
queue_here (j ∷ driven) [] k d rising h g is = absurd (omega arith)
queue_here (j ∷ driven) (p ∷ queues) zero d rising h g is = let hit : nat_eq d j ≡ true = eq_yes d j is in rw hit refl
queue_here (j ∷ driven) (p ∷ queues) (suc k) d rising h g is =
    let less : j < get_or driven k d = rising 0 (suc k) d (omega arith) (omega arith) in
    let miss : nat_eq d j ≡ false = eq_no d j (λ e. omega arith) in
    rw miss (queue_here driven queues k d (λ i l x le lt. rising (suc i) (suc l) x (omega arith) (omega arith)) (omega arith) (omega arith) is)

choose : (P : List Trans → Type 0) (b : Bool) (x y : List Trans) → P x → P y → P (if b then x else y)
choose P true x y p q = p
choose P false x y p q = q

pub queue_has : (P : List Trans → Type 0) (driven : List ℕ) (queues : List (List Trans)) (i : ℕ) → P [] → All P queues → P (queue_in i driven queues)
queue_has P [] queues i none all = none
queue_has P (j ∷ driven) [] i none all = none
queue_has P (j ∷ driven) (q ∷ queues) i none all = choose P (nat_eq i j) q (queue_in i driven queues) (All-head P q queues all) (queue_has P driven queues i none (All-tail P q queues all))

-- ---- what is due

after_yes : (t : ℕ) (x : Trans) → t < x.at → is_after t x ≡ true
after_yes t x h = grind (arith, nat_tests)

after_no : (t : ℕ) (x : Trans) → x.at ≤ t → is_after t x ≡ false
after_no t x h = grind (arith, nat_tests)

at_no : (t : ℕ) (x : Trans) → t < x.at → is_at t x ≡ false
at_no t x h = grind (arith, nat_tests)

pub none_due : (t : ℕ) (q : List Trans) → All (λ (y : Trans). t < y.at) q → due t q ≡ None
none_due t [] later = refl
none_due t (x ∷ q) later = rw (at_no t x (All-head (λ (y : Trans). t < y.at) x q later)) (none_due t q (All-tail (λ (y : Trans). t < y.at) x q later))

pub all_stay : (t : ℕ) (q : List Trans) → All (λ (y : Trans). t < y.at) q → advanced t q ≡ q
all_stay t [] later = refl
all_stay t (x ∷ q) later = rw (after_yes t x (All-head (λ (y : Trans). t < y.at) x q later), all_stay t q (All-tail (λ (y : Trans). t < y.at) x q later)) refl

pub later_ones : (t : ℕ) (q : List Trans) → All (λ (y : Trans). t < y.at) (advanced t q)
later_ones t [] = All-nil (λ (y : Trans). t < y.at)
later_ones t (x ∷ q) =
    elim (cases_lt t x.at) [
      | inl h ↦ rw (after_yes t x h) (All-cons (λ (y : Trans). t < y.at) x (advanced t q) h (later_ones t q))
      | inr h ↦ rw (after_no t x h) (later_ones t q)
    ]

pub not_first : (t : ℕ) (q : List Trans) → stands_first t q ≡ false → All (λ (y : Trans). t ≤ y.at) q → IsRising q → All (λ (y : Trans). t < y.at) q
not_first t [] other late rising = All-nil (λ (y : Trans). t < y.at)
not_first t (x ∷ q) other late rising = all_after t (x ∷ q) x refl late (λ e. let hit : nat_eq x.at t ≡ true = eq_yes x.at t e in cc) rising

-- where none stands first, nothing changes
both : {P Q R : List Trans → Type 0} → ((q : List Trans) → P q → Q q → R q) → (queues : List (List Trans)) → All P queues → All Q queues → All R queues
both {R = R} f [] p q = All-nil R
both {P = P} {Q = Q} {R = R} f (x ∷ queues) p q = All-cons R x queues (f x (All-head P x queues p) (All-head Q x queues q)) (both f queues (All-tail P x queues p) (All-tail Q x queues q))

abbrev pub IsLater : ℕ → List Trans → Type 0
IsLater t q = All (λ (y : Trans). t < y.at) q

all_later : (t : ℕ) (queues : List (List Trans)) → All (λ (q : List Trans). stands_first t q ≡ false) queues → AreLate t queues → AreRising queues → All (IsLater t) queues
all_later t [] others late rising = All-nil (IsLater t)
all_later t (q ∷ queues) others late rising =
    All-cons (IsLater t) q queues
    (not_first t q (All-head (λ (x : List Trans). stands_first t x ≡ false) q queues others) (All-head (λ (x : List Trans). All (λ (y : Trans). t ≤ y.at) x) q queues late) (All-head (λ (x : List Trans). IsRising x) q queues rising))
    (all_later t queues (All-tail (λ (x : List Trans). stands_first t x ≡ false) q queues others) (All-tail (λ (x : List Trans). All (λ (y : Trans). t ≤ y.at) x) q queues late) (All-tail (λ (x : List Trans). IsRising x) q queues rising))

pub none_advances : (t : ℕ) (queues : List (List Trans)) → All (IsLater t) queues → map (advanced t) queues ≡ queues
none_advances t [] all = refl
none_advances t (q ∷ queues) all = rw (all_stay t q (All-head (IsLater t) q queues all), none_advances t queues (All-tail (IsLater t) q queues all)) refl

-- ---- the first one that is due

one_missing : (p : List Trans → Bool) (x : List Trans) (queues : List (List Trans)) (b : Bool) → p x ≡ b → length (x ∷ queues) ≤ cond (not b) (1 + position_or_len p queues) 0
    → (p x ≡ false) × (length queues ≤ position_or_len p queues)
one_missing p x queues true e h = absurd (omega arith)
one_missing p x queues false e h = (e, omega arith)

missing : (p : List Trans → Bool) (queues : List (List Trans)) → length queues ≤ position_or_len p queues → All (λ (q : List Trans). p q ≡ false) queues
missing p [] h = All-nil (λ (q : List Trans). p q ≡ false)
missing p (x ∷ queues) h =
    let here = one_missing p x queues (p x) refl h in
    All-cons (λ (q : List Trans). p q ≡ false) x queues here.0 (missing p queues here.1)

nothing_found : (n m : ℕ) → cond (nat_lt n m) (Some n) None ≡ None → m ≤ n
nothing_found n m e =
    elim (cases_lt n m) [
      | inl h ↦ absurd (let hit : nat_lt n m ≡ true = grind (arith, nat_tests) in let f = rw hit at e in cc)
      | inr h ↦ h
    ]

pub all_waited : (t : ℕ) (queues : List (List Trans)) → position (stands_first t) queues ≡ None → AreLate t queues → AreRising queues → All (IsLater t) queues
all_waited t queues none late rising = all_later t queues (missing (stands_first t) queues (nothing_found (position_or_len (stands_first t) queues) (length queues) none)) late rising

pub time_found : (t : ℕ) (time : Option ℕ) → is_time time t ≡ true → time ≡ Some t
time_found t None e = cc
time_found t (Some u) e = elim (cases_eq u t) [ inl same ↦ ap Some same | inr other ↦ absurd (let miss : nat_eq u t ≡ false = eq_no u t other in cc) ]

-- ---- a measure: how many are due

abbrev pub how_many : ℕ → List (List Trans) → ℕ
how_many t [] = 0
how_many t (q ∷ queues) = cond (stands_first t q) 1 0 + how_many t queues

pub one_fewer : (t k : ℕ) (queues : List (List Trans)) (q : List Trans) → k < length queues → stands_first t (get_or queues k []) ≡ true → stands_first t q ≡ false → how_many t (set queues k q) < how_many t queues
one_fewer t k [] q h hit miss = absurd (omega arith)
one_fewer t zero (x ∷ queues) q h hit miss = rw (hit, miss) (omega arith)
one_fewer t (suc k) (x ∷ queues) q h hit miss =
    let less : how_many t (set queues k q) < how_many t queues = one_fewer t k queues q (omega arith) hit miss in
    omega arith
