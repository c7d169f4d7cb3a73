-- Each signal that a process of a design drives is one of its signals.
use Rattle.std.proofs.Common.{◌≡◌, ◌<◌, ◌≤◌, ◌+◌, ℕ, zero, suc, Bool, true, false, List, [], ◌∷◌, ◌||◌, length, get_or, Some, refl, ap, ◌∙◌, arith}
use Rattle.std.specs.Prelude.{slice_get, nat_eq, filter, cond, replicate}
use Rattle.std.specs.List.{All, list_any, range_with_len}
use Rattle.std.proofs.lemmas.Bool.Decides.{nat_tests}
use Rattle.std.proofs.lemmas.List.{length-replicate}
use Rattle.std.proofs.lemmas.List.FromFn.{length-range_with_len}
use Rattle.flat_design.specs.declared.objects.Process.{Process}
use Rattle.flat_design.specs.declared.objects.Objects.{Objects}
use Rattle.design_rules.specs.Design.{IsDesign, IsProcess}
use Rattle.cycle_meaning.specs.World.{drives, driven_of}
use Rattle.driven_signals.specs.Driven.{flag}

same_number : (i : ℕ) → nat_eq i i ≡ true
same_number i = let e : i ≡ i = refl in grind (arith, nat_tests)

or_right : (a b : Bool) → b ≡ true → (a || b) ≡ true
or_right true b h = refl
or_right false b h = h

member : (xs : List ℕ) (j e : ℕ) → j < length xs → list_any (nat_eq (get_or xs j e)) xs ≡ true
member [] j e h = absurd (omega arith)
member (x ∷ xs) zero e h = rw (same_number x) refl
member (x ∷ xs) (suc j) e h = or_right (nat_eq (get_or xs j e) x) (list_any (nat_eq (get_or xs j e)) xs) (member xs j e (omega arith))

inside_of : {A : Type 0} (xs : List A) (i : ℕ) (x : A) → slice_get xs i ≡ Some x → i < length xs
inside_of [] i x h = absurd (cc)
inside_of (a ∷ xs) zero x h = omega arith
inside_of (a ∷ xs) (suc i) x h = let less = inside_of xs i x h in omega arith

each_known : (objects : Objects) → IsDesign objects → (i : ℕ) → All (λ (p : Process). drives i p ≡ true → i < length objects.signals) objects.processes
each_known objects design i = λ k d h e.
    let p : Process = get_or objects.processes k d in
    let q : IsProcess objects p = design.processes k d h in
    let used = q.drivers i e in
    let allowed = q.statements used.0 used.1 used.2 _ used.6 in
    inside_of objects.signals i allowed.signal allowed.signal_is

pub drivers_known : (objects : Objects) → IsDesign objects → All (λ (p : Process). All (λ (i : ℕ). i < length objects.signals) p.drivers) objects.processes
drivers_known objects design = λ k d h j e g.
    each_known objects design (get_or (get_or objects.processes k d).drivers j e) k d h (member (get_or objects.processes k d).drivers j e g)

some_known : (i n : ℕ) (ps : List Process) → All (λ (p : Process). drives i p ≡ true → i < n) ps → list_any (drives i) ps ≡ true → i < n
some_known i n [] all h = absurd (cc)
some_known i n (p ∷ ps) all h = at (drives i p) (all 0 p (omega arith)) h (some_known i n ps (λ k d g. all (suc k) d (omega arith)))
  where
    at : (b : Bool) → (b ≡ true → i < n) → (b || list_any (drives i) ps) ≡ true → (list_any (drives i) ps ≡ true → i < n) → i < n
    at true here e more = here refl
    at false here e more = more e

pub known : (objects : Objects) → IsDesign objects → (i : ℕ) → list_any (drives i) objects.processes ≡ true → i < length objects.signals
known objects design i h = some_known i (length objects.signals) objects.processes (each_known objects design i) h

-- ---- filters

agree : (p q : ℕ → Bool) (a n : ℕ) → ((i : ℕ) → a ≤ i → i < a + n → p i ≡ q i) → filter p (range_with_len a n) ≡ filter q (range_with_len a n)
agree p q a zero h = refl
agree p q a (suc n) h =
    let here : p a ≡ q a = h a (omega arith) (omega arith) in
    let more : filter p (range_with_len (a + 1) n) ≡ filter q (range_with_len (a + 1) n) = agree p q (a + 1) n (λ i low high. h i (omega arith) (omega arith)) in
    rw (here, more) refl

all_blank : (n i : ℕ) → get_or (replicate n false) i false ≡ false
all_blank zero i = refl
all_blank (suc n) zero = refl
all_blank (suc n) (suc i) = all_blank n i

-- the marks that began as FALSE
pub marks_are : (objects : Objects) (processes : List Process) (before after : List Bool) → processes ≡ objects.processes → before ≡ replicate (length objects.signals) false → length after ≡ length before
    → ((i : ℕ) → i < length before → get_or after i false ≡ (get_or before i false || list_any (drives i) processes))
    → filter (flag after) (range_with_len 0 (length after)) ≡ driven_of objects
marks_are objects processes before after same e l marks =
    let count : length before ≡ length objects.signals = ap length e ∙ length-replicate (length objects.signals) false in
    let long : length after ≡ length objects.signals = l ∙ count in
    let blank : (i : ℕ) → get_or before i false ≡ false = λ i. rw e (all_blank (length objects.signals) i) in
    rw long
    (agree (flag after) (λ i. list_any (drives i) objects.processes) 0 (length objects.signals)
    (λ i low high.
    marks i (omega arith) ∙ ap (λ (b : Bool). b || list_any (drives i) processes) (blank i) ∙ ap (λ (ps : List Process). list_any (drives i) ps) same))

at_most : (p : ℕ → Bool) (xs : List ℕ) → length (filter p xs) ≤ length xs
at_most p [] = omega arith
at_most p (x ∷ xs) = at (p x) (at_most p xs)
  where
    at : (b : Bool) → length (filter p xs) ≤ length xs → length (cond b (x ∷ filter p xs) (filter p xs)) ≤ length (x ∷ xs)
    at true h = omega arith
    at false h = omega arith

pub driven_few : (objects : Objects) → IsDesign objects → length (driven_of objects) < 4294967296
driven_few objects design =
    omega (arith, at_most (λ i. list_any (drives i) objects.processes) (range_with_len 0 (length objects.signals)), length-range_with_len 0 (length objects.signals), design.numbers.signals)
