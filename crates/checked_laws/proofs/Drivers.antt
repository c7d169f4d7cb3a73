-- Where no signal is driven twice, the drivers of all processes differ.
use Rattle.std.proofs.Common.{◌≡◌, ◌≤◌, ◌<◌, ℕ, zero, suc, ◌+◌, nat_eq, nat_lt, Bool, true, false, cond, ◌||◌, if◌then◌else◌, List, [], ◌∷◌, ◌++◌, length, get_or, Option, Some, None, refl, sym, ap, ◌∙◌, subst, arith}
use Rattle.std.specs.Prelude.{◌≢◌}
use Rattle.std.specs.List.{find, list_any, range_with_len, flat_map, All, AllPairs}
use Rattle.std.proofs.lemmas.Bool.Decides.{nat_tests}
use Rattle.std.proofs.lemmas.List.Elements.{All-nil, All-cons, All-head, All-tail, All-append, All-weaker}
use Rattle.std.proofs.lemmas.List.Kept.{AllPairs-cons}
use Rattle.flat_design.specs.declared.objects.Objects.{Objects}
use Rattle.flat_design.specs.declared.objects.Process.{Process}
use Rattle.unit_meaning.specs.Drivers.{driver_count, doubly_driven}
use Rattle.checked_laws.specs.Checked.{HasDrivers, DriversOnce}

-- ---- numbers that aren't found

some_is_none : {A B : Type 0} (x : A) → Some x ≡ None → B
some_is_none x e = cc

not_later : (test : ℕ → Bool) (a i : ℕ) → (a + 1 ≤ i → test i ≡ false) → test a ≡ false → a ≤ i → (b : Bool) → nat_eq a i ≡ b → test i ≡ false
not_later test a i next is low true e = let same : a ≡ i = grind (arith, nat_tests) in subst (λ k. test k ≡ false) same is
not_later test a i next is low false e = let above : a + 1 ≤ i = grind (arith, nat_tests) in next above

not_here : (test : ℕ → Bool) (a i : ℕ) (rest : Option ℕ) → (rest ≡ None → a + 1 ≤ i → test i ≡ false) → a ≤ i → (b : Bool) → test a ≡ b → cond b (Some a) rest ≡ None → test i ≡ false
not_here test a i rest next low true is f = some_is_none a f
not_here test a i rest next low false is f = not_later test a i (next f) is low (nat_eq a i) refl

not_found : (test : ℕ → Bool) (n a i : ℕ) → find test (range_with_len a n) ≡ None → a ≤ i → i < a + n → test i ≡ false
not_found test zero a i e low high = absurd (omega arith)
not_found test (suc n) a i e low high =
    not_here test a i (find test (range_with_len (a + 1) n)) (λ f above. not_found test n (a + 1) i f above (omega arith)) low (test a) refl e

-- ---- members

itself : (x : ℕ) (b : Bool) → (nat_eq x x || b) ≡ true
itself x b = grind (arith, nat_tests)

one_more : (a b : Bool) → b ≡ true → (a || b) ≡ true
one_more true b h = refl
one_more false b h = h

abbrev Among : List ℕ → ℕ → Type 0
Among xs x = list_any (nat_eq x) xs ≡ true

each_among : (xs : List ℕ) → All (Among xs) xs
each_among [] = All-nil (Among [])
each_among (x ∷ xs) =
    All-cons (Among (x ∷ xs)) x xs (itself x (list_any (nat_eq x) xs))
    (All-weaker (Among xs) (Among (x ∷ xs)) (λ y h. one_more (nat_eq y x) (list_any (nat_eq y) xs) h) xs (each_among xs))

abbrev Differs : ℕ → ℕ → Type 0
Differs x y = x ≢ y

unequal : (x y : ℕ) → nat_eq x y ≡ false → x ≢ y
unequal x y h e = absurd (grind (arith, nat_tests))

both_false : (a b : Bool) → (a || b) ≡ false → (a ≡ false) × (b ≡ false)
both_false true b h = absurd cc
both_false false b h = (refl, h)

absent : (x : ℕ) (xs : List ℕ) → list_any (nat_eq x) xs ≡ false → All (Differs x) xs
absent x [] h = All-nil (Differs x)
absent x (y ∷ ys) h =
    let p = both_false (nat_eq x y) (list_any (nat_eq x) ys) h in
    All-cons (Differs x) y ys (unequal x y p.0) (absent x ys p.1)

-- ---- drivers

abbrev drivers_of : List Process → List ℕ
drivers_of ps = flat_map (λ (p : Process). p.drivers) ps

not_driven : (x : ℕ) (p : Process) (more : List Process) → (driver_count more x ≡ 0 → All (Differs x) (drivers_of more)) → (b : Bool) → list_any (nat_eq x) p.drivers ≡ b
    → (if b then suc (driver_count more x) else driver_count more x) ≡ 0 → All (Differs x) (drivers_of (p ∷ more))
not_driven x p more rest true is e = absurd (omega arith)
not_driven x p more rest false is e = All-append (Differs x) p.drivers (drivers_of more) (absent x p.drivers is) (rest e)

none_drives : (x : ℕ) (ps : List Process) → driver_count ps x ≡ 0 → All (Differs x) (drivers_of ps)
none_drives x [] h = All-nil (Differs x)
none_drives x (p ∷ more) h = not_driven x p more (none_drives x more) (list_any (nat_eq x) p.drivers) refl h

append_differs : (xs ys : List ℕ) → AllPairs (λ a b. a ≢ b) xs → AllPairs (λ a b. a ≢ b) ys → All (λ x. All (Differs x) ys) xs → AllPairs (λ a b. a ≢ b) (xs ++ ys)
append_differs [] ys h k apart = k
append_differs (x ∷ xs) ys h k apart =
    AllPairs-cons (λ a b. a ≢ b) x (xs ++ ys)
    (All-append (Differs x) xs ys (λ j d lt. h 0 (suc j) d (omega arith) (omega arith)) (All-head (λ z. All (Differs z) ys) x xs apart))
    (append_differs xs ys (λ i j d less lt. h (suc i) (suc j) d (omega arith) (omega arith)) k (All-tail (λ z. All (Differs z) ys) x xs apart))

module _ (objects : Objects) where
  abbrev AtMostOne : List Process → Type 0
  AtMostOne ps = (i : ℕ) → i < length objects.signals → driver_count ps i ≤ 1

  fewer : (p : Process) (more : List Process) → AtMostOne (p ∷ more) → AtMostOne more
  fewer p more h i lt = go (list_any (nat_eq i) p.drivers) (h i lt)
    where
      go : (b : Bool) → (if b then suc (driver_count more i) else driver_count more i) ≤ 1 → driver_count more i ≤ 1
      go true k = omega arith
      go false k = k

  no_other : (p : Process) (more : List Process) → AtMostOne (p ∷ more) → (x : ℕ) → x < length objects.signals → list_any (nat_eq x) p.drivers ≡ true → driver_count more x ≡ 0
  no_other p more h x lt is =
      let k : (if list_any (nat_eq x) p.drivers then suc (driver_count more x) else driver_count more x) ≤ 1 = h x lt in
      let l : suc (driver_count more x) ≤ 1 = subst (λ b. (if b then suc (driver_count more x) else driver_count more x) ≤ 1) is k in
      omega arith

  once : (ps : List Process) → AtMostOne ps → All (HasDrivers objects) ps → AllPairs (λ a b. a ≢ b) (drivers_of ps)
  once [] h k = λ i j d less lt. absurd (omega arith)
  once (p ∷ more) h k =
      let own = All-head (HasDrivers objects) p more k in
      append_differs p.drivers (drivers_of more) own.once (once more (fewer p more h) (All-tail (HasDrivers objects) p more k))
      (λ j d lt.
      none_drives (get_or p.drivers j d) more
      (no_other p more h (get_or p.drivers j d) (own.signals j d lt) (each_among p.drivers j d lt)))

  at_most_one : (n : ℕ) → nat_lt 1 n ≡ false → n ≤ 1
  at_most_one n h = grind (arith, nat_tests)

  pub drivers_once : doubly_driven objects ≡ None → All (HasDrivers objects) objects.processes → DriversOnce objects
  drivers_once e h =
      once objects.processes
      (λ i lt.
      at_most_one (driver_count objects.processes i)
      (not_found (λ (j : ℕ). nat_lt 1 (driver_count objects.processes j)) (length objects.signals) 0 i e (omega arith) (omega arith)))
      h
