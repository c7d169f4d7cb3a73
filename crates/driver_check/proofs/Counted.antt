-- The counts of drivers tell which signal two processes assign first.
use Rattle.std.proofs.Common.{◌≡◌, ℕ, zero, suc, ◌+◌, ◌<◌, ◌≤◌, nat_eq, nat_lt, Bool, true, false, cond, ◌||◌, if◌then◌else◌, List, [], ◌∷◌, length, get_or, set, replicate, Some, refl, sym, ap, ◌∙◌, subst, arith}
use Rattle.std.specs.List.{fold, find, list_any, position_from, range_with_len}
use Rattle.std.proofs.Math.Dec.{eqb-suc-zero, eqb-zero-suc}
use Rattle.std.proofs.lemmas.Bool.Decides.{nat_tests}
use Rattle.std.proofs.lemmas.List.{length-replicate, get_or-replicate}
use Rattle.flat_design.specs.declared.objects.Process.{Process}
use Rattle.flat_design.specs.declared.objects.Objects.{Objects}
use Rattle.unit_meaning.specs.Drivers.{driver_count, doubly_driven}
use Rattle.driver_check.specs.declared.count.Drivers.{Drivers}
use Rattle.driver_check.specs.declared.count.Drivers.TheVariants.{Zero, One, Several}
use Rattle.driver_check.specs.Counts.{first, second, is_several, changed, with_process}

-- ---- one count changed

pub changed_there : (f : Drivers → Drivers) (cs : List Drivers) (i : ℕ) (d : Drivers) → i < length cs → set cs i (f (get_or cs i d)) ≡ changed f cs i
changed_there f [] i d h = absurd (omega arith)
changed_there f (c ∷ cs) zero d h = refl
changed_there f (c ∷ cs) (suc i) d h = ap (λ xs. c ∷ xs) (changed_there f cs i d (omega arith))

pub changed_nowhere : (f : Drivers → Drivers) (cs : List Drivers) (i : ℕ) → length cs ≤ i → changed f cs i ≡ cs
changed_nowhere f [] i h = refl
changed_nowhere f (c ∷ cs) zero h = absurd (omega arith)
changed_nowhere f (c ∷ cs) (suc i) h = ap (λ xs. c ∷ xs) (changed_nowhere f cs i (omega arith))

length_changed : (f : Drivers → Drivers) (cs : List Drivers) (i : ℕ) → length (changed f cs i) ≡ length cs
length_changed f [] i = refl
length_changed f (c ∷ cs) zero = refl
length_changed f (c ∷ cs) (suc i) = ap suc (length_changed f cs i)

abbrev changed_if : Bool → (Drivers → Drivers) → Drivers → Drivers
changed_if b f c = if b then f c else c

same_behind : (i j : ℕ) → nat_eq (suc i) (suc j) ≡ nat_eq i j
same_behind i j = grind (arith, nat_tests)

at_changed : (f : Drivers → Drivers) (cs : List Drivers) (i j : ℕ) (d : Drivers) → i < length cs → get_or (changed f cs j) i d ≡ changed_if (nat_eq i j) f (get_or cs i d)
at_changed f [] i j d h = absurd (omega arith)
at_changed f (c ∷ cs) zero zero d h = refl
at_changed f (c ∷ cs) zero (suc j) d h = sym (ap (λ b. changed_if b f c) (eqb-zero-suc j))
at_changed f (c ∷ cs) (suc i) zero d h = sym (ap (λ b. changed_if b f (get_or cs i d)) (eqb-suc-zero i))
at_changed f (c ∷ cs) (suc i) (suc j) d h = at_changed f cs i j d (omega arith) ∙ ap (λ b. changed_if b f (get_or cs i d)) (sym (same_behind i j))

-- ---- several of them

length_all : (f : Drivers → Drivers) (cs : List Drivers) (js : List ℕ) → length (fold (changed f) cs js) ≡ length cs
length_all f cs [] = refl
length_all f cs (j ∷ js) = length_all f (changed f cs j) js ∙ length_changed f cs j

twice : (f : Drivers → Drivers) (same : (c : Drivers) → f (f c) ≡ f c) (a b : Bool) (c : Drivers) → changed_if b f (changed_if a f c) ≡ changed_if (a || b) f c
twice f same true true c = same c
twice f same true false c = refl
twice f same false b c = refl

at_all : (f : Drivers → Drivers) (same : (c : Drivers) → f (f c) ≡ f c) (cs : List Drivers) (i : ℕ) (js : List ℕ) (d : Drivers) → i < length cs
    → get_or (fold (changed f) cs js) i d ≡ changed_if (list_any (nat_eq i) js) f (get_or cs i d)
at_all f same cs i [] d h = refl
at_all f same cs i (j ∷ js) d h =
    at_all f same (changed f cs j) i js d (subst (λ n. i < n) (sym (length_changed f cs j)) h)
    ∙ (ap (changed_if (list_any (nat_eq i) js) f) (at_changed f cs i j d h) ∙ twice f same (nat_eq i j) (list_any (nat_eq i) js) (get_or cs i d))

first_same : (c : Drivers) → first (first c) ≡ first c
first_same Zero = refl
first_same One = refl
first_same Several = refl

second_same : (c : Drivers) → second (second c) ≡ second c
second_same Zero = refl
second_same One = refl
second_same Several = refl

-- ---- processes

length_with : (cs : List Drivers) (p : Process) → length (with_process cs p) ≡ length cs
length_with cs p = length_all first (fold (changed second) cs p.drivers) p.drivers ∙ length_all second cs p.drivers

at_with : (cs : List Drivers) (i : ℕ) (p : Process) (d : Drivers) → i < length cs
    → get_or (with_process cs p) i d ≡ changed_if (list_any (nat_eq i) p.drivers) first (changed_if (list_any (nat_eq i) p.drivers) second (get_or cs i d))
at_with cs i p d h =
    at_all first first_same (fold (changed second) cs p.drivers) i p.drivers d (subst (λ n. i < n) (sym (length_all second cs p.drivers)) h)
    ∙ ap (changed_if (list_any (nat_eq i) p.drivers) first) (at_all second second_same cs i p.drivers d h)

abbrev number : Drivers → ℕ
number Zero = 0
number One = 1
number Several = 2

one_more : (b : Bool) (c : Drivers) (n : ℕ) → nat_lt 1 (number (changed_if b first (changed_if b second c)) + n) ≡ nat_lt 1 (number c + (if b then suc n else n))
one_more false c n = refl
one_more true Zero n = grind (arith, nat_tests)
one_more true One n = grind (arith, nat_tests)
one_more true Several n = grind (arith, nat_tests)

several_is : (c : Drivers) → is_several c ≡ nat_lt 1 (number c + 0)
several_is Zero = refl
several_is One = refl
several_is Several = refl

several_at : (cs : List Drivers) (i : ℕ) (ps : List Process) (d : Drivers) → i < length cs → is_several (get_or (fold with_process cs ps) i d) ≡ nat_lt 1 (number (get_or cs i d) + driver_count ps i)
several_at cs i [] d h = several_is (get_or cs i d)
several_at cs i (p ∷ ps) d h =
    several_at (with_process cs p) i ps d (subst (λ n. i < n) (sym (length_with cs p)) h)
    ∙ (ap (λ c. nat_lt 1 (number c + driver_count ps i)) (at_with cs i p d h) ∙ one_more (list_any (nat_eq i) p.drivers) (get_or cs i d) (driver_count ps i))

length_counts : (cs : List Drivers) (ps : List Process) → length (fold with_process cs ps) ≡ length cs
length_counts cs [] = refl
length_counts cs (p ∷ ps) = length_counts (with_process cs p) ps ∙ length_with cs p

-- ---- the first signal

found_from : (test : ℕ → Bool) (a : ℕ) (cs : List Drivers) (d : Drivers) → ((i : ℕ) → i < length cs → is_several (get_or cs i d) ≡ test (a + i)) → position_from is_several a cs ≡ find test (range_with_len a (length cs))
found_from test a [] d h = refl
found_from test a (c ∷ cs) d h =
    ap (λ b. cond b (Some a) (position_from is_several (a + 1) cs)) (h 0 (omega arith) ∙ ap test (omega arith))
    ∙ ap (λ o. cond (test a) (Some a) o) (found_from test (a + 1) cs d (λ i k. h (suc i) (omega arith) ∙ ap test (omega arith)))

abbrev is_double : Objects → ℕ → Bool
is_double o i = nat_lt 1 (driver_count o.processes i)

abbrev pub none : Objects → List Drivers
none o = replicate (length o.signals) Zero

none_before : (o : Objects) (i : ℕ) → i < length (none o) → is_several (get_or (fold with_process (none o) o.processes) i Zero) ≡ is_double o i
none_before o i h =
    several_at (none o) i o.processes Zero h
    ∙ ap (λ c. nat_lt 1 (number c + driver_count o.processes i)) (get_or-replicate (length o.signals) i Zero Zero (subst (λ n. i < n) (length-replicate (length o.signals) Zero) h))
    ∙ ap (nat_lt 1) (omega arith)

length_none : (o : Objects) → length (fold with_process (none o) o.processes) ≡ length (none o)
length_none o = length_counts (none o) o.processes

pub counted : (o : Objects) → position_from is_several 0 (fold with_process (none o) o.processes) ≡ doubly_driven o
counted o =
    found_from (is_double o) 0 (fold with_process (none o) o.processes) Zero
    (λ i h. none_before o i (subst (λ n. i < n) (length_none o) h) ∙ ap (is_double o) (omega arith))
    ∙ ap (λ n. find (is_double o) (range_with_len 0 n)) (length_none o ∙ length-replicate (length o.signals) Zero)
