-- Which old transactions are marked, part by part.
use Rattle.std.proofs.Common.{◌≡◌, ℕ, zero, suc, ◌+◌, ◌-◌, ◌<◌, ◌≤◌, Bool, true, false, ◌||◌, ◌&&◌, List, [], ◌∷◌, ◌++◌, length, take, drop, get_or, inl, inr, refl, sym, ap, subst, ◌∙◌, arith}
use Rattle.std.specs.Prelude.{nat_lt, filter}
use Rattle.std.specs.List.{All}
use Rattle.std.proofs.Math.Nat.{eq-zero-or-pos}
use Rattle.std.proofs.lemmas.List.{take-append-drop, take-take, drop-drop, get_or-take, get_or-drop, get_or_default, length-take, length-drop}
use Rattle.std.proofs.lemmas.List.Elements.{All-head, All-tail, All-nil, All-cons, All-more, All-take, All-weaker}
use Rattle.std.proofs.lemmas.Bool.{cases_lt}
use Rattle.fix_core.specs.Laws.{at_place}
use Rattle.std.proofs.lemmas.Bool.Decides.{nat_tests}
use Rattle.ams_value.specs.Values.{equals}
use Rattle.ams_value.specs.Laws.{equals_itself, values_decide}
use Rattle.step_data.specs.declared.trans.Trans.{Trans}
use Rattle.waveform.specs.declared.trans.DelayKind.{DelayKind}
use Rattle.waveform.specs.declared.trans.DelayKind.TheVariants.{Inertial}
use Rattle.waveform.specs.Projected.{IsRising, is_before, next_value, is_marked, marked, kept}

-- the times before which a transaction is early
abbrev pub is_early : ℕ → Trans → Trans → Bool
is_early reject first x = nat_lt (x.at + reject) first.at

or_true : (b : Bool) → (b || true) ≡ true
or_true true = refl
or_true false = refl

and_false : (b : Bool) → (b && false) ≡ false
and_false true = refl
and_false false = refl

-- a run of old transactions of the first new one's value
next_of : (first : Trans) (later : List Trans) → All (λ x. x.value ≡ first.value) later → next_value first later ≡ first.value
next_of first [] all = refl
next_of first (y ∷ later) all = All-head (λ x. x.value ≡ first.value) y later all

run_marked : (reject : ℕ) (first : Trans) (run : List Trans) → All (λ x. x.value ≡ first.value) run → is_marked reject first run ≡ true
unfolding is_marked
run_marked reject first [] all = refl
run_marked reject first (x ∷ later) all =
    let more : is_marked reject first later ≡ true = run_marked reject first later (All-tail (λ x. x.value ≡ first.value) x later all) in
    let same : equals x.value (next_value first later) ≡ true =
    rw (All-head (λ x. x.value ≡ first.value) x later all, next_of first later (All-tail (λ x. x.value ≡ first.value) x later all)) (equals_itself first.value) in
    rw (more, same) (or_true (is_early reject first x))

pub run_kept : (reject : ℕ) (first : Trans) (run : List Trans) → All (λ x. x.value ≡ first.value) run → marked reject first run ≡ run
unfolding marked
run_kept reject first [] all = refl
run_kept reject first (x ∷ later) all =
    rw (run_marked reject first (x ∷ later) all, run_kept reject first later (All-tail (λ x. x.value ≡ first.value) x later all)) refl

-- the last one before the run has another value
stop_unmarked : (reject : ℕ) (first z : Trans) (run : List Trans) → All (λ x. x.value ≡ first.value) run → is_early reject first z ≡ false → equals z.value first.value ≡ false → is_marked reject first (z ∷ run) ≡ false
unfolding is_marked
stop_unmarked reject first z run all late other = rw (next_of first run all, late, other) (and_false (is_marked reject first run))

-- those that are neither early nor before a marked one
gap_unmarked : (reject : ℕ) (first : Trans) (gap rest : List Trans) → All (λ x. is_early reject first x ≡ false) gap → is_marked reject first rest ≡ false → is_marked reject first (gap ++ rest) ≡ false
unfolding is_marked
gap_unmarked reject first [] rest all h = h
gap_unmarked reject first (x ∷ gap) rest all h =
    let more : is_marked reject first (gap ++ rest) ≡ false = gap_unmarked reject first gap rest (All-tail (λ x. is_early reject first x ≡ false) x gap all) h in
    rw (All-head (λ x. is_early reject first x ≡ false) x gap all, more) refl

gap_gone : (reject : ℕ) (first : Trans) (gap rest : List Trans) → All (λ x. is_early reject first x ≡ false) gap → is_marked reject first rest ≡ false → marked reject first (gap ++ rest) ≡ marked reject first rest
unfolding marked
gap_gone reject first [] rest all h = refl
gap_gone reject first (x ∷ gap) rest all h =
    let here : is_marked reject first (x ∷ (gap ++ rest)) ≡ false = gap_unmarked reject first (x ∷ gap) rest all h in
    rw here (gap_gone reject first gap rest (All-tail (λ x. is_early reject first x ≡ false) x gap all) h)

stop_gone : (reject : ℕ) (first z : Trans) (run : List Trans) → All (λ x. x.value ≡ first.value) run → is_early reject first z ≡ false → equals z.value first.value ≡ false → marked reject first (z ∷ run) ≡ run
unfolding marked
stop_gone reject first z run all late other = rw (stop_unmarked reject first z run all late other) (run_kept reject first run all)

-- the early ones
early_marked : (reject : ℕ) (first x : Trans) (later : List Trans) → is_early reject first x ≡ true → is_marked reject first (x ∷ later) ≡ true
unfolding is_marked
early_marked reject first x later h = rw h refl

early_kept : (reject : ℕ) (first : Trans) (early rest : List Trans) → All (λ x. is_early reject first x ≡ true) early → marked reject first (early ++ rest) ≡ early ++ marked reject first rest
unfolding marked
early_kept reject first [] rest all = refl
early_kept reject first (x ∷ early) rest all =
    rw (early_marked reject first x (early ++ rest) (All-head (λ x. is_early reject first x ≡ true) x early all), early_kept reject first early rest (All-tail (λ x. is_early reject first x ≡ true) x early all)) refl

-- all of it, by the parts of the list
parts_kept : (reject : ℕ) (first : Trans) (early gap : List Trans) (z : Trans) (run : List Trans) → All (λ x. is_early reject first x ≡ true) early → All (λ x. is_early reject first x ≡ false) gap → is_early reject first z ≡ false → equals z.value first.value ≡ false → All (λ x. x.value ≡ first.value) run → marked reject first (early ++ (gap ++ (z ∷ run))) ≡ early ++ run
parts_kept reject first early gap z run e g late other all =
    early_kept reject first early (gap ++ (z ∷ run)) e ∙ ap (λ (xs : List Trans). early ++ xs) (gap_gone reject first gap (z ∷ run) g (stop_unmarked reject first z run all late other) ∙ stop_gone reject first z run all late other)

no_gap_kept : (reject : ℕ) (first : Trans) (early run : List Trans) → All (λ x. is_early reject first x ≡ true) early → All (λ x. x.value ≡ first.value) run → marked reject first (early ++ run) ≡ early ++ run
no_gap_kept reject first early run e all = early_kept reject first early run e ∙ ap (λ (xs : List Trans). early ++ xs) (run_kept reject first run all)

-- ---- places in a list whose times rise

-- from a place on, by one element more
pub all_from : (P : Trans → Type 0) (xs : List Trans) (i : ℕ) (x : Trans) → i < length xs → x ≡ get_or xs i x → P x → All P (drop (i + 1) xs) → All P (drop i xs)
all_from P xs i x h e p all = rw (at_place xs i x h e) (All-cons P x (drop (i + 1) xs) p all)

-- all before a place are earlier than what stands there
before_place : (xs : List Trans) (i : ℕ) (x : Trans) (t : ℕ) → i < length xs → x ≡ get_or xs i x → x.at < t → IsRising xs → All (λ y. y.at < t) (take (i + 1) xs)
before_place xs i x t h e lt rising = λ k d hk.
    let short : k < i + 1 = omega (arith, length-take (i + 1) xs) in
    let read : get_or (take (i + 1) xs) k d ≡ get_or xs k d = get_or-take (i + 1) xs k d short in
    let place : get_or xs i d ≡ x = get_or_default xs i d x h ∙ sym e in
    rw read (elim (cases_lt k i) [ inl less ↦ let r = rising k i d less h in let p : (get_or xs i d).at < t = rw place lt in omega arith | inr more ↦ let same : k ≡ i = omega arith in rw (same, place) lt ])

filter_cut : (test : Trans → Bool) (xs : List Trans) (n : ℕ) → All (λ x. test x ≡ true) (take n xs) → All (λ x. test x ≡ false) (drop n xs) → filter test xs ≡ take n xs
filter_cut test [] zero pass fail = refl
filter_cut test [] (suc n) pass fail = refl
filter_cut test (x ∷ xs) zero pass fail =
    rw (All-head (λ x. test x ≡ false) x xs fail) (filter_cut test xs zero (All-nil (λ x. test x ≡ true)) (All-tail (λ x. test x ≡ false) x xs fail))
filter_cut test (x ∷ xs) (suc n) pass fail =
    rw (All-head (λ x. test x ≡ true) x (take n xs) pass, filter_cut test xs n (All-tail (λ x. test x ≡ true) x (take n xs) pass) fail) refl

pub is_before_yes : (t : ℕ) (x : Trans) → x.at < t → is_before t x ≡ true
is_before_yes t x h = grind (arith, nat_tests)

pub is_before_no : (t : ℕ) (x : Trans) → t ≤ x.at → is_before t x ≡ false
is_before_no t x h = grind (arith, nat_tests)

pub cut_before : (t : ℕ) (xs : List Trans) (n m : ℕ) (x : Trans) → m ≡ n + 1 → n < length xs → x ≡ get_or xs n x → x.at < t → All (λ y. t ≤ y.at) (drop m xs) → IsRising xs → filter (is_before t) xs ≡ take m xs
cut_before t xs n m x em h e lt later rising =
    filter_cut (is_before t) xs m
    (rw em (All-weaker (λ y. y.at < t) (λ y. is_before t y ≡ true) (is_before_yes t) (take (n + 1) xs) (before_place xs n x t h e lt rising)))
    (All-weaker (λ y. t ≤ y.at) (λ y. is_before t y ≡ false) (is_before_no t) (drop m xs) later)

pub cut_none : (t : ℕ) (xs : List Trans) → All (λ y. t ≤ y.at) xs → filter (is_before t) xs ≡ []
cut_none t xs later = filter_cut (is_before t) xs zero (All-nil (λ y. is_before t y ≡ true)) (All-weaker (λ y. t ≤ y.at) (λ y. is_before t y ≡ false) (is_before_no t) xs later)

-- the first ones up to a place, by one element more
pub all_upto : (P : Trans → Type 0) (xs : List Trans) (i : ℕ) (x : Trans) → i < length xs → x ≡ get_or xs i x → P x → All P (take i xs) → All P (take (i + 1) xs)
all_upto P xs i x h e p all = All-more P xs i x h all (subst P e p)

pub ruleset cuts = (all_from, all_upto, cut_before, cut_none)

-- ---- the parts by their places

early_yes : (reject limit : ℕ) (first x : Trans) → limit ≡ first.at - reject → x.at < limit → is_early reject first x ≡ true
early_yes reject limit first x e h = let lt : x.at + reject < first.at = omega arith in grind (arith, nat_tests)

early_no : (reject limit : ℕ) (first x : Trans) → limit ≡ first.at - reject → limit ≤ x.at → is_early reject first x ≡ false
early_no reject limit first x e h = let le : first.at ≤ x.at + reject = omega arith in grind (arith, nat_tests)

-- the parts of a list: those before a place, those up to another, the one that stands there, and the rest
cut : (xs : List Trans) (early n : ℕ) (z : Trans) → early ≤ n → n < length xs → z ≡ get_or xs n z → xs ≡ take early xs ++ (take (n - early) (drop early xs) ++ (z ∷ drop (n + 1) xs))
cut xs early n z le h e =
    let place : early + (n - early) ≡ n = omega arith in
    let rest : drop (n - early) (drop early xs) ≡ z ∷ drop (n + 1) xs = drop-drop (n - early) early xs ∙ ap (λ (k : ℕ). drop k xs) place ∙ at_place xs n z h e in
    sym (take-append-drop early xs) ∙ ap (λ (ys : List Trans). take early xs ++ ys) (sym (take-append-drop (n - early) (drop early xs)) ∙ ap (λ (ys : List Trans). take (n - early) (drop early xs) ++ ys) rest)

-- all from a place on are late where that one is
all_late : (xs : List Trans) (early limit : ℕ) → IsRising xs → ((d : Trans) → limit ≤ (get_or xs early d).at) → All (λ x. limit ≤ x.at) (drop early xs)
all_late xs early limit rising late = λ k d hk.
    let long : early + k < length xs = omega (arith, length-drop early xs) in
    let l : limit ≤ (get_or xs early d).at = late d in
    rw (get_or-drop early xs k d) (elim (eq-zero-or-pos k) [
      | inl none ↦ let same : early + k ≡ early = omega arith in rw same l
      | inr some ↦ let r = rising early (early + k) d (omega arith) long in omega arith
    ])

rising_take : (xs : List Trans) (n : ℕ) → IsRising xs → IsRising (take n xs)
rising_take xs n rising = λ i j d less h.
    let short : j < n = omega (arith, length-take n xs) in
    let inside : j < length xs = omega (arith, length-take n xs) in
    rw (get_or-take n xs i d (omega arith), get_or-take n xs j d short) (rising i j d less inside)

pub kept_parts : (reject limit : ℕ) (first : Trans) (old : List Trans) (early from : ℕ) → limit ≡ first.at - reject → early ≤ from → from ≤ length old → All (λ x. x.at < limit) (take early old) → ((d : Trans) → early < from → limit ≤ (get_or old early d).at) → All (λ x. x.value ≡ first.value) (drop from old) → ((d : Trans) → 0 < from → equals (get_or old (from - 1) d).value first.value ≡ false) → IsRising old → marked reject first old ≡ take early old ++ drop from old
kept_parts reject limit first old early from el le long soon late equal other rising =
    let soon' : All (λ x. is_early reject first x ≡ true) (take early old) = All-weaker (λ x. x.at < limit) (λ x. is_early reject first x ≡ true) (λ x h. early_yes reject limit first x el h) (take early old) soon in
    elim (cases_lt early from) [
      | inl gap ↦
          let n : ℕ = from - 1 in
          let z : Trans = get_or old n first in
          let place : n + 1 ≡ from = omega arith in
          let inside : n < length old = omega arith in
          let self : z ≡ get_or old n z = get_or_default old n first z inside in
          let before : early ≤ n = omega arith in
          let all : All (λ x. limit ≤ x.at) (drop early old) = all_late old early limit rising (λ d. late d gap) in
          let no : All (λ x. is_early reject first x ≡ false) (drop early old) = All-weaker (λ x. limit ≤ x.at) (λ x. is_early reject first x ≡ false) (λ x h. early_no reject limit first x el h) (drop early old) all in
          let gaps : All (λ x. is_early reject first x ≡ false) (take (n - early) (drop early old)) = All-take (λ x. is_early reject first x ≡ false) (n - early) (drop early old) no in
          let there : n - early < length (drop early old) = omega (arith, length-drop early old) in
          let spot : early + (n - early) ≡ n = omega arith in
          let read : get_or (drop early old) (n - early) first ≡ z = get_or-drop early old (n - early) first ∙ ap (λ (k : ℕ). get_or old k first) spot in
          let zl : limit ≤ z.at = subst (λ (x : Trans). limit ≤ x.at) read (all (n - early) first there) in
          let run : All (λ x. x.value ≡ first.value) (drop (n + 1) old) = rw place equal in
          ap (marked reject first) (cut old early n z before inside self) ∙ parts_kept reject first (take early old) (take (n - early) (drop early old)) z (drop (n + 1) old) soon' gaps (early_no reject limit first z el zl) (other first (omega arith)) run ∙ ap (λ (k : ℕ). take early old ++ drop k old) place
      | inr none ↦
          let same : early ≡ from = omega arith in
          let run : All (λ x. x.value ≡ first.value) (drop early old) = rw same equal in
          ap (marked reject first) (sym (take-append-drop early old)) ∙ no_gap_kept reject first (take early old) (drop early old) soon' run ∙ ap (λ (k : ℕ). take early old ++ drop k old) same
    ]

-- what is kept, by the places that the code finds
pub kept_inertial : (kind : DelayKind) (reject limit : ℕ) (first : Trans) (pending : List Trans) (early from end : ℕ) → kind ≡ Inertial → limit ≡ first.at - reject → filter (is_before first.at) pending ≡ take end pending → early ≤ from → from ≤ end → end ≤ length pending → All (λ x. x.at < limit) (take early (take end pending)) → ((d : Trans) → early < from → limit ≤ (get_or (take end pending) early d).at) → All (λ x. x.value ≡ first.value) (drop from (take end pending)) → ((d : Trans) → 0 < from → equals (get_or (take end pending) (from - 1) d).value first.value ≡ false) → IsRising pending → kept kind reject first (filter (is_before first.at) pending) ≡ take early pending ++ drop from (take end pending)
kept_inertial kind reject limit first pending early from end m el cut le short long soon late equal other rising =
    let size : from ≤ length (take end pending) = omega (arith, length-take end pending) in
    let up : IsRising (take end pending) = rising_take pending end rising in
    rw (m, cut) (kept_parts reject limit first (take end pending) early from el le size soon late equal other up ∙ ap (λ (xs : List Trans). xs ++ drop from (take end pending)) (take-take early end pending (omega arith)))

pub ruleset values = (values_decide)
