-- The times of a projected waveform rise.
use Rattle.std.proofs.Common.{ℕ, suc, ◌<◌, Bool, true, false, List, [], ◌∷◌, ◌++◌, inl, inr, arith}
use Rattle.std.specs.Prelude.{filter, if◌then◌else◌}
use Rattle.std.specs.List.{All}
use Rattle.std.proofs.lemmas.Bool.{cases_lt}
use Rattle.std.proofs.lemmas.List.Kept.{AllPairs-cons, AllPairs-filter}
use Rattle.std.proofs.lemmas.List.Elements.{All-nil, All-head, All-tail, All-cons, All-append, All-weaker}
use Rattle.step_data.specs.declared.trans.Trans.{Trans}
use Rattle.waveform.specs.declared.trans.DelayKind.{DelayKind}
use Rattle.waveform.specs.declared.trans.DelayKind.TheVariants.{Transport, Inertial}
use Rattle.waveform.specs.Projected.{IsRising, is_before, is_marked, marked, kept, KeepsRising}
use Rattle.waveform.proofs.Kept.{is_before_yes, is_before_no}

pub rising-head : (x : Trans) (later : List Trans) → IsRising (x ∷ later) → All (λ y. x.at < y.at) later
rising-head x later rising = λ k d h. rising 0 (suc k) d (omega arith) (omega arith)

pub rising-tail : (x : Trans) (later : List Trans) → IsRising (x ∷ later) → IsRising later
rising-tail x later rising = λ i j d less h. rising (suc i) (suc j) d (omega arith) (omega arith)

rising-cons : (x : Trans) (later : List Trans) → All (λ y. x.at < y.at) later → IsRising later → IsRising (x ∷ later)
rising-cons x later all rising = AllPairs-cons (λ a b. a.at < b.at) x later all rising

rising-append : (xs ys : List Trans) → IsRising xs → IsRising ys → All (λ x. All (λ y. x.at < y.at) ys) xs → IsRising (xs ++ ys)
rising-append [] ys a b across = b
rising-append (x ∷ xs) ys a b across =
    rising-cons x (xs ++ ys) (All-append (λ y. x.at < y.at) xs ys (rising-head x xs a) (All-head (λ z. All (λ y. z.at < y.at) ys) x xs across))
    (rising-append xs ys (rising-tail x xs a) b (All-tail (λ z. All (λ y. z.at < y.at) ys) x xs across))

either : (P : List Trans → Type 0) (b : Bool) (xs ys : List Trans) → P xs → P ys → P (if b then xs else ys)
either P true xs ys p q = p
either P false xs ys p q = q

marked-all : (P : Trans → Type 0) (reject : ℕ) (first : Trans) (old : List Trans) → All P old → All P (marked reject first old)
unfolding marked
marked-all P reject first [] all = all
marked-all P reject first (x ∷ later) all =
    let more = marked-all P reject first later (All-tail P x later all) in
    either (All P) (is_marked reject first (x ∷ later)) (x ∷ marked reject first later) (marked reject first later) (All-cons P x (marked reject first later) (All-head P x later all) more) more

marked-rising : (reject : ℕ) (first : Trans) (old : List Trans) → IsRising old → IsRising (marked reject first old)
unfolding marked
marked-rising reject first [] rising = rising
marked-rising reject first (x ∷ later) rising =
    let more = marked-rising reject first later (rising-tail x later rising) in
    either IsRising (is_marked reject first (x ∷ later)) (x ∷ marked reject first later) (marked reject first later)
    (rising-cons x (marked reject first later) (marked-all (λ y. x.at < y.at) reject first later (rising-head x later rising)) more) more

filter-before : (t : ℕ) (xs : List Trans) → All (λ x. x.at < t) (filter (is_before t) xs)
filter-before t [] = All-nil (λ x. x.at < t)
filter-before t (x ∷ xs) =
    elim (cases_lt x.at t) [
      | inl less ↦ rw (is_before_yes t x less) (All-cons (λ y. y.at < t) x (filter (is_before t) xs) less (filter-before t xs))
      | inr more ↦ rw (is_before_no t x more) (filter-before t xs)
    ]

kept-all : (P : Trans → Type 0) (kind : DelayKind) (reject : ℕ) (first : Trans) (old : List Trans) → All P old → All P (kept kind reject first old)
kept-all P Transport reject first old all = all
kept-all P Inertial reject first old all = marked-all P reject first old all

kept-rising : (kind : DelayKind) (reject : ℕ) (first : Trans) (old : List Trans) → IsRising old → IsRising (kept kind reject first old)
kept-rising Transport reject first old rising = rising
kept-rising Inertial reject first old rising = marked-rising reject first old rising

behind : (first : Trans) (more : List Trans) (x : Trans) → IsRising (first ∷ more) → x.at < first.at → All (λ y. x.at < y.at) (first ∷ more)
behind first more x rising h =
    All-cons (λ y. x.at < y.at) first more h (All-weaker (λ y. first.at < y.at) (λ y. x.at < y.at) (λ y lt. omega arith) more (rising-head first more rising))

pub projected-rising : KeepsRising
projected-rising kind reject old [] a b = a
projected-rising kind reject old (first ∷ more) a b =
    let earlier = filter (is_before first.at) old in
    let before : All (λ x. x.at < first.at) (kept kind reject first earlier) = kept-all (λ x. x.at < first.at) kind reject first earlier (filter-before first.at old) in
    rising-append (kept kind reject first earlier) (first ∷ more)
    (kept-rising kind reject first earlier (AllPairs-filter (λ x y. x.at < y.at) (is_before first.at) old a)) b
    (All-weaker (λ x. x.at < first.at) (λ x. All (λ y. x.at < y.at) (first ∷ more)) (λ x h. behind first more x b h) (kept kind reject first earlier) before)

pub ruleset laws = (projected-rising)
