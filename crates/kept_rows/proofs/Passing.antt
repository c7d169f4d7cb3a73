-- Right sides through the columns, and back.
use Rattle.std.proofs.Common.{◌≡◌, ℕ, zero, suc, ◌+◌, ◌-◌, ◌<◌, ◌≤◌, ℤ, pos, List, [], ◌∷◌, ◌++◌, length, take, drop, get_or, Result, Ok, Err, refl, sym, ap, ◌∙◌, arith}
use Rattle.std.proofs.Math.IntN.{*ℤ_comm}
use Rattle.std.proofs.lemmas.List.{drop_more, drop_all, get_or-take}
use Rattle.std.specs.List.{swap}
use Rattle.fix_core.specs.declared.NumFault.{NumFault}
use Rattle.fix_core.specs.Passes.{and_then, answer}
use Rattle.fix_core.specs.Fixed.{product_of, difference_of, quotient_of}
use Rattle.lin_solve.specs.declared.LinFault.TheVariants.{Overflow}
use Rattle.lin_solve.specs.Elimination.{coefficient, minus_product, minus_row, substituted}
use Rattle.kept_elimination.specs.Kept.{Column, lost_all, by_factors, passed, unknown_of, back_from, raised_all, solved}
use Rattle.kept_rows.specs.declared.column.Column.{Column as Held}
use Rattle.kept_rows.specs.Held.{column_of, kept_columns}

-- ---- losses

commutes : (f q : ℤ) → product_of q f ≡ product_of f q
unfolding product_of
commutes f q = rw (*ℤ_comm q f) refl

pub lost_is : (q : ℤ) (fs bs : List ℤ) → length fs ≡ length bs → minus_row q fs bs ≡ lost_all q fs bs
unfolding minus_row lost_all
lost_is q [] [] h = refl
lost_is q [] (b ∷ bs) h = absurd (omega (arith, h))
lost_is q (f ∷ fs) [] h = refl
lost_is q (f ∷ fs) (b ∷ bs) h = rw (commutes f q, lost_is q fs bs (omega (arith, h))) refl

-- ---- the first column and the others

pub pass_end : (hs : List Held) (bs : List ℤ) → length hs ≡ length bs → length bs ≡ 0 → passed (kept_columns hs) bs ≡ Ok bs
unfolding passed
pass_end [] [] e none = refl
pass_end [] (b ∷ bs) e none = absurd (omega (arith, none))
pass_end (h ∷ hs) [] e none = absurd (omega (arith, e))
pass_end (h ∷ hs) (b ∷ bs) e none = absurd (omega (arith, none))

pub pass_first : (hs : List Held) (h : Held) (bs swapped front others : List ℤ) (q : ℤ) → 0 < length hs → h ≡ get_or hs 0 h → swapped ≡ swap bs 0 h.place → swapped ≡ front ++ others → length front ≡ 1 → q ≡ get_or front 0 q → passed (kept_columns hs) bs ≡ by_factors h.factors (passed (kept_columns (drop 1 hs))) (q ∷ others)
unfolding passed
pass_first [] h bs swapped front others q some eh es ep one eq = absurd (omega (arith, some))
pass_first (k ∷ hs) h bs swapped [] others q some eh es ep one eq = absurd (omega (arith, one))
pass_first (k ∷ hs) h bs swapped (x ∷ y ∷ front) others q some eh es ep one eq = absurd (omega (arith, one))
pass_first (k ∷ hs) h bs swapped (x ∷ []) others q some eh es ep one eq =
    let e : swap bs 0 k.place ≡ q ∷ others = ap (λ (k : Held). swap bs 0 k.place) (sym eh) ∙ sym es ∙ ep ∙ ap (λ (z : ℤ). z ∷ others) (sym eq) in
    ap (by_factors k.factors (passed (kept_columns hs))) e ∙ ap (λ (k : Held). by_factors k.factors (passed (kept_columns hs)) (q ∷ others)) (sym eh)

pub by_factors_fails : (fs : List ℤ) (f : List ℤ → Result (List ℤ) NumFault) (q : ℤ) (bs : List ℤ) (e : NumFault) → length fs ≡ length bs → minus_row q fs bs ≡ Err e → by_factors fs f (q ∷ bs) ≡ Err e
by_factors_fails fs f q bs e long h = rw (sym (lost_is q fs bs long) ∙ h) refl

pub by_factors_is : (fs : List ℤ) (f : List ℤ → Result (List ℤ) NumFault) (q : ℤ) (bs cs : List ℤ) → length fs ≡ length bs → minus_row q fs bs ≡ Ok cs → by_factors fs f (q ∷ bs) ≡ and_then (λ ds. Ok (q ∷ ds)) (f cs)
by_factors_is fs f q bs cs long h = rw (sym (lost_is q fs bs long) ∙ h) refl

pub answer_more : (r : Result (Unit {0}) NumFault) (front : List ℤ) (q : ℤ) (new : List ℤ) → length front ≡ 1 → q ≡ get_or front 0 q → and_then (λ ds. Ok (q ∷ ds)) (answer r new) ≡ answer r (front ++ new)
answer_more r [] q new one e = absurd (omega (arith, one))
answer_more r (x ∷ y ∷ front) q new one e = absurd (omega (arith, one))
answer_more (Err x) (y ∷ []) q new one e = refl
answer_more (Ok u) (x ∷ []) q new one e = ap (λ (z : ℤ). Ok (z ∷ new)) e

-- ---- back

pub back_end : (at : ℕ) (hs : List Held) (bs : List ℤ) → length hs ≡ 0 → at + length hs ≡ length bs → back_from at (kept_columns hs) (drop at bs) ≡ Ok (drop at bs)
unfolding back_from
back_end at [] bs none e = let nothing : drop at bs ≡ [] = drop_all at bs (omega (arith, e)) in rw nothing refl
back_end at (h ∷ hs) bs none e = absurd (omega (arith, none))

pub back_fails : (at : ℕ) (hs : List Held) (bs : List ℤ) (e : NumFault) → 0 < length hs → at < length bs → back_from (at + 1) (kept_columns (drop 1 hs)) (drop (at + 1) bs) ≡ Err e → back_from at (kept_columns hs) (drop at bs) ≡ Err e
unfolding back_from
back_fails at [] bs e some within h = absurd (omega (arith, some))
back_fails at (k ∷ hs) bs e some within h = rw (drop_more bs at (pos 0) within, h) refl

pub back_first : (at : ℕ) (hs : List Held) (h : Held) (bs : List ℤ) (b : ℤ) (xs : List ℤ) → 0 < length hs → h ≡ get_or hs 0 h → at < length bs → b ≡ get_or bs at b → back_from (at + 1) (kept_columns (drop 1 hs)) (drop (at + 1) bs) ≡ Ok xs → back_from at (kept_columns hs) (drop at bs) ≡ and_then (λ x. Ok (x ∷ xs)) (unknown_of at h.pivot b xs)
unfolding back_from
back_first at [] h bs b xs some eh within eb e = absurd (omega (arith, some))
back_first at (k ∷ hs) h bs b xs some eh within eb e =
    rw (drop_more bs at b within, ← eb, e) (ap (λ (k : Held). and_then (λ (x : ℤ). Ok (x ∷ xs)) (unknown_of at k.pivot b xs)) (sym eh))

pub no_sum : (at : ℕ) (pivot : List ℤ) (b : ℤ) (xs : List ℤ) (e : NumFault) → Err e ≡ substituted b (drop (at + 1) pivot) xs → and_then (λ x. Ok (x ∷ xs)) (unknown_of at pivot b xs) ≡ Err e
no_sum at pivot b xs e h = rw (← h) refl

pub no_quotient : (at : ℕ) (pivot : List ℤ) (b s : ℤ) (xs : List ℤ) (e : NumFault) → Ok s ≡ substituted b (drop (at + 1) pivot) xs → Err e ≡ quotient_of s (coefficient at pivot) → and_then (λ x. Ok (x ∷ xs)) (unknown_of at pivot b xs) ≡ Err e
no_quotient at pivot b s xs e h q = rw (← h, ← q) refl

pub an_unknown : (at : ℕ) (pivot : List ℤ) (b s x : ℤ) (xs : List ℤ) → Ok s ≡ substituted b (drop (at + 1) pivot) xs → Ok x ≡ quotient_of s (coefficient at pivot) → and_then (λ x. Ok (x ∷ xs)) (unknown_of at pivot b xs) ≡ Ok (x ∷ xs)
an_unknown at pivot b s x xs h q = rw (← h, ← q) refl

take_twice : {A : Type 0} (k : ℕ) (xs : List A) → take k (take (suc k) xs) ≡ take k xs
take_twice zero xs = refl
take_twice (suc k) [] = refl
take_twice {A} (suc k) (x ∷ xs) = ap (λ (z : List A). x ∷ z) (take_twice k xs)

-- what is alike up to a place is alike before it, and there
pub alike_before : (k : ℕ) (xs ys : List ℤ) → take (k + 1) xs ≡ take (k + 1) ys → take k xs ≡ take k ys
alike_before k xs ys h =
    let next : k + 1 ≡ suc k = omega arith in
    let same : take (suc k) xs ≡ take (suc k) ys = rw next at h in
    sym (take_twice k xs) ∙ ap (take k) same ∙ take_twice k ys

pub alike_at : (k : ℕ) (xs ys : List ℤ) (d : ℤ) → take (k + 1) xs ≡ take (k + 1) ys → get_or xs k d ≡ get_or ys k d
alike_at k xs ys d h = sym (get_or-take (k + 1) xs k d (omega arith)) ∙ ap (λ (z : List ℤ). get_or z k d) h ∙ get_or-take (k + 1) ys k d (omega arith)

-- ---- the whole

pub no_raise : (ts : List ℕ) (ks : List Column) (bs : List ℤ) (e : NumFault) → raised_all ts bs ≡ Err e → solved (record { turns = ts; columns = ks }) bs ≡ Err Overflow
no_raise ts ks bs e h = rw h refl

pub no_pass : (ts : List ℕ) (ks : List Column) (bs cs : List ℤ) (e : NumFault) → raised_all ts bs ≡ Ok cs → passed ks cs ≡ Err e → solved (record { turns = ts; columns = ks }) bs ≡ Err Overflow
no_pass ts ks bs cs e h p = rw (h, p) refl

pub no_back : (ts : List ℕ) (ks : List Column) (bs cs ds : List ℤ) (e : NumFault) → raised_all ts bs ≡ Ok cs → passed ks cs ≡ Ok ds → back_from 0 ks ds ≡ Err e → solved (record { turns = ts; columns = ks }) bs ≡ Err Overflow
no_back ts ks bs cs ds e h p b = rw (h, p, b) refl

pub solved_is : (ts : List ℕ) (ks : List Column) (bs cs ds xs : List ℤ) → raised_all ts bs ≡ Ok cs → passed ks cs ≡ Ok ds → back_from 0 ks ds ≡ Ok xs → solved (record { turns = ts; columns = ks }) bs ≡ Ok xs
solved_is ts ks bs cs ds xs h p b = rw (h, p, b) refl

pub ruleset ends = (no_raise, no_pass, no_back, solved_is)
