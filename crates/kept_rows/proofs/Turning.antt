-- Scaling of rows and of right sides.
use Rattle.std.proofs.Common.{◌≡◌, ℕ, zero, suc, ◌+◌, ◌-◌, ◌<◌, ◌≤◌, true, false, ℤ, List, [], ◌∷◌, length, take, drop, set, get_or, Result, Ok, Err, ◌⊎◌, inl, inr, refl, sym, ap, ◌∙◌, arith}
use Rattle.std.specs.Prelude.{nat_eq, nat_le, ◌||◌}
use Rattle.std.proofs.lemmas.Bool.Decides.{nat_tests}
use Rattle.std.proofs.lemmas.List.{drop_more, take_more_set, drop-set-lt, append-nil, take_all, drop_all}
use Rattle.fix_core.specs.declared.NumFault.{NumFault}
use Rattle.fix_core.specs.Units.{units_per_one}
use Rattle.fix_core.specs.Passes.{and_then, joined}
use Rattle.fix_core.specs.Laws.{joined-joined, joined_none, at_place}
use Rattle.fix_core.specs.Fixed.{IsInRange, tenfold_of}
use Rattle.lin_solve.specs.Elimination.{largest, tenfold}
use Rattle.lin_solve.proofs.Steps.{tenfold-within}
use Rattle.kept_elimination.specs.Kept.{scaling, raised, raised_all}
use Rattle.kept_rows.specs.Told.{scaling_by}

-- ---- a row

pub largest_whole : (row : List ℤ) (n : ℕ) → n ≡ length row → largest (take n row) ≡ largest row
largest_whole row n e = ap largest (take_all n row (omega (arith, e)))

test_kept : (l : ℕ) → (l ≡ 0) ⊎ (units_per_one ≤ l) → (nat_eq l 0 || nat_le units_per_one l) ≡ true
test_kept l e = grind (arith, nat_tests)

test_more : (l : ℕ) → 0 < l → l < units_per_one → (nat_eq l 0 || nat_le units_per_one l) ≡ false
test_more l some small = grind (arith, nat_tests)

pub scaling_none : (row : List ℤ) → scaling 0 row ≡ Ok (scaling_by 0 row)
unfolding scaling
scaling_none row = refl

pub scaling_kept : (turns : ℕ) (row : List ℤ) → 0 < turns → (largest row ≡ 0) ⊎ (units_per_one ≤ largest row) → scaling turns row ≡ Ok (scaling_by 0 row)
unfolding scaling
scaling_kept zero row h e = absurd (omega (arith, h))
scaling_kept (suc turns) row h e = rw (test_kept (largest row) e) refl

pub scaling_no_tenfold : (turns : ℕ) (row : List ℤ) (e : NumFault) → 0 < turns → 0 < largest row → largest row < units_per_one → tenfold row ≡ Err e → scaling turns row ≡ Err e
unfolding scaling
scaling_no_tenfold zero row e h some small t = absurd (omega (arith, h))
scaling_no_tenfold (suc turns) row e h some small t = rw (test_more (largest row) some small, t) refl

pub scaling_fails : (turns : ℕ) (row ten : List ℤ) (e : NumFault) → 0 < turns → 0 < largest row → largest row < units_per_one → tenfold row ≡ Ok ten → scaling (turns - 1) ten ≡ Err e → scaling turns row ≡ Err e
unfolding scaling
scaling_fails zero row ten e h some small t s = absurd (omega (arith, h))
scaling_fails (suc turns) row ten e h some small t s =
    let less : suc turns - 1 ≡ turns = omega arith in
    let rest : scaling turns ten ≡ Err e = rw less at s in
    rw (test_more (largest row) some small, t, rest) refl

pub scaling_is : (turns : ℕ) (row ten new : List ℤ) (more : ℕ) → 0 < turns → 0 < largest row → largest row < units_per_one → tenfold row ≡ Ok ten → scaling (turns - 1) ten ≡ Ok (scaling_by more new) → scaling turns row ≡ Ok (scaling_by (more + 1) new)
unfolding scaling
scaling_is zero row ten new more h some small t s = absurd (omega (arith, h))
scaling_is (suc turns) row ten new more h some small t s =
    let less : suc turns - 1 ≡ turns = omega arith in
    let next : more + 1 ≡ suc more = omega arith in
    let rest : scaling turns ten ≡ Ok (scaling_by more new) = rw less at s in
    rw (test_more (largest row) some small, t, rest, next) refl

pub ruleset scales = (scaling_none)

-- ---- right sides

pub raised_none : (b : ℤ) → raised 0 b ≡ Ok b
unfolding raised
raised_none b = refl

pub raised_more : (turns : ℕ) (b c : ℤ) → 0 < turns → tenfold_of b ≡ Ok c → raised turns b ≡ raised (turns - 1) c
unfolding raised
raised_more zero b c h e = absurd (omega (arith, h))
raised_more (suc turns) b c h e = let less : suc turns - 1 ≡ turns = omega arith in rw (e, less) refl

pub raised_fails : (turns : ℕ) (b : ℤ) (e : NumFault) → 0 < turns → tenfold_of b ≡ Err e → raised turns b ≡ Err e
unfolding raised
raised_fails zero b x h e = absurd (omega (arith, h))
raised_fails (suc turns) b x h e = rw e refl

pub ruleset raises = (raised_none, raised_more, raised_fails)

parts : {A B : Type 0} (r : Result A NumFault) (f : A → Result B NumFault) (b : B) → and_then f r ≡ Ok b → (a : A) × (r ≡ Ok a) × (f a ≡ Ok b)
parts (Ok a) f b e = (a, refl, e)
parts (Err x) f b e = cc

pub raised-within : (turns : ℕ) (b c : ℤ) → IsInRange b → raised turns b ≡ Ok c → IsInRange c
unfolding raised
raised-within zero b c h e = let is : b ≡ c = cc in rw (← is) h
raised-within (suc turns) b c h e =
    let p = parts (tenfold_of b) (raised turns) c e in
    raised-within turns p.0 c (tenfold-within b p.0 p.1) p.2

pub raised_all_more : (ts : List ℕ) (bs : List ℤ) (i : ℕ) (b d : ℤ) → i < length ts → i < length bs → b ≡ get_or bs i b → raised (get_or ts i 0) b ≡ Ok d → joined (take i bs) (raised_all (drop i ts) (drop i bs)) ≡ joined (take (i + 1) (set bs i d)) (raised_all (drop (i + 1) ts) (drop (i + 1) (set bs i d)))
unfolding raised_all
raised_all_more ts bs i b d ht hb rb e =
    rw (drop_more ts i 0 ht, at_place bs i b hb rb, e, take_more_set bs i d hb, drop-set-lt (i + 1) bs i d (omega arith)) (joined-joined (take i bs) d (raised_all (drop (i + 1) ts) (drop (i + 1) bs)))

pub raised_all_fails : (ts : List ℕ) (bs : List ℤ) (i : ℕ) (b : ℤ) (x : NumFault) → i < length ts → i < length bs → b ≡ get_or bs i b → raised (get_or ts i 0) b ≡ Err x → joined (take i bs) (raised_all (drop i ts) (drop i bs)) ≡ Err x
unfolding raised_all
raised_all_fails ts bs i b x ht hb rb e = rw (drop_more ts i 0 ht, at_place bs i b hb rb, e) refl

pub raised_all_end : (ts : List ℕ) (bs : List ℤ) (i : ℕ) → length ts ≤ i → length bs ≤ i → joined (take i bs) (raised_all (drop i ts) (drop i bs)) ≡ Ok bs
unfolding raised_all
raised_all_end ts bs i ht hb = rw (drop_all i ts ht, take_all i bs hb, append-nil bs) refl

pub raised_all_start : (ts : List ℕ) (bs : List ℤ) → joined (take 0 bs) (raised_all (drop 0 ts) (drop 0 bs)) ≡ raised_all ts bs
raised_all_start ts bs = joined_none (raised_all ts bs)

pub ruleset all_raises = (raised_all_fails, raised_all_end, raised_all_start)
