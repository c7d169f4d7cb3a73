-- The largest entry, and entries times ten.
use Rattle.std.proofs.Common.{◌≡◌, ◌≤◌, ◌<◌, ◌+◌, ℕ, zero, suc, true, ℤ, pos, List, [], ◌∷◌, length, take, drop, set, get_or, Result, Ok, Err, arith, refl, sym, ap, subst, ◌∙◌, inl, inr}
use Rattle.std.specs.Prelude.{max, unsigned_abs, ◌*ℤ◌}
use Rattle.std.proofs.lemmas.Int.{ints}
use Rattle.std.proofs.lemmas.List.{drop_all}
use Rattle.fix_core.specs.declared.NumFault.{NumFault}
use Rattle.fix_core.specs.Passes.{and_then, each}
use Rattle.fix_core.specs.Fixed.{IsInRange, ranged, tenfold_of}
use Rattle.fix_core.specs.Laws.{at_place}
use Rattle.lin_solve.specs.Elimination.{largest, tenfold}
use Rattle.lin_solve.proofs.Steps.{largest_none, largest_more, ranged_is, tenfold-within}
use Rattle.sparse_row.specs.declared.entry.Entry.{Entry}
use Rattle.sparse_row.specs.Entries.{filled, is_sparse}
use Rattle.sparse_row.specs.Reads.{largest_in, tenfold_entry}
use Rattle.sparse_row.proofs.Sparse.{First, first, is_lt, not_lt, filled_after, filled_at, sparse_after, sparse_more, sparse_none}
use Rattle.sparse_row.proofs.Lookup.{here_or_after}

-- ---- the largest

pub largest_in_none : (c : ℕ) → largest_in c [] ≡ 0
unfolding largest_in
largest_in_none c = refl

largest_in_first : (c : ℕ) (e : Entry) (more : List Entry) → e.column < c → largest_in c (e ∷ more) ≡ max (unsigned_abs e.value) (largest_in c more)
unfolding largest_in
largest_in_first c e more h = rw (is_lt e.column c h) refl

largest_in_past : (c : ℕ) (e : Entry) (more : List Entry) → c ≤ e.column → largest_in c (e ∷ more) ≡ largest_in c more
unfolding largest_in
largest_in_past c e more h = rw (not_lt e.column c h) refl

pub largest_here : (c : ℕ) (es : List Entry) (i : ℕ) (e : Entry) → i < length es → e ≡ get_or es i e → e.column < c → largest_in c (drop i es) ≡ max (unsigned_abs e.value) (largest_in c (drop (i + 1) es))
largest_here c es i e h r k = rw (at_place es i e h r) (largest_in_first c e (drop (i + 1) es) k)

pub largest_later : (c : ℕ) (es : List Entry) (i : ℕ) (e : Entry) → i < length es → e ≡ get_or es i e → c ≤ e.column → largest_in c (drop i es) ≡ largest_in c (drop (i + 1) es)
largest_later c es i e h r k = rw (at_place es i e h r) (largest_in_past c e (drop (i + 1) es) k)

pub ruleset largests = (largest_in_none, drop_all)

largest-absent : (from width c : ℕ) (es : List Entry) → c ≤ from → is_sparse from width es ≡ true → largest_in c es ≡ 0
largest-absent from width c [] le h = largest_in_none c
largest-absent from width c (e ∷ more) le h =
    let f = first from width e more h in
    largest_in_past c e more (omega (arith, f.from, le)) ∙ largest-absent (suc e.column) width c more (omega (arith, f.from, le)) f.rest

zero_first : (xs : List ℤ) → largest (pos 0 ∷ xs) ≡ largest xs
zero_first xs = let m = largest_more (pos 0) xs in omega (arith, m)

pub largest-filled : (from width n k c : ℕ) (es : List Entry) → k ≤ n → c ≡ from + k → is_sparse from width es ≡ true → largest (take k (filled from n es)) ≡ largest_in c es
largest-filled from width n zero c es le at h = largest_none ∙ sym (largest-absent from width c es (omega (arith, at)) h)
largest-filled from width zero (suc k) c es le at h = absurd (omega (arith, le))
largest-filled from width (suc n) (suc k) c [] le at h =
    rw (filled_after from n width [] (sparse_none (suc from) width))
    (zero_first (take k (filled (suc from) n [])) ∙ largest-filled (suc from) width n k c [] (omega (arith, le)) (omega (arith, at)) (sparse_none (suc from) width))
largest-filled from width (suc n) (suc k) c (e ∷ more) le at h =
    elim (here_or_after from width e more h) [
      | inl is ↦
          let f = first from width e more h in
          let rest = largest-filled (suc from) width n k c more (omega (arith, le)) (omega (arith, at)) (rw is at f.rest) in
          rw (filled_at from n e more is)
          (largest_more e.value (take k (filled (suc from) n more)) ∙ ap (max (unsigned_abs e.value)) rest ∙ sym (largest_in_first c e more (omega (arith, at, is))))
      | inr gap ↦
          let later = sparse_after from width e more gap h in
          rw (filled_after from n width (e ∷ more) later)
          (zero_first (take k (filled (suc from) n (e ∷ more))) ∙ largest-filled (suc from) width n k c (e ∷ more) (omega (arith, le)) (omega (arith, at)) later)
    ]

-- ---- times ten

pub tenfold_number : (a b : ℤ) → 0 < unsigned_abs a → tenfold_of a ≡ Ok b → 0 < unsigned_abs b
unfolding tenfold_of
tenfold_number a b some e = let p : a *ℤ pos 10 ≡ b = ranged_is (a *ℤ pos 10) b e in omega (arith, ints, p)

no_tenfold : tenfold_of (pos 0) ≡ Ok (pos 0)
unfolding tenfold_of ranged
no_tenfold = refl

pub entry_is : (e : Entry) (v : ℤ) → tenfold_of e.value ≡ Ok v → tenfold_entry e ≡ Ok (record { column = e.column; value = v })
unfolding tenfold_entry
entry_is e v h = rw h refl

pub entry_fails : (e : Entry) (x : NumFault) → tenfold_of e.value ≡ Err x → tenfold_entry e ≡ Err x
unfolding tenfold_entry
entry_fails e x h = rw h refl

pub sparse_set : (from width : ℕ) (es : List Entry) (i : ℕ) (e : Entry) (v : ℤ) → i < length es → e ≡ get_or es i e → tenfold_of e.value ≡ Ok v → is_sparse from width es ≡ true → is_sparse from width (set es i (record { column = e.column; value = v })) ≡ true
sparse_set from width [] i e v h r t s = absurd (omega (arith, h))
sparse_set from width (x ∷ more) zero e v h r t s =
    let f = first from width x more s in
    let same : x ≡ e = sym r in
    let g : First from width e more = rw same at f in
    sparse_more from width (record { column = e.column; value = v }) more (record { from = g.from; below = g.below; some = tenfold_number e.value v g.some t; within = tenfold-within e.value v t; rest = g.rest })
sparse_set from width (x ∷ more) (suc i) e v h r t s =
    let f = first from width x more s in
    sparse_more from width x (set more i (record { column = e.column; value = v })) (record { from = f.from; below = f.below; some = f.some; within = f.within; rest = sparse_set (suc x.column) width more i e v (omega (arith, h)) r t f.rest })

parts : {A B : Type 0} (r : Result A NumFault) (f : A → Result B NumFault) (b : B) → and_then f r ≡ Ok b → (a : A) × (r ≡ Ok a) × (f a ≡ Ok b)
parts (Ok a) f b e = (a, refl, e)
parts (Err x) f b e = cc

sparse_each : (from width : ℕ) (es fs : List Entry) → is_sparse from width es ≡ true → each tenfold_entry es ≡ Ok fs → is_sparse from width fs ≡ true
unfolding each tenfold_entry
sparse_each from width [] fs h e = let is : [] ≡ fs = cc in rw (← is) (sparse_none from width)
sparse_each from width (x ∷ more) fs h e =
    let f = first from width x more h in
    let head = parts (and_then {B = Entry} (λ v. Ok (record { column = x.column; value = v })) (tenfold_of x.value)) (λ b. and_then (λ bs. Ok (b ∷ bs)) (each tenfold_entry more)) fs e in
    let value = parts (tenfold_of x.value) (λ v. Ok (record { column = x.column; value = v })) head.0 head.1 in
    let tail = parts (each tenfold_entry more) (λ bs. Ok (head.0 ∷ bs)) fs head.2 in
    let entry : record { column = x.column; value = value.0 } ≡ head.0 = cc in
    let is : head.0 ∷ tail.0 ≡ fs = cc in
    let raised = sparse_more from width (record { column = x.column; value = value.0 }) tail.0 (record { from = f.from; below = f.below; some = tenfold_number x.value value.0 f.some value.1; within = tenfold-within x.value value.0 value.1; rest = sparse_each (suc x.column) width more tail.0 f.rest tail.1 }) in
    subst (λ (z : List Entry). is_sparse from width z ≡ true) is (subst (λ (z : Entry). is_sparse from width (z ∷ tail.0) ≡ true) entry raised)

pub nothing_from : (width : ℕ) (es : List Entry) → is_sparse width width es ≡ true → es ≡ []
nothing_from width [] h = refl
nothing_from width (e ∷ more) h = absurd (let f = first width width e more h in omega (arith, f.from, f.below))

join_here : (from n column : ℕ) (r : Result ℤ NumFault) (s : Result (List Entry) NumFault) → column ≡ from → and_then (λ b. and_then (λ bs. Ok (b ∷ bs)) (and_then (λ fs. Ok (filled (suc from) n fs)) s)) r ≡ and_then (λ fs. Ok (filled from (suc n) fs)) (and_then (λ f. and_then (λ fs. Ok (f ∷ fs)) s) (and_then {B = Entry} (λ v. Ok (record { column = column; value = v })) r))
join_here from n column (Err x) s is = refl
join_here from n column (Ok v) (Err x) is = refl
join_here from n column (Ok v) (Ok fs) is = ap Ok (sym (filled_at from n (record { column = column; value = v }) fs is))

join_gap : (from n width : ℕ) (s : Result (List Entry) NumFault) → ((fs : List Entry) → s ≡ Ok fs → is_sparse (suc from) width fs ≡ true) → and_then (λ bs. Ok (pos 0 ∷ bs)) (and_then (λ fs. Ok (filled (suc from) n fs)) s) ≡ and_then (λ fs. Ok (filled from (suc n) fs)) s
join_gap from n width (Err x) h = refl
join_gap from n width (Ok fs) h = ap Ok (sym (filled_after from n width fs (h fs refl)))

each_zero : (xs : List ℤ) → tenfold (pos 0 ∷ xs) ≡ and_then (λ bs. Ok (pos 0 ∷ bs)) (tenfold xs)
unfolding each
each_zero xs = rw no_tenfold refl

each_first : (x : ℤ) (xs : List ℤ) → tenfold (x ∷ xs) ≡ and_then (λ b. and_then (λ bs. Ok (b ∷ bs)) (tenfold xs)) (tenfold_of x)
unfolding each
each_first x xs = refl

entries_first : (e : Entry) (es : List Entry) → each tenfold_entry (e ∷ es) ≡ and_then (λ b. and_then (λ bs. Ok (b ∷ bs)) (each tenfold_entry es)) (and_then {B = Entry} (λ v. Ok (record { column = e.column; value = v })) (tenfold_of e.value))
unfolding each tenfold_entry
entries_first e es = refl

tenfold_nothing : (from : ℕ) (es : List Entry) → es ≡ [] → tenfold (filled from 0 es) ≡ and_then (λ fs. Ok (filled from 0 fs)) (each tenfold_entry es)
unfolding each filled
tenfold_nothing from es h = rw h refl

pub tenfold-filled : (from width n : ℕ) (es : List Entry) → from + n ≡ width → is_sparse from width es ≡ true → tenfold (filled from n es) ≡ and_then (λ fs. Ok (filled from n fs)) (each tenfold_entry es)
tenfold-filled from width zero es at h =
    let here : width ≡ from = omega (arith, at) in
    tenfold_nothing from es (nothing_from from es (rw here at h))
tenfold-filled from width (suc n) [] at h =
    let none = sparse_none (suc from) width in
    rw (filled_after from n width [] none)
    (each_zero (filled (suc from) n []) ∙ ap (and_then (λ (bs : List ℤ). Ok (pos 0 ∷ bs))) (tenfold-filled (suc from) width n [] (omega (arith, at)) none) ∙ join_gap from n width (each tenfold_entry []) (λ (fs : List Entry) (e : each tenfold_entry [] ≡ Ok fs). sparse_each (suc from) width [] fs none e))
tenfold-filled from width (suc n) (e ∷ more) at h =
    elim (here_or_after from width e more h) [
      | inl is ↦
          let f = first from width e more h in
          let rest = tenfold-filled (suc from) width n more (omega (arith, at)) (rw is at f.rest) in
          rw (filled_at from n e more is, entries_first e more)
          (each_first e.value (filled (suc from) n more)
          ∙ ap (λ (r : Result (List ℤ) NumFault). and_then (λ (b : ℤ). and_then (λ (bs : List ℤ). Ok (b ∷ bs)) r) (tenfold_of e.value)) rest
          ∙ join_here from n e.column (tenfold_of e.value) (each tenfold_entry more) is)
      | inr gap ↦
          let later = sparse_after from width e more gap h in
          rw (filled_after from n width (e ∷ more) later)
          (each_zero (filled (suc from) n (e ∷ more)) ∙ ap (and_then (λ (bs : List ℤ). Ok (pos 0 ∷ bs))) (tenfold-filled (suc from) width n (e ∷ more) (omega (arith, at)) later) ∙ join_gap from n width (each tenfold_entry (e ∷ more)) (λ (fs : List Entry) (x : each tenfold_entry (e ∷ more) ≡ Ok fs). sparse_each (suc from) width (e ∷ more) fs later x))
    ]
