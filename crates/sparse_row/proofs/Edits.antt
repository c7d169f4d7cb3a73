-- Writing an entry.
use Rattle.std.proofs.Common.{◌≡◌, ◌≤◌, ◌<◌, ◌+◌, ℕ, zero, suc, true, false, ℤ, pos, List, [], ◌∷◌, ◌++◌, length, set, get_or, arith, refl, sym, ap, ◌∙◌, inl, inr}
use Rattle.std.specs.Prelude.{nat_eq, unsigned_abs, insert, remove}
use Rattle.std.proofs.Math.Nat.{eq-zero-or-pos}
use Rattle.std.proofs.lemmas.Int.{ints}
use Rattle.std.proofs.lemmas.Bool.{cases_lt}
use Rattle.fix_core.specs.Fixed.{IsInRange}
use Rattle.sparse_row.specs.declared.entry.Entry.{Entry}
use Rattle.sparse_row.specs.Entries.{filled, is_sparse, place_in, has_in, before, with_entry}
use Rattle.sparse_row.proofs.Sparse.{first, is_eq, not_eq, is_lt, not_lt, filled_after, filled_at, sparse_after, sparse_more, sparse_none, sparse_before, length_sparse}
use Rattle.sparse_row.proofs.Lookup.{here_or_after}

-- ---- the parts of a write

pub before_none : (c : ℕ) (v : ℤ) (more : List Entry) → unsigned_abs v ≡ 0 → before c v more ≡ more
unfolding before
before_none c v more h = rw h refl

pub before_some : (c : ℕ) (v : ℤ) (more : List Entry) → 0 < unsigned_abs v → before c v more ≡ record { column = c; value = v } ∷ more
unfolding before
before_some c v more h = rw (not_eq (unsigned_abs v) 0 h) refl

pub ruleset parts = (before_none, before_some)

with_none : (c : ℕ) (v : ℤ) → with_entry c v [] ≡ before c v []
unfolding with_entry
with_none c v = refl

with_later : (c : ℕ) (v : ℤ) (e : Entry) (more : List Entry) → e.column < c → with_entry c v (e ∷ more) ≡ e ∷ with_entry c v more
unfolding with_entry
with_later c v e more h = rw (is_lt e.column c h) refl

with_here : (c : ℕ) (v : ℤ) (e : Entry) (more : List Entry) → e.column ≡ c → with_entry c v (e ∷ more) ≡ before c v more
unfolding with_entry
with_here c v e more h = rw (not_lt e.column c (omega (arith, h)), is_eq e.column c h) refl

with_behind : (c : ℕ) (v : ℤ) (e : Entry) (more : List Entry) → c < e.column → with_entry c v (e ∷ more) ≡ before c v (e ∷ more)
unfolding with_entry
with_behind c v e more h = rw (not_lt e.column c (omega (arith, h)), not_eq e.column c h) refl

-- a column before, at or behind another
data Order (a b : ℕ) : Type 0 where
  less : a < b → Order a b
  same : a ≡ b → Order a b
  more_than : b < a → Order a b

order : (a b : ℕ) → Order a b
order a b = elim (cases_lt a b) [ inl lt ↦ less lt | inr le ↦ elim (cases_lt b a) [ inl lt ↦ more_than lt | inr ge ↦ same (omega (arith, le, ge)) ] ]

-- ---- what is written rises too

pub sparse-before : (column width c : ℕ) (v : ℤ) (more : List Entry) → column ≤ c → c < width → IsInRange v → is_sparse (suc c) width more ≡ true → is_sparse column width (before c v more) ≡ true
sparse-before column width c v more from below in_range h =
    elim (eq-zero-or-pos (unsigned_abs v)) [
      | inl none ↦ rw (before_none c v more none) (sparse_before column (suc c) width more (omega (arith, from)) h)
      | inr some ↦ rw (before_some c v more some) (sparse_more column width (record { column = c; value = v }) more (record { from = from; below = below; some = some; within = in_range; rest = h }))
    ]

pub sparse-with : (column width c : ℕ) (v : ℤ) (es : List Entry) → column ≤ c → c < width → IsInRange v → is_sparse column width es ≡ true → is_sparse column width (with_entry c v es) ≡ true
sparse-with column width c v [] from below in_range h = rw (with_none c v) (sparse-before column width c v [] from below in_range (sparse_none (suc c) width))
sparse-with column width c v (e ∷ more) from below in_range h =
    let f = first column width e more h in
    elim (order e.column c) [
      | less lt ↦ rw (with_later c v e more lt) (sparse_more column width e (with_entry c v more) (record { from = f.from; below = f.below; some = f.some; within = f.within; rest = sparse-with (suc e.column) width c v more lt below in_range f.rest }))
      | same is ↦ rw (with_here c v e more is) (sparse-before column width c v more from below in_range (rw is at f.rest))
      | more_than lt ↦ rw (with_behind c v e more lt) (sparse-before column width c v (e ∷ more) from below in_range (sparse_more (suc c) width e more (record { from = lt; below = f.below; some = f.some; within = f.within; rest = f.rest })))
    ]

-- ---- the row that is written

pub filled-before : (column n width : ℕ) (v : ℤ) (more : List Entry) → is_sparse (suc column) width more ≡ true → filled column (suc n) (before column v more) ≡ v ∷ filled (suc column) n more
filled-before column n width v more h =
    elim (eq-zero-or-pos (unsigned_abs v)) [
      | inl none ↦ let zero_is : pos 0 ≡ v = omega (arith, ints, none) in rw (before_none column v more none, filled_after column n width more h, zero_is) refl
      | inr some ↦ rw (before_some column v more some, filled_at column n (record { column = column; value = v }) more refl) refl
    ]

pub filled-with : (column width n k c : ℕ) (v : ℤ) (es : List Entry) → k < n → c ≡ column + k → c < width → IsInRange v → is_sparse column width es ≡ true → filled column n (with_entry c v es) ≡ set (filled column n es) k v
filled-with column width zero k c v es lt at below in_range h = absurd (omega (arith, lt))
filled-with column width (suc n) zero c v [] lt at below in_range h =
    let here : c ≡ column = omega (arith, at) in
    rw (here, with_none column v, filled-before column n width v [] (sparse_none (suc column) width), filled_after column n width [] (sparse_none (suc column) width)) refl
filled-with column width (suc n) (suc k) c v [] lt at below in_range h =
    let none = sparse_none (suc column) width in
    let later : is_sparse (suc column) width (with_entry c v []) ≡ true = sparse-with (suc column) width c v [] (omega (arith, at)) below in_range none in
    rw (filled_after column n width (with_entry c v []) later, filled_after column n width [] none) (ap (λ (z : List ℤ). pos 0 ∷ z) (filled-with (suc column) width n k c v [] (omega (arith, lt)) (omega (arith, at)) below in_range none))
filled-with column width (suc n) zero c v (e ∷ more) lt at below in_range h =
    let here : c ≡ column = omega (arith, at) in
    let f = first column width e more h in
    elim (here_or_after column width e more h) [
      | inl is ↦ rw (here, with_here column v e more is, filled-before column n width v more (rw is at f.rest), filled_at column n e more is) refl
      | inr gap ↦
          let later = sparse_after column width e more gap h in
          rw (here, with_behind column v e more gap, filled-before column n width v (e ∷ more) later, filled_after column n width (e ∷ more) later) refl
    ]
filled-with column width (suc n) (suc k) c v (e ∷ more) lt at below in_range h =
    let f = first column width e more h in
    elim (here_or_after column width e more h) [
      | inl is ↦
          rw (with_later c v e more (omega (arith, at, is)), filled_at column n e (with_entry c v more) is, filled_at column n e more is)
          (ap (λ (z : List ℤ). e.value ∷ z) (filled-with (suc column) width n k c v more (omega (arith, lt)) (omega (arith, at)) below in_range (rw is at f.rest)))
      | inr gap ↦
          let later = sparse_after column width e more gap h in
          let written = sparse-with (suc column) width c v (e ∷ more) (omega (arith, at)) below in_range later in
          rw (filled_after column n width (with_entry c v (e ∷ more)) written, filled_after column n width (e ∷ more) later)
          (ap (λ (z : List ℤ). pos 0 ∷ z) (filled-with (suc column) width n k c v (e ∷ more) (omega (arith, lt)) (omega (arith, at)) below in_range later))
    ]

-- ---- as the code writes

unfolded_has : (c : ℕ) (e : Entry) (more : List Entry) → e.column < c → has_in c (e ∷ more) ≡ has_in c more
unfolding has_in
unfolded_has c e more h = rw (is_lt e.column c h) refl

has_here : (c : ℕ) (e : Entry) (more : List Entry) → c ≤ e.column → has_in c (e ∷ more) ≡ nat_eq e.column c
unfolding has_in
has_here c e more h = rw (not_lt e.column c h) refl

has_none : (c : ℕ) → has_in c [] ≡ false
unfolding has_in
has_none c = refl

place_next : (c : ℕ) (e : Entry) (more : List Entry) → e.column < c → place_in c (e ∷ more) ≡ suc (place_in c more)
unfolding place_in
place_next c e more h = rw (is_lt e.column c h) refl

place_first : (c : ℕ) (e : Entry) (more : List Entry) → c ≤ e.column → place_in c (e ∷ more) ≡ 0
unfolding place_in
place_first c e more h = rw (not_lt e.column c h) refl

place_none : (c : ℕ) → place_in c [] ≡ 0
unfolding place_in
place_none c = refl

pub place-le : (c : ℕ) (es : List Entry) → place_in c es ≤ length es
place-le c [] = omega (arith, place_none c)
place-le c (e ∷ more) =
    elim (cases_lt e.column c) [
      | inl lt ↦ omega (arith, place_next c e more lt, place-le c more)
      | inr le ↦ omega (arith, place_first c e more le)
    ]

-- the column of the entry in the place
pub has_at : (c : ℕ) (es : List Entry) (d : Entry) → place_in c es < length es → has_in c es ≡ nat_eq (get_or es (place_in c es) d).column c
has_at c [] d h = absurd (omega (arith, h))
has_at c (e ∷ more) d h =
    elim (cases_lt e.column c) [
      | inl lt ↦ rw (unfolded_has c e more lt, place_next c e more lt) (has_at c more d (omega (arith, h, place_next c e more lt)))
      | inr le ↦ rw (has_here c e more le, place_first c e more le) refl
    ]

pub has_past : (c : ℕ) (es : List Entry) → length es ≤ place_in c es → has_in c es ≡ false
has_past c [] h = has_none c
has_past c (e ∷ more) h =
    elim (cases_lt e.column c) [
      | inl lt ↦ rw (unfolded_has c e more lt) (has_past c more (omega (arith, h, place_next c e more lt)))
      | inr le ↦ absurd (omega (arith, h, place_first c e more le))
    ]

same_of : (a b : ℕ) → b ≤ a → nat_eq a b ≡ true → a ≡ b
same_of a b le h = elim (cases_lt b a) [ inl lt ↦ absurd (let no = not_eq a b lt in cc) | inr ge ↦ omega (arith, le, ge) ]

apart_of : (a b : ℕ) → b ≤ a → nat_eq a b ≡ false → b < a
apart_of a b le h = elim (cases_lt b a) [ inl lt ↦ lt | inr ge ↦ absurd (let yes = is_eq a b (omega (arith, le, ge)) in cc) ]

pub with-removes : (c : ℕ) (v : ℤ) (es : List Entry) → has_in c es ≡ true → unsigned_abs v ≡ 0 → with_entry c v es ≡ remove es (place_in c es)
with-removes c v [] h z = absurd (let no = has_none c in cc)
with-removes c v (e ∷ more) h z =
    elim (cases_lt e.column c) [
      | inl lt ↦ rw (with_later c v e more lt, place_next c e more lt) (ap (λ (w : List Entry). e ∷ w) (with-removes c v more (sym (unfolded_has c e more lt) ∙ h) z))
      | inr le ↦ rw (with_here c v e more (same_of e.column c le (sym (has_here c e more le) ∙ h)), place_first c e more le, before_none c v more z) refl
    ]

pub with-sets : (c : ℕ) (v : ℤ) (es : List Entry) → has_in c es ≡ true → 0 < unsigned_abs v → with_entry c v es ≡ set es (place_in c es) (record { column = c; value = v })
with-sets c v [] h z = absurd (let no = has_none c in cc)
with-sets c v (e ∷ more) h z =
    elim (cases_lt e.column c) [
      | inl lt ↦ rw (with_later c v e more lt, place_next c e more lt) (ap (λ (w : List Entry). e ∷ w) (with-sets c v more (sym (unfolded_has c e more lt) ∙ h) z))
      | inr le ↦ rw (with_here c v e more (same_of e.column c le (sym (has_here c e more le) ∙ h)), place_first c e more le, before_some c v more z) refl
    ]

pub with-inserts : (c : ℕ) (v : ℤ) (es : List Entry) → has_in c es ≡ false → 0 < unsigned_abs v → with_entry c v es ≡ insert es (place_in c es) (record { column = c; value = v })
with-inserts c v [] h z = rw (with_none c v, place_none c, before_some c v [] z) refl
with-inserts c v (e ∷ more) h z =
    elim (cases_lt e.column c) [
      | inl lt ↦ rw (with_later c v e more lt, place_next c e more lt) (ap (λ (w : List Entry). e ∷ w) (with-inserts c v more (sym (unfolded_has c e more lt) ∙ h) z))
      | inr le ↦ rw (with_behind c v e more (apart_of e.column c le (sym (has_here c e more le) ∙ h)), place_first c e more le, before_some c v (e ∷ more) z) refl
    ]

pub with-keeps : (c : ℕ) (v : ℤ) (es : List Entry) → has_in c es ≡ false → unsigned_abs v ≡ 0 → with_entry c v es ≡ es
with-keeps c v [] h z = rw (with_none c v) (before_none c v [] z)
with-keeps c v (e ∷ more) h z =
    elim (cases_lt e.column c) [
      | inl lt ↦ rw (with_later c v e more lt) (ap (λ (w : List Entry). e ∷ w) (with-keeps c v more (sym (unfolded_has c e more lt) ∙ h) z))
      | inr le ↦ rw (with_behind c v e more (apart_of e.column c le (sym (has_here c e more le) ∙ h))) (before_none c v (e ∷ more) z)
    ]

pub has_place : (c : ℕ) (es : List Entry) → has_in c es ≡ true → place_in c es < length es
has_place c es h = elim (cases_lt (place_in c es) (length es)) [ inl lt ↦ lt | inr le ↦ absurd (let no = has_past c es le in cc) ]

-- there is room for an entry in a column that has none
pub room_for : (column width c : ℕ) (es : List Entry) → column ≤ c → c < width → is_sparse column width es ≡ true → has_in c es ≡ false → column + length es < width
room_for column width c [] from below h has = omega (arith, from, below)
room_for column width c (e ∷ more) from below h has =
    let f = first column width e more h in
    elim (cases_lt e.column c) [
      | inl lt ↦ omega (arith, f.from, room_for (suc e.column) width c more lt below f.rest (sym (unfolded_has c e more lt) ∙ has))
      | inr le ↦
          let apart : c < e.column = apart_of e.column c le (sym (has_here c e more le) ∙ has) in
          let rest : suc e.column + length more ≤ width = length_sparse (suc e.column) width more (omega (arith, f.below)) f.rest in
          omega (arith, from, apart, rest)
    ]

-- ---- behind all others

-- the columns rise, so where the last one is before another all are
pub place-behind : (c from width k : ℕ) (es : List Entry) (d : Entry) → k + 1 ≡ length es → is_sparse from width es ≡ true → (get_or es k d).column < c → place_in c es ≡ length es
place-behind c from width k [] d at h last = place_none c
place-behind c from width zero (e ∷ []) d at h last = place_next c e [] last ∙ ap suc (place_none c)
place-behind c from width (suc k) (e ∷ []) d at h last = absurd (omega (arith, at))
place-behind c from width zero (e ∷ e2 ∷ more) d at h last = absurd (omega (arith, at))
place-behind c from width (suc k) (e ∷ e2 ∷ more) d at h last =
    let f = first from width e (e2 ∷ more) h in
    let rest : place_in c (e2 ∷ more) ≡ length (e2 ∷ more) = place-behind c (suc e.column) width k (e2 ∷ more) d (omega (arith, at)) f.rest last in
    let g = first (suc e.column) width e2 more f.rest in
    elim (cases_lt e2.column c) [
      | inl lt ↦ place_next c e (e2 ∷ more) (omega (arith, lt, g.from)) ∙ ap suc rest
      | inr le ↦ absurd (omega (arith, rest, place_first c e2 more le))
    ]

pub place-empty : (c : ℕ) (es : List Entry) → length es ≡ 0 → place_in c es ≡ length es
place-empty c [] h = place_none c
place-empty c (e ∷ more) h = absurd (omega (arith, h))

pub has-behind : (c : ℕ) (es : List Entry) → place_in c es ≡ length es → has_in c es ≡ false
has-behind c es h = has_past c es (omega (arith, h))

pub with-behind : (c : ℕ) (v : ℤ) (es : List Entry) → place_in c es ≡ length es → with_entry c v es ≡ es ++ before c v []
with-behind c v [] h = with_none c v
with-behind c v (e ∷ more) h =
    elim (cases_lt e.column c) [
      | inl lt ↦ rw (with_later c v e more lt) (ap (λ (w : List Entry). e ∷ w) (with-behind c v more (omega (arith, h, place_next c e more lt))))
      | inr le ↦ absurd (omega (arith, h, place_first c e more le))
    ]
