-- Finding an entry.
use Rattle.std.proofs.Common.{◌≡◌, ◌≤◌, ◌<◌, ◌+◌, ℕ, zero, suc, true, false, pos, List, [], ◌∷◌, length, drop, get_or, arith, refl, sym, subst, ◌∙◌, inl, inr, ◌⊎◌, zero-add}
use Rattle.std.specs.Prelude.{nat_eq, if◌then◌else◌}
use Rattle.std.proofs.lemmas.Bool.{cases_lt}
use Rattle.std.proofs.lemmas.List.{drop_more, drop_all, get_or_default}
use Rattle.std.specs.List.{All}
use Rattle.fix_core.specs.Fixed.{IsInRange}
use Rattle.fix_core.specs.Laws.{at_place}
use Rattle.sparse_row.specs.declared.entry.Entry.{Entry}
use Rattle.sparse_row.specs.Entries.{filled, is_sparse, value_in, place_in}
use Rattle.sparse_row.proofs.Sparse.{first, is_eq, not_eq, below_not_eq, is_lt, not_lt, filled_after, filled_at, sparse_after, sparse_none, length-filled}

-- ---- from left to right

apart : (a b : ℕ) → (a ≡ b → ⊥) → nat_eq a b ≡ false
apart a b differ =
    elim (cases_lt a b) [
      | inl lt ↦ below_not_eq a b lt
      | inr le ↦ elim (cases_lt b a) [ inl lt ↦ not_eq a b lt | inr ge ↦ absurd (differ (omega (arith, le, ge))) ]
    ]

pub value_here : (c : ℕ) (es : List Entry) (i : ℕ) (e : Entry) → i < length es → e ≡ get_or es i e → e.column ≡ c → value_in c (drop i es) ≡ e.value
unfolding value_in
value_here c es i e h r k = rw (at_place es i e h r, is_eq e.column c k) refl

pub value_later : (c : ℕ) (es : List Entry) (i : ℕ) (e : Entry) → i < length es → e ≡ get_or es i e → (e.column ≡ c → ⊥) → value_in c (drop i es) ≡ value_in c (drop (i + 1) es)
unfolding value_in
value_later c es i e h r k = rw (at_place es i e h r, apart e.column c k) refl

pub value_end : (c : ℕ) (es : List Entry) (i : ℕ) → length es ≤ i → value_in c (drop i es) ≡ pos 0
unfolding value_in
value_end c es i h = rw (drop_all i es h) refl

pub place_later : (c : ℕ) (es : List Entry) (i : ℕ) (e : Entry) → i < length es → (get_or es i e).column < c → place_in c (drop i es) ≡ suc (place_in c (drop (i + 1) es))
unfolding place_in
place_later c es i e h k = rw (drop_more es i e h, is_lt (get_or es i e).column c k) refl

pub place_here : (c : ℕ) (es : List Entry) (i : ℕ) (e : Entry) → i < length es → c ≤ (get_or es i e).column → place_in c (drop i es) ≡ 0
unfolding place_in
place_here c es i e h k = rw (drop_more es i e h, not_lt (get_or es i e).column c k) refl

pub place_end : (c : ℕ) (es : List Entry) (i : ℕ) → length es ≤ i → place_in c (drop i es) ≡ 0
unfolding place_in
place_end c es i h = rw (drop_all i es h) refl

-- ---- in the row

-- an entry before all others
value_absent : (c start width : ℕ) (es : List Entry) → c < start → is_sparse start width es ≡ true → value_in c es ≡ pos 0
unfolding value_in
value_absent c start width [] lt h = refl
value_absent c start width (e ∷ more) lt h =
    let f = first start width e more h in
    rw (not_eq e.column c (omega (arith, f.from))) (value_absent c (suc e.column) width more (omega (arith, f.from)) f.rest)

-- the column of the first entry, or an earlier one
pub here_or_after : (column width : ℕ) (e : Entry) (more : List Entry) → is_sparse column width (e ∷ more) ≡ true → (e.column ≡ column) ⊎ (column < e.column)
here_or_after column width e more h =
    let f = first column width e more h in
    elim (cases_lt column e.column) [ inl lt ↦ inr lt | inr le ↦ inl (omega (arith, f.from, le)) ]

value_in-first : (e : Entry) (more : List Entry) (c : ℕ) → e.column ≡ c → value_in c (e ∷ more) ≡ e.value
unfolding value_in
value_in-first e more c h = rw (is_eq e.column c h) refl

value_in-other : (e : Entry) (more : List Entry) (c : ℕ) → e.column < c → value_in c (e ∷ more) ≡ value_in c more
unfolding value_in
value_in-other e more c h = rw (below_not_eq e.column c h) refl

value_in-none : (c : ℕ) → value_in c [] ≡ pos 0
unfolding value_in
value_in-none c = refl

pub filled_value : (column width n k c : ℕ) (es : List Entry) → k < n → c ≡ column + k → is_sparse column width es ≡ true → get_or (filled column n es) k (pos 0) ≡ value_in c es
filled_value column width zero k c es lt at h = absurd (omega (arith, lt))
filled_value column width (suc n) zero c [] lt at h = rw (filled_after column n width [] (sparse_none (suc column) width)) (sym (value_in-none c))
filled_value column width (suc n) (suc k) c [] lt at h =
    rw (filled_after column n width [] (sparse_none (suc column) width)) (filled_value (suc column) width n k c [] (omega (arith, lt)) (omega (arith, at)) (sparse_none (suc column) width))
filled_value column width (suc n) zero c (e ∷ more) lt at h =
    elim (here_or_after column width e more h) [
      | inl is ↦ rw (filled_at column n e more is) (sym (value_in-first e more c (omega (arith, at, is))))
      | inr gap ↦ rw (filled_after column n width (e ∷ more) (sparse_after column width e more gap h)) (sym (value_absent c (suc column) width (e ∷ more) (omega (arith, at)) (sparse_after column width e more gap h)))
    ]
filled_value column width (suc n) (suc k) c (e ∷ more) lt at h =
    elim (here_or_after column width e more h) [
      | inl is ↦
          let f = first column width e more h in
          rw (filled_at column n e more is) (filled_value (suc column) width n k c more (omega (arith, lt)) (omega (arith, at)) (rw is at f.rest) ∙ sym (value_in-other e more c (omega (arith, at, is))))
      | inr gap ↦
          let later = sparse_after column width e more gap h in
          rw (filled_after column n width (e ∷ more) later) (filled_value (suc column) width n k c (e ∷ more) (omega (arith, lt)) (omega (arith, at)) later)
    ]

value-within : (c start width : ℕ) (es : List Entry) → is_sparse start width es ≡ true → IsInRange (value_in c es)
unfolding value_in
value-within c start width [] h = omega arith
value-within c start width (e ∷ more) h =
    let f = first start width e more h in
    elim (nat_eq e.column c) as (λ t. IsInRange (if t then e.value else value_in c more)) [ true ↦ f.within | false ↦ value-within c (suc e.column) width more f.rest ]

-- each entry of the row is a number
pub filled-within : (width : ℕ) (es : List Entry) → is_sparse 0 width es ≡ true → All IsInRange (filled 0 width es)
filled-within width es h = λ k d lt.
    let inside : k < width = omega (arith, lt, length-filled 0 width es) in
    let is = get_or_default (filled 0 width es) k d (pos 0) lt ∙ filled_value 0 width width k k es inside (sym (zero-add k)) h in
    subst IsInRange (sym is) (value-within k 0 width es h)
