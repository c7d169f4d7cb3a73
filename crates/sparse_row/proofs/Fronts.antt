-- The entries before a column, and rows that are alike.
use Rattle.std.proofs.Common.{◌≡◌, ◌≤◌, ◌<◌, ◌+◌, ℕ, zero, suc, true, ℤ, pos, List, [], ◌∷◌, length, take, drop, get_or, arith, refl, sym, ap, ap₂, ◌∙◌, inl, inr, ◌↔◌}
use Rattle.std.specs.Prelude.{unsigned_abs}
use Rattle.std.proofs.lemmas.Bool.{cases_lt}
use Rattle.sparse_row.specs.declared.entry.Entry.{Entry}
use Rattle.sparse_row.specs.Entries.{filled, is_sparse, place_in, before}
use Rattle.sparse_row.specs.Passes.{head_value, behind}
use Rattle.sparse_row.specs.Reads.{cut}
use Rattle.sparse_row.proofs.Sparse.{first, is_lt, not_lt, is_eq, not_eq, filled_after, filled_at, sparse_after, sparse_more, sparse_none, length-filled}
use Rattle.sparse_row.proofs.Lookup.{here_or_after}
use Rattle.sparse_row.proofs.Edits.{before_none, before_some, place-le}
use Rattle.sparse_row.proofs.Merging.{filled_step, sparse_behind}
use Rattle.sparse_row.proofs.Raising.{nothing_from}

-- ---- the entries before a column

cut_none : (c : ℕ) → cut c [] ≡ []
unfolding cut
cut_none c = refl

cut_more : (c : ℕ) (e : Entry) (more : List Entry) → e.column < c → cut c (e ∷ more) ≡ e ∷ cut c more
unfolding cut
cut_more c e more h = rw (is_lt e.column c h) refl

cut_stops : (c : ℕ) (e : Entry) (more : List Entry) → c ≤ e.column → cut c (e ∷ more) ≡ []
unfolding cut
cut_stops c e more h = rw (not_lt e.column c h) refl

pub cut_is : (c : ℕ) (es : List Entry) → take (place_in c es) es ≡ cut c es
unfolding place_in
cut_is c [] = sym (cut_none c)
cut_is c (e ∷ more) =
    elim (cases_lt e.column c) [
      | inl lt ↦ rw (cut_more c e more lt, is_lt e.column c lt) (ap (λ (z : List Entry). e ∷ z) (cut_is c more))
      | inr le ↦ rw (cut_stops c e more le, not_lt e.column c le) refl
    ]

pub cut-sparse : (from width c : ℕ) (es : List Entry) → is_sparse from width es ≡ true → is_sparse from c (cut c es) ≡ true
cut-sparse from width c [] h = rw (cut_none c) (sparse_none from c)
cut-sparse from width c (e ∷ more) h =
    let f = first from width e more h in
    elim (cases_lt e.column c) [
      | inl lt ↦ rw (cut_more c e more lt) (sparse_more from c e (cut c more) (record { from = f.from; below = lt; some = f.some; within = f.within; rest = cut-sparse (suc e.column) width c more f.rest }))
      | inr le ↦ rw (cut_stops c e more le) (sparse_none from c)
    ]

filled_nothing : (from : ℕ) (es fs : List Entry) (n : ℕ) → filled from 0 es ≡ take 0 (filled from n fs)
unfolding filled
filled_nothing from es fs n = refl

pub cut-filled : (from width n k c : ℕ) (es : List Entry) → k ≤ n → c ≡ from + k → is_sparse from width es ≡ true → filled from k (cut c es) ≡ take k (filled from n es)
cut-filled from width n zero c es le at h = filled_nothing from (cut c es) es n
cut-filled from width zero (suc k) c es le at h = absurd (omega (arith, le))
cut-filled from width (suc n) (suc k) c [] le at h =
    let none = sparse_none (suc from) width in
    let short = cut-sparse (suc from) width c [] none in
    rw (filled_after from k c (cut c []) short, filled_after from n width [] none) (ap (λ (z : List ℤ). pos 0 ∷ z) (cut-filled (suc from) width n k c [] (omega (arith, le)) (omega (arith, at)) none))
cut-filled from width (suc n) (suc k) c (e ∷ more) le at h =
    elim (here_or_after from width e more h) [
      | inl is ↦
          let f = first from width e more h in
          rw (cut_more c e more (omega (arith, at, is)), filled_at from k e (cut c more) is, filled_at from n e more is)
          (ap (λ (z : List ℤ). e.value ∷ z) (cut-filled (suc from) width n k c more (omega (arith, le)) (omega (arith, at)) (rw is at f.rest)))
      | inr gap ↦
          let later = sparse_after from width e more gap h in
          let short = cut-sparse (suc from) width c (e ∷ more) later in
          rw (filled_after from k c (cut c (e ∷ more)) short, filled_after from n width (e ∷ more) later)
          (ap (λ (z : List ℤ). pos 0 ∷ z) (cut-filled (suc from) width n k c (e ∷ more) (omega (arith, le)) (omega (arith, at)) later))
    ]

-- ---- rows that are alike have the same entries

head_none : (k : ℕ) → before k (head_value k []) (behind k []) ≡ []
unfolding head_value behind
head_none k = before_none k (pos 0) [] refl

head_here : (k : ℕ) (e : Entry) (more : List Entry) → e.column ≡ k → 0 < unsigned_abs e.value → before k (head_value k (e ∷ more)) (behind k (e ∷ more)) ≡ e ∷ more
unfolding head_value behind
head_here k e more is some = rw (is_eq e.column k is) (before_some k e.value more some ∙ ap (λ (c : ℕ). record { column = c; value = e.value } ∷ more) (sym is))

head_later : (k : ℕ) (e : Entry) (more : List Entry) → k < e.column → before k (head_value k (e ∷ more)) (behind k (e ∷ more)) ≡ e ∷ more
unfolding head_value behind
head_later k e more gap = rw (not_eq e.column k gap) (before_none k (pos 0) (e ∷ more) refl)

restored : (k width : ℕ) (es : List Entry) → is_sparse k width es ≡ true → before k (head_value k es) (behind k es) ≡ es
restored k width [] h = head_none k
restored k width (e ∷ more) h =
    elim (here_or_after k width e more h) [
      | inl is ↦ head_here k e more is (first k width e more h).some
      | inr gap ↦ head_later k e more gap
    ]

pub alike : (from width n : ℕ) (es fs : List Entry) → from + n ≡ width → is_sparse from width es ≡ true → is_sparse from width fs ≡ true → filled from n es ≡ filled from n fs → es ≡ fs
alike from width zero es fs at he hf same =
    let here : width ≡ from = omega (arith, at) in
    nothing_from from es (rw here at he) ∙ sym (nothing_from from fs (rw here at hf))
alike from width (suc n) es fs at he hf same =
    let both = sym (filled_step from n es) ∙ same ∙ filled_step from n fs in
    let heads : head_value from es ≡ head_value from fs = ap (λ (z : List ℤ). get_or z 0 (pos 0)) both in
    let rest = alike (suc from) width n (behind from es) (behind from fs) (omega (arith, at)) (sparse_behind from width es he) (sparse_behind from width fs hf) (ap (drop 1) both) in
    sym (restored from width es he) ∙ ap₂ (λ (v : ℤ) (z : List Entry). before from v z) heads rest ∙ restored from width fs hf

-- ---- as the code compares and copies

pub begins_means : (w v : ℕ) (es fs : List Entry) (row other : List ℤ) → filled 0 w es ≡ row → filled 0 v fs ≡ other → length row ≤ length other → is_sparse 0 w es ≡ true → is_sparse 0 v fs ≡ true → (es ≡ cut w fs) ↔ (row ≡ take (length row) other)
begins_means w v es fs row other er eo le hs ho =
    let long : length row ≡ w = ap length (sym er) ∙ length-filled 0 w es in
    let wide : length other ≡ v = ap length (sym eo) ∙ length-filled 0 v fs in
    let front = cut-filled 0 v v w w fs (omega (arith, long, wide, le)) (omega arith) ho in (
      λ h. rw (long, ← er, ← eo) (ap (filled 0 w) h ∙ front),
      λ h. alike 0 w w es (cut w fs) (omega arith) hs (cut-sparse 0 v w fs ho) (er ∙ (rw (long, ← eo) at h) ∙ sym front),
    )
