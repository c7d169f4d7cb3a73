-- A row that loses a multiple of another, from a column on.
use Rattle.std.proofs.Common.{◌≡◌, ◌≤◌, ◌<◌, ◌+◌, ◌-◌, ℕ, zero, suc, true, false, ℤ, pos, List, [], ◌∷◌, ◌++◌, length, Ok, Err, arith, refl, sym, ap, ◌∙◌, inl, inr}
use Rattle.std.specs.Prelude.{nat_eq, if◌then◌else◌, min}
use Rattle.std.proofs.Math.IntN.{*ℤ-zero}
use Rattle.std.proofs.lemmas.List.{append-nil}
use Rattle.fix_core.specs.declared.NumFault.{NumFault}
use Rattle.fix_core.specs.Rounding.{rnd, nearest}
use Rattle.fix_core.specs.Passes.{and_then, joined}
use Rattle.fix_core.specs.Fixed.{IsInRange, ranged, product_of, difference_of, quotient_of}
use Rattle.fix_core.specs.Laws.{joined-joined, joined_none}
use Rattle.lin_solve.specs.Elimination.{minus_row, reduced, coefficient}
use Rattle.sparse_row.specs.declared.entry.Entry.{Entry}
use Rattle.sparse_row.specs.Entries.{filled, is_sparse, before}
use Rattle.sparse_row.specs.Passes.{first_column, head_value, behind}
use Rattle.sparse_row.proofs.Sparse.{first, is_eq, not_eq, filled_after, filled_at, sparse_after, sparse_more, sparse_none, sparse_before, length_sparse}
use Rattle.sparse_row.proofs.Lookup.{here_or_after}
use Rattle.sparse_row.proofs.Edits.{before_none, sparse-before, filled-before}

-- ---- entries in a wider row, and one behind them

pub sparse_wider : (column width wider : ℕ) (es : List Entry) → width ≤ wider → is_sparse column width es ≡ true → is_sparse column wider es ≡ true
sparse_wider column width wider [] le h = sparse_none column wider
sparse_wider column width wider (e ∷ more) le h =
    let f = first column width e more h in
    sparse_more column wider e more (record { from = f.from; below = omega (arith, f.below, le); some = f.some; within = f.within; rest = sparse_wider (suc e.column) width wider more le f.rest })

pub sparse-append : (column k : ℕ) (v : ℤ) (es : List Entry) → column ≤ k → IsInRange v → is_sparse column k es ≡ true → is_sparse column (suc k) (es ++ before k v []) ≡ true
sparse-append column k v [] le in_range h = sparse-before column (suc k) k v [] le (omega arith) in_range (sparse_none (suc k) (suc k))
sparse-append column k v (e ∷ more) le in_range h =
    let f = first column k e more h in
    sparse_more column (suc k) e (more ++ before k v []) (record { from = f.from; below = omega (arith, f.below); some = f.some; within = f.within; rest = sparse-append (suc e.column) k v more f.below in_range f.rest })

pub filled-append : (column n k : ℕ) (v : ℤ) (es : List Entry) → k ≡ column + n → IsInRange v → is_sparse column k es ≡ true → filled column (suc n) (es ++ before k v []) ≡ filled column n es ++ v ∷ []
unfolding filled
filled-append column zero k v [] at in_range h =
    let here : k ≡ column = omega (arith, at) in
    rw here (filled-before column 0 (suc column) v [] (sparse_none (suc column) (suc column)))
filled-append column zero k v (e ∷ more) at in_range h = absurd (let f = first column k e more h in omega (arith, at, f.from, f.below))
filled-append column (suc n) k v [] at in_range h =
    let later = sparse-before (suc column) (suc k) k v [] (omega (arith, at)) (omega arith) in_range (sparse_none (suc k) (suc k)) in
    filled_after column (suc n) (suc k) (before k v []) later
    ∙ ap (λ (z : List ℤ). pos 0 ∷ z) (filled-append (suc column) n k v [] (omega (arith, at)) in_range (sparse_none (suc column) k))
filled-append column (suc n) k v (e ∷ more) at in_range h =
    elim (here_or_after column k e more h) [
      | inl is ↦
          let f = first column k e more h in
          filled_at column (suc n) e (more ++ before k v []) is
          ∙ ap (λ (z : List ℤ). e.value ∷ z) (filled-append (suc column) n k v more (omega (arith, at)) in_range (rw is at f.rest))
          ∙ ap (λ (z : List ℤ). z ++ v ∷ []) (sym (filled_at column n e more is))
      | inr gap ↦
          let later = sparse_after column k e more gap h in
          let all = sparse-append (suc column) k v (e ∷ more) (omega (arith, at)) in_range later in
          filled_after column (suc n) (suc k) (e ∷ more ++ before k v []) all
          ∙ ap (λ (z : List ℤ). pos 0 ∷ z) (filled-append (suc column) n k v (e ∷ more) (omega (arith, at)) in_range later)
          ∙ ap (λ (z : List ℤ). z ++ v ∷ []) (sym (filled_after column n k (e ∷ more) later))
    ]

no_size : IsInRange (pos 0)
no_size = omega arith

-- a row of one more column, which no entry has
filled_wider : (k : ℕ) (es : List Entry) → is_sparse 0 k es ≡ true → filled 0 (suc k) es ≡ filled 0 k es ++ pos 0 ∷ []
filled_wider k es h =
    let nothing : before k (pos 0) [] ≡ [] = before_none k (pos 0) [] refl in
    let same : es ++ before k (pos 0) [] ≡ es = ap (λ (z : List Entry). es ++ z) nothing ∙ append-nil es in
    ap (filled 0 (suc k)) (sym same) ∙ filled-append 0 k k (pos 0) es (omega arith) no_size h

-- ---- the first column of what is left

pub filled_step : (k n : ℕ) (es : List Entry) → filled k (suc n) es ≡ head_value k es ∷ filled (suc k) n (behind k es)
unfolding filled head_value behind
filled_step k n [] = refl
filled_step k n (e ∷ more) =
    elim (nat_eq e.column k) as (λ t. (if t then e.value ∷ filled (suc k) n more else pos 0 ∷ filled (suc k) n (e ∷ more)) ≡ (if t then e.value else pos 0) ∷ filled (suc k) n (if t then more else e ∷ more)) [ true ↦ refl | false ↦ refl ]

pub sparse_behind : (k width : ℕ) (es : List Entry) → is_sparse k width es ≡ true → is_sparse (suc k) width (behind k es) ≡ true
unfolding behind
sparse_behind k width [] h = sparse_none (suc k) width
sparse_behind k width (e ∷ more) h =
    elim (here_or_after k width e more h) [
      | inl is ↦ let f = first k width e more h in rw (is_eq e.column k is) (rw is at f.rest)
      | inr gap ↦ rw (not_eq e.column k gap) (sparse_after k width e more gap h)
    ]

pub sparse_from : (column k width : ℕ) (es : List Entry) → is_sparse column width es ≡ true → k ≤ first_column width es → is_sparse k width es ≡ true
unfolding first_column
sparse_from column k width [] h le = sparse_none k width
sparse_from column k width (e ∷ more) h le =
    let f = first column width e more h in
    sparse_more k width e more (record { from = le; below = f.below; some = f.some; within = f.within; rest = f.rest })

pub first_from : (column width : ℕ) (es : List Entry) → column ≤ width → is_sparse column width es ≡ true → column ≤ first_column width es
unfolding first_column
first_from column width [] le h = le
first_from column width (e ∷ more) le h = (first column width e more h).from

pub first_within : (column width : ℕ) (es : List Entry) → is_sparse column width es ≡ true → first_column width es ≤ width
unfolding first_column
first_within column width [] h = omega arith
first_within column width (e ∷ more) h = omega (arith, (first column width e more h).below)

-- ---- columns that neither row has

pub no_loss : (f : ℤ) → product_of f (pos 0) ≡ Ok (pos 0)
unfolding product_of ranged rnd nearest
no_loss f = rw (*ℤ-zero f) refl

nothing_left : difference_of (pos 0) (pos 0) ≡ Ok (pos 0)
unfolding difference_of ranged
nothing_left = refl

zeros_lose : (f : ℤ) (ps xs : List ℤ) → minus_row f (pos 0 ∷ ps) (pos 0 ∷ xs) ≡ and_then (λ ys. Ok (pos 0 ∷ ys)) (minus_row f ps xs)
unfolding minus_row
zeros_lose f ps xs = rw (no_loss f, nothing_left) refl

pub gap : (f : ℤ) (d n k from width : ℕ) (out ps es : List Entry) → k ≡ from + d → is_sparse 0 from out ≡ true → is_sparse k width ps ≡ true → is_sparse k width es ≡ true →
    joined (filled 0 from out) (minus_row f (filled from (d + n) ps) (filled from (d + n) es)) ≡ joined (filled 0 k out) (minus_row f (filled k n ps) (filled k n es))
gap f zero n k from width out ps es at ho hp he =
    let here : from ≡ k = omega (arith, at) in
    let count : 0 + n ≡ n = omega arith in
    rw (count, here) refl
gap f (suc d) n k from width out ps es at ho hp he =
    let count : suc d + n ≡ suc (d + n) = omega arith in
    let later_p = sparse_before (suc from) k width ps (omega (arith, at)) hp in
    let later_e = sparse_before (suc from) k width es (omega (arith, at)) he in
    rw (count, filled_after from (d + n) width ps later_p, filled_after from (d + n) width es later_e, zeros_lose f (filled (suc from) (d + n) ps) (filled (suc from) (d + n) es))
    (joined-joined (filled 0 from out) (pos 0) (minus_row f (filled (suc from) (d + n) ps) (filled (suc from) (d + n) es))
    ∙ ap (λ (z : List ℤ). joined z (minus_row f (filled (suc from) (d + n) ps) (filled (suc from) (d + n) es))) (sym (filled_wider from out ho))
    ∙ gap f d n k (suc from) width out ps es (omega (arith, at)) (sparse_wider 0 from (suc from) out (omega arith) ho) hp he)

-- ---- a column that one of them has

entry_loses : (f p x loss v : ℤ) (ps xs : List ℤ) → product_of f p ≡ Ok loss → difference_of x loss ≡ Ok v → minus_row f (p ∷ ps) (x ∷ xs) ≡ and_then (λ ys. Ok (v ∷ ys)) (minus_row f ps xs)
unfolding minus_row
entry_loses f p x loss v ps xs hl hv = rw (hl, hv) refl

no_product : (f p x : ℤ) (ps xs : List ℤ) (e : NumFault) → product_of f p ≡ Err e → minus_row f (p ∷ ps) (x ∷ xs) ≡ Err e
unfolding minus_row
no_product f p x ps xs e h = rw h refl

no_difference : (f p x loss : ℤ) (ps xs : List ℤ) (e : NumFault) → product_of f p ≡ Ok loss → difference_of x loss ≡ Err e → minus_row f (p ∷ ps) (x ∷ xs) ≡ Err e
unfolding minus_row
no_difference f p x loss ps xs e hl h = rw (hl, h) refl

-- what a call of `merge` has at its column
pub record At (from k width : ℕ) (out ps es : List Entry) : Type 0 where
  pub from_le : from ≤ k
  pub below : k < width
  pub out_rises : is_sparse 0 from out ≡ true
  pub pivot_rises : is_sparse k width ps ≡ true
  pub row_rises : is_sparse k width es ≡ true

reached : (f : ℤ) (from k width : ℕ) (out ps es : List Entry) → At from k width out ps es →
    joined (filled 0 from out) (minus_row f (filled from (width - from) ps) (filled from (width - from) es)) ≡
    joined (filled 0 k out) (minus_row f (head_value k ps ∷ filled (suc k) (width - (k + 1)) (behind k ps)) (head_value k es ∷ filled (suc k) (width - (k + 1)) (behind k es)))
reached f from k width out ps es a =
    let count : width - from ≡ (k - from) + suc (width - (k + 1)) = omega (arith, a.from_le, a.below) in
    rw count
    (gap f (k - from) (suc (width - (k + 1))) k from width out ps es (omega (arith, a.from_le)) a.out_rises a.pivot_rises a.row_rises
    ∙ ap (λ (z : List ℤ). joined (filled 0 k out) (minus_row f z (filled k (suc (width - (k + 1))) es))) (filled_step k (width - (k + 1)) ps)
    ∙ ap (λ (z : List ℤ). joined (filled 0 k out) (minus_row f (head_value k ps ∷ filled (suc k) (width - (k + 1)) (behind k ps)) z)) (filled_step k (width - (k + 1)) es))

pub merge_no_product : (f : ℤ) (from k width : ℕ) (out ps es : List Entry) (e : NumFault) → At from k width out ps es → product_of f (head_value k ps) ≡ Err e →
    joined (filled 0 from out) (minus_row f (filled from (width - from) ps) (filled from (width - from) es)) ≡ Err e
merge_no_product f from k width out ps es e a h =
    reached f from k width out ps es a ∙ ap (joined (filled 0 k out)) (no_product f (head_value k ps) (head_value k es) (filled (suc k) (width - (k + 1)) (behind k ps)) (filled (suc k) (width - (k + 1)) (behind k es)) e h)

pub merge_no_difference : (f : ℤ) (from k width : ℕ) (out ps es : List Entry) (loss : ℤ) (e : NumFault) → At from k width out ps es → product_of f (head_value k ps) ≡ Ok loss → difference_of (head_value k es) loss ≡ Err e →
    joined (filled 0 from out) (minus_row f (filled from (width - from) ps) (filled from (width - from) es)) ≡ Err e
merge_no_difference f from k width out ps es loss e a hl h =
    reached f from k width out ps es a ∙ ap (joined (filled 0 k out)) (no_difference f (head_value k ps) (head_value k es) loss (filled (suc k) (width - (k + 1)) (behind k ps)) (filled (suc k) (width - (k + 1)) (behind k es)) e hl h)

pub merge_more : (f : ℤ) (from k width : ℕ) (out ps es : List Entry) (loss v : ℤ) → At from k width out ps es → IsInRange v → product_of f (head_value k ps) ≡ Ok loss → difference_of (head_value k es) loss ≡ Ok v →
    joined (filled 0 from out) (minus_row f (filled from (width - from) ps) (filled from (width - from) es)) ≡
    joined (filled 0 (k + 1) (out ++ before k v [])) (minus_row f (filled (k + 1) (width - (k + 1)) (behind k ps)) (filled (k + 1) (width - (k + 1)) (behind k es)))
merge_more f from k width out ps es loss v a in_range hl hv =
    let next : k + 1 ≡ suc k = omega arith in
    let rises : is_sparse 0 k out ≡ true = sparse_wider 0 from k out a.from_le a.out_rises in
    let rest = minus_row f (filled (suc k) (width - (k + 1)) (behind k ps)) (filled (suc k) (width - (k + 1)) (behind k es)) in
    reached f from k width out ps es a
    ∙ ap (joined (filled 0 k out)) (entry_loses f (head_value k ps) (head_value k es) loss v (filled (suc k) (width - (k + 1)) (behind k ps)) (filled (suc k) (width - (k + 1)) (behind k es)) hl hv)
    ∙ joined-joined (filled 0 k out) v rest
    ∙ ap (λ (z : List ℤ). joined z rest) (sym (filled-append 0 k k v out (omega arith) in_range rises))
    ∙ ap (λ (c : ℕ). joined (filled 0 c (out ++ before k v [])) (minus_row f (filled c (width - (k + 1)) (behind k ps)) (filled c (width - (k + 1)) (behind k es)))) (sym next)

nothing_loses : (f : ℤ) → minus_row f [] [] ≡ Ok []
unfolding minus_row
nothing_loses f = refl

none_filled : (k : ℕ) (es : List Entry) → filled k 0 es ≡ []
unfolding filled
none_filled k es = refl

pub merge_ends : (f : ℤ) (from width : ℕ) (out ps es : List Entry) → from ≤ width → is_sparse 0 from out ≡ true → is_sparse width width ps ≡ true → is_sparse width width es ≡ true →
    joined (filled 0 from out) (minus_row f (filled from (width - from) ps) (filled from (width - from) es)) ≡ Ok (filled 0 width out)
merge_ends f from width out ps es le ho hp he =
    let count : width - from ≡ (width - from) + 0 = omega arith in
    let all = gap f (width - from) 0 width from width out ps es (omega (arith, le)) ho hp he in
    ap (λ (n : ℕ). joined (filled 0 from out) (minus_row f (filled from n ps) (filled from n es))) count ∙ all
    ∙ rw (none_filled width ps, none_filled width es, nothing_loses f, append-nil (filled 0 width out)) refl

-- ---- as `merge` has them

pub at_of : (from k a b width : ℕ) (out ps es : List Entry) → a ≡ first_column width ps → b ≡ first_column width es → k ≡ min a b → (k ≡ width → ⊥) → from ≤ width → is_sparse from width ps ≡ true → is_sparse from width es ≡ true → is_sparse 0 from out ≡ true → At from k width out ps es
at_of from k a b width out ps es ea eb ek other le hp he ho =
    let low_p = first_from from width ps le hp in
    let low_e = first_from from width es le he in
    let high = first_within from width ps hp in
    record {
      from_le = omega (arith, ea, eb, ek, low_p, low_e);
      below = omega (arith, ea, ek, high, other);
      out_rises = ho;
      pivot_rises = sparse_from from k width ps hp (omega (arith, ea, ek));
      row_rises = sparse_from from k width es he (omega (arith, eb, ek));
    }

pub merge_ends_of : (f : ℤ) (from k a b width : ℕ) (out ps es : List Entry) → a ≡ first_column width ps → b ≡ first_column width es → k ≡ min a b → k ≡ width → from ≤ width → is_sparse from width ps ≡ true → is_sparse from width es ≡ true → is_sparse 0 from out ≡ true →
    joined (filled 0 from out) (minus_row f (filled from (width - from) ps) (filled from (width - from) es)) ≡ Ok (filled 0 width out)
merge_ends_of f from k a b width out ps es ea eb ek last le hp he ho =
    merge_ends f from width out ps es le ho (sparse_from from width width ps hp (omega (arith, ea, ek, last))) (sparse_from from width width es he (omega (arith, eb, ek, last)))

pub merge_more_of : (f : ℤ) (from k width : ℕ) (out ps es new pivot row : List Entry) (loss v : ℤ) → At from k width out ps es → IsInRange v → product_of f (head_value k ps) ≡ Ok loss → difference_of (head_value k es) loss ≡ Ok v →
    new ≡ out ++ before k v [] → pivot ≡ behind k ps → row ≡ behind k es →
    joined (filled 0 from out) (minus_row f (filled from (width - from) ps) (filled from (width - from) es)) ≡
    joined (filled 0 (k + 1) new) (minus_row f (filled (k + 1) (width - (k + 1)) pivot) (filled (k + 1) (width - (k + 1)) row))
merge_more_of f from k width out ps es new pivot row loss v a in_range hl hv en ep er = rw (en, ep, er) (merge_more f from k width out ps es loss v a in_range hl hv)

pub room_at : (from k width : ℕ) (out ps es : List Entry) → At from k width out ps es → length out < width
room_at from k width out ps es a =
    let short = length_sparse 0 k out (omega arith) (sparse_wider 0 from k out a.from_le a.out_rises) in
    omega (arith, short, a.below)

pub out_rises_on : (from k width : ℕ) (out ps es new : List Entry) (v : ℤ) → At from k width out ps es → IsInRange v → new ≡ out ++ before k v [] → is_sparse 0 (k + 1) new ≡ true
out_rises_on from k width out ps es new v a in_range en =
    let next : k + 1 ≡ suc k = omega arith in
    rw (en, next) (sparse-append 0 k v out (omega arith) in_range (sparse_wider 0 from k out a.from_le a.out_rises))

pub rises_on : (k width : ℕ) (es rest : List Entry) → is_sparse k width es ≡ true → rest ≡ behind k es → is_sparse (k + 1) width rest ≡ true
rises_on k width es rest h e =
    let next : k + 1 ≡ suc k = omega arith in
    rw (e, next) (sparse_behind k width es h)

-- a whole row
pub whole_row : (f : ℤ) (width : ℕ) (out ps es : List Entry) → out ≡ [] → joined (filled 0 0 out) (minus_row f (filled 0 (width - 0) ps) (filled 0 (width - 0) es)) ≡ minus_row f (filled 0 width ps) (filled 0 width es)
whole_row f width out ps es none =
    let count : width - 0 ≡ width = omega arith in
    rw (count, none_filled 0 out) (joined_none (minus_row f (filled 0 width ps) (filled 0 width es)))

-- the same of two rows that are kept by entries
pub row_loses : (f : ℤ) (width pivot_width : ℕ) (out ps es pivot_entries row_entries : List Entry) (pivot row : List ℤ) → filled 0 pivot_width ps ≡ pivot → filled 0 width es ≡ row → pivot_width ≡ width → pivot_entries ≡ ps → row_entries ≡ es → out ≡ [] →
    minus_row f pivot row ≡ joined (filled 0 0 out) (minus_row f (filled 0 (width - 0) pivot_entries) (filled 0 (width - 0) row_entries))
row_loses f width pivot_width out ps es pivot_entries row_entries pivot row vp vr same ep ee none = rw (← vp, ← vr, same, ep, ee) (sym (whole_row f width out ps es none))

-- ---- a column is cleared

pub reduced_fails : (column : ℕ) (pivot row : List ℤ) (e : NumFault) → quotient_of (coefficient column row) (coefficient column pivot) ≡ Err e → reduced column pivot row ≡ Err e
unfolding reduced
reduced_fails column pivot row e q = rw q refl

pub reduced_by : (column : ℕ) (pivot row : List ℤ) (f : ℤ) → quotient_of (coefficient column row) (coefficient column pivot) ≡ Ok f → reduced column pivot row ≡ minus_row f pivot row
unfolding reduced
reduced_by column pivot row f q = rw q refl
