-- Entries that rise, and the rows that they fill.
use Rattle.std.proofs.Common.{◌≡◌, ◌≤◌, ◌<◌, ◌+◌, ℕ, zero, suc, Bool, true, false, ℤ, pos, List, [], ◌∷◌, length, replicate, arith, refl, ap}
use Rattle.std.specs.Prelude.{nat_eq, nat_lt, nat_le, ◌&&◌, unsigned_abs, if◌then◌else◌}
use Rattle.std.proofs.lemmas.Bool.Decides.{nat_tests}
use Rattle.fix_core.specs.Units.{most_units}
use Rattle.fix_core.specs.Fixed.{IsInRange}
use Rattle.sparse_row.specs.declared.entry.Entry.{Entry}
use Rattle.sparse_row.specs.Entries.{filled, is_number, is_sparse}

and_left : (p q : Bool) → (p && q) ≡ true → p ≡ true
and_left true q h = refl
and_left false q h = absurd (cc)

and_right : (p q : Bool) → (p && q) ≡ true → q ≡ true
and_right true q h = h
and_right false q h = absurd (cc)

and_both : (p q : Bool) → p ≡ true → q ≡ true → (p && q) ≡ true
and_both p q h k = rw (h, k) refl

le_of : (a b : ℕ) → nat_le a b ≡ true → a ≤ b
le_of a b h = grind (arith, nat_tests)

pub lt_of : (a b : ℕ) → nat_lt a b ≡ true → a < b
lt_of a b h = grind (arith, nat_tests)

pub is_le : (a b : ℕ) → a ≤ b → nat_le a b ≡ true
is_le a b h = grind (arith, nat_tests)

pub is_lt : (a b : ℕ) → a < b → nat_lt a b ≡ true
is_lt a b h = grind (arith, nat_tests)

pub not_lt : (a b : ℕ) → b ≤ a → nat_lt a b ≡ false
not_lt a b h = grind (arith, nat_tests)

pub is_eq : (a b : ℕ) → a ≡ b → nat_eq a b ≡ true
is_eq a b h = grind (arith, nat_tests)

pub not_eq : (a b : ℕ) → b < a → nat_eq a b ≡ false
not_eq a b h = grind (arith, nat_tests)

pub below_not_eq : (a b : ℕ) → a < b → nat_eq a b ≡ false
below_not_eq a b h = grind (arith, nat_tests)

-- what the first entry is, and those behind it
pub record First (column width : ℕ) (e : Entry) (more : List Entry) : Type 0 where
  pub from : column ≤ e.column
  pub below : e.column < width
  pub some : 0 < unsigned_abs e.value
  pub within : IsInRange e.value
  pub rest : is_sparse (suc e.column) width more ≡ true

pub first : (column width : ℕ) (e : Entry) (more : List Entry) → is_sparse column width (e ∷ more) ≡ true → First column width e more
unfolding is_sparse is_number
first column width e more h =
    let places = and_left (nat_le column e.column && nat_lt e.column width) ((nat_lt 0 (unsigned_abs e.value) && nat_le (unsigned_abs e.value) most_units) && is_sparse (suc e.column) width more) h in
    let others = and_right (nat_le column e.column && nat_lt e.column width) ((nat_lt 0 (unsigned_abs e.value) && nat_le (unsigned_abs e.value) most_units) && is_sparse (suc e.column) width more) h in
    let number = and_left (nat_lt 0 (unsigned_abs e.value) && nat_le (unsigned_abs e.value) most_units) (is_sparse (suc e.column) width more) others in
    record {
      from = le_of column e.column (and_left (nat_le column e.column) (nat_lt e.column width) places);
      below = lt_of e.column width (and_right (nat_le column e.column) (nat_lt e.column width) places);
      some = lt_of 0 (unsigned_abs e.value) (and_left (nat_lt 0 (unsigned_abs e.value)) (nat_le (unsigned_abs e.value) most_units) number);
      within = le_of (unsigned_abs e.value) most_units (and_right (nat_lt 0 (unsigned_abs e.value)) (nat_le (unsigned_abs e.value) most_units) number);
      rest = and_right (nat_lt 0 (unsigned_abs e.value) && nat_le (unsigned_abs e.value) most_units) (is_sparse (suc e.column) width more) others;
    }

pub sparse_more : (column width : ℕ) (e : Entry) (more : List Entry) → First column width e more → is_sparse column width (e ∷ more) ≡ true
unfolding is_sparse is_number
sparse_more column width e more h =
    rw (is_le column e.column h.from, is_lt e.column width h.below, is_lt 0 (unsigned_abs e.value) h.some, is_le (unsigned_abs e.value) most_units h.within, h.rest) refl

pub sparse_none : (column width : ℕ) → is_sparse column width [] ≡ true
unfolding is_sparse
sparse_none column width = refl

-- entries that rise from a later column on rise from an earlier one on
pub sparse_before : (column later width : ℕ) (es : List Entry) → column ≤ later → is_sparse later width es ≡ true → is_sparse column width es ≡ true
sparse_before column later width [] le h = sparse_none column width
sparse_before column later width (e ∷ more) le h =
    let f = first later width e more h in
    sparse_more column width e more (record { from = omega (arith, le, f.from); below = f.below; some = f.some; within = f.within; rest = f.rest })

-- where the first entry is no entry of a column
pub sparse_after : (column width : ℕ) (e : Entry) (more : List Entry) → column < e.column → is_sparse column width (e ∷ more) ≡ true → is_sparse (suc column) width (e ∷ more) ≡ true
sparse_after column width e more lt h =
    let f = first column width e more h in
    sparse_more (suc column) width e more (record { from = omega (arith, lt); below = f.below; some = f.some; within = f.within; rest = f.rest })

-- ---- rows

pub length-filled : (column n : ℕ) (es : List Entry) → length (filled column n es) ≡ n
unfolding filled
length-filled column zero es = refl
length-filled column (suc n) [] = ap suc (length-filled (suc column) n [])
length-filled column (suc n) (e ∷ more) =
    elim (nat_eq e.column column) as (λ t. length (if t then e.value ∷ filled (suc column) n more else pos 0 ∷ filled (suc column) n (e ∷ more)) ≡ suc n) [
      | true ↦ ap suc (length-filled (suc column) n more)
      | false ↦ ap suc (length-filled (suc column) n (e ∷ more))
    ]

pub filled_none : (column n : ℕ) → filled column n [] ≡ replicate n (pos 0)
unfolding filled
filled_none column zero = refl
filled_none column (suc n) = ap (λ (z : List ℤ). pos 0 ∷ z) (filled_none (suc column) n)

-- a column that no entry has
pub filled_after : (column n width : ℕ) (es : List Entry) → is_sparse (suc column) width es ≡ true → filled column (suc n) es ≡ pos 0 ∷ filled (suc column) n es
unfolding filled
filled_after column n width [] h = refl
filled_after column n width (e ∷ more) h =
    let f = first (suc column) width e more h in
    rw (not_eq e.column column (omega (arith, f.from))) refl

-- the column of the first entry
pub filled_at : (column n : ℕ) (e : Entry) (more : List Entry) → e.column ≡ column → filled column (suc n) (e ∷ more) ≡ e.value ∷ filled (suc column) n more
unfolding filled
filled_at column n e more h = rw (is_eq e.column column h) refl

-- at most one entry for each column
pub length_sparse : (column width : ℕ) (es : List Entry) → column ≤ width → is_sparse column width es ≡ true → column + length es ≤ width
length_sparse column width [] le h = omega (arith, le)
length_sparse column width (e ∷ more) le h =
    let f = first column width e more h in
    let rest : suc e.column + length more ≤ width = length_sparse (suc e.column) width more (omega (arith, f.below)) f.rest in
    omega (arith, f.from, rest)
