-- Sums of products with entries, and rows of products.
use Rattle.std.proofs.Common.{◌≡◌, ◌≤◌, ◌<◌, ◌+◌, ℕ, zero, suc, true, false, Bool, ℤ, pos, List, [], ◌∷◌, ◌++◌, length, take, drop, set, get_or, Result, Ok, Err, arith, refl, sym, ap, ◌∙◌, inl, inr, length-set}
use Rattle.std.specs.Prelude.{◌-ℤ◌}
use Rattle.std.proofs.Math.IntN.{*ℤ_comm, *ℤ-zero}
use Rattle.std.proofs.lemmas.Int.{ints}
use Rattle.std.proofs.lemmas.Bool.{cases_lt}
use Rattle.std.proofs.lemmas.List.{drop_all, drop_more, take_all, append-nil, set-get_or, take_more_set, drop-set-lt, get_or_default}
use Rattle.std.proofs.lemmas.List.Elements.{All-set, All-get_or}
use Rattle.std.specs.List.{All}
use Rattle.fix_core.specs.declared.NumFault.{NumFault}
use Rattle.fix_core.specs.Passes.{and_then, joined}
use Rattle.fix_core.specs.Rounding.{rnd, nearest}
use Rattle.fix_core.specs.Fixed.{IsInRange, ranged, product_of, difference_of}
use Rattle.fix_core.specs.Laws.{at_place, joined-joined, ranged-fits, difference_in_range}
use Rattle.lin_solve.specs.Elimination.{minus_product, minus_row, substituted}
use Rattle.sparse_row.specs.declared.entry.Entry.{Entry}
use Rattle.sparse_row.specs.Entries.{filled, is_sparse}
use Rattle.sparse_row.specs.Reads.{left_of, lost_in}
use Rattle.sparse_row.proofs.Sparse.{first, is_lt, not_lt, filled_after, filled_at, sparse_after, sparse_none, length-filled}
use Rattle.sparse_row.proofs.Lookup.{here_or_after}
use Rattle.sparse_row.proofs.Merging.{no_loss}
use Rattle.sparse_row.proofs.Raising.{nothing_from}

parts : {A B : Type 0} (r : Result A NumFault) (f : A → Result B NumFault) (b : B) → and_then f r ≡ Ok b → (a : A) × (r ≡ Ok a) × (f a ≡ Ok b)
parts (Ok a) f b e = (a, refl, e)
parts (Err x) f b e = cc

-- what follows an answer may know it
known : {A B : Type 0} (f g : A → Result B NumFault) (r : Result A NumFault) → ((a : A) → r ≡ Ok a → f a ≡ g a) → and_then f r ≡ and_then g r
known f g (Ok a) h = h a refl
known f g (Err x) h = refl

minus_product_in_range : (f p a y : ℤ) → minus_product f p a ≡ Ok y → IsInRange y
minus_product_in_range f p a y e = let q = parts (product_of f p) (difference_of a) y e in difference_in_range a q.0 y q.2

minus_nothing : (a : ℤ) → a -ℤ pos 0 ≡ a
minus_nothing a = omega (arith, ints)

less_nothing : (a : ℤ) → IsInRange a → difference_of a (pos 0) ≡ Ok a
unfolding difference_of
less_nothing a h = rw (minus_nothing a) (ranged-fits a h)

nothing_times : (p : ℤ) → product_of (pos 0) p ≡ Ok (pos 0)
unfolding product_of ranged rnd nearest
nothing_times p = rw (*ℤ_comm (pos 0) p, *ℤ-zero p) refl

zero_times : (x s : ℤ) → IsInRange s → minus_product (pos 0) x s ≡ Ok s
zero_times x s h = rw (nothing_times x) (less_nothing s h)

times_zero : (f b : ℤ) → IsInRange b → minus_product f (pos 0) b ≡ Ok b
times_zero f b h = rw (no_loss f) (less_nothing b h)

-- ---- a sum loses products

left_none : (c : ℕ) (xs : List ℤ) (s : ℤ) → left_of c xs s [] ≡ Ok s
unfolding left_of
left_none c xs s = refl

left_first : (c : ℕ) (xs : List ℤ) (s : ℤ) (e : Entry) (more : List Entry) → c < e.column → e.column < length xs → left_of c xs s (e ∷ more) ≡ and_then (λ t. left_of c xs t more) (minus_product e.value (get_or xs e.column (pos 0)) s)
unfolding left_of
left_first c xs s e more h k = rw (is_lt c e.column h, is_lt e.column (length xs) k) refl

left_before : (c : ℕ) (xs : List ℤ) (s : ℤ) (e : Entry) (more : List Entry) → e.column ≤ c → left_of c xs s (e ∷ more) ≡ left_of c xs s more
unfolding left_of
left_before c xs s e more h = rw (not_lt c e.column h) refl

left_both : (c : ℕ) (xs : List ℤ) (s : ℤ) (e : Entry) (more : List Entry) → c < e.column → length xs ≤ e.column → left_of c xs s (e ∷ more) ≡ left_of c xs s more
unfolding left_of
left_both c xs s e more h k = rw (is_lt c e.column h, not_lt e.column (length xs) k) refl

left_past : (c : ℕ) (xs : List ℤ) (s : ℤ) (e : Entry) (more : List Entry) → length xs ≤ e.column → left_of c xs s (e ∷ more) ≡ left_of c xs s more
left_past c xs s e more h = elim (cases_lt c e.column) [ inl lt ↦ left_both c xs s e more lt h | inr le ↦ left_before c xs s e more le ]

-- in the loop
pub left_here : (c : ℕ) (xs : List ℤ) (s : ℤ) (es : List Entry) (i : ℕ) (e : Entry) (x p t : ℤ) → i < length es → e ≡ get_or es i e → c < e.column → e.column < length xs → x ≡ get_or xs e.column x → product_of e.value x ≡ Ok p → difference_of s p ≡ Ok t → left_of c xs s (drop i es) ≡ left_of c xs t (drop (i + 1) es)
left_here c xs s es i e x p t h r k l rx ep et =
    rw (at_place es i e h r, left_first c xs s e (drop (i + 1) es) k l, get_or_default xs e.column (pos 0) x l ∙ sym rx, ep, et) refl

pub left_no_product : (c : ℕ) (xs : List ℤ) (s : ℤ) (es : List Entry) (i : ℕ) (e : Entry) (x : ℤ) (f : NumFault) → i < length es → e ≡ get_or es i e → c < e.column → e.column < length xs → x ≡ get_or xs e.column x → product_of e.value x ≡ Err f → left_of c xs s (drop i es) ≡ Err f
left_no_product c xs s es i e x f h r k l rx ep =
    rw (at_place es i e h r, left_first c xs s e (drop (i + 1) es) k l, get_or_default xs e.column (pos 0) x l ∙ sym rx, ep) refl

pub left_no_difference : (c : ℕ) (xs : List ℤ) (s : ℤ) (es : List Entry) (i : ℕ) (e : Entry) (x p : ℤ) (f : NumFault) → i < length es → e ≡ get_or es i e → c < e.column → e.column < length xs → x ≡ get_or xs e.column x → product_of e.value x ≡ Ok p → difference_of s p ≡ Err f → left_of c xs s (drop i es) ≡ Err f
left_no_difference c xs s es i e x p f h r k l rx ep et =
    rw (at_place es i e h r, left_first c xs s e (drop (i + 1) es) k l, get_or_default xs e.column (pos 0) x l ∙ sym rx, ep, et) refl

pub left_skips_early : (c : ℕ) (xs : List ℤ) (s : ℤ) (es : List Entry) (i : ℕ) (e : Entry) → i < length es → e ≡ get_or es i e → e.column ≤ c → left_of c xs s (drop i es) ≡ left_of c xs s (drop (i + 1) es)
left_skips_early c xs s es i e h r k = rw (at_place es i e h r) (left_before c xs s e (drop (i + 1) es) k)

pub left_skips_late : (c : ℕ) (xs : List ℤ) (s : ℤ) (es : List Entry) (i : ℕ) (e : Entry) → i < length es → e ≡ get_or es i e → length xs ≤ e.column → left_of c xs s (drop i es) ≡ left_of c xs s (drop (i + 1) es)
left_skips_late c xs s es i e h r k = rw (at_place es i e h r) (left_past c xs s e (drop (i + 1) es) k)

pub left_end : (c : ℕ) (xs : List ℤ) (s : ℤ) (es : List Entry) (i : ℕ) → length es ≤ i → left_of c xs s (drop i es) ≡ Ok s
left_end c xs s es i h = rw (drop_all i es h) (left_none c xs s)

-- in the row
left-all_past : (from width c : ℕ) (xs : List ℤ) (s : ℤ) (es : List Entry) → length xs ≤ from → is_sparse from width es ≡ true → left_of c xs s es ≡ Ok s
left-all_past from width c xs s [] le h = left_none c xs s
left-all_past from width c xs s (e ∷ more) le h =
    let f = first from width e more h in
    left_past c xs s e more (omega (arith, f.from, le)) ∙ left-all_past (suc e.column) width c xs s more (omega (arith, f.from, le)) f.rest

substituted_none : (s : ℤ) (cs : List ℤ) → substituted s cs [] ≡ Ok s
unfolding substituted
substituted_none s [] = refl
substituted_none s (c ∷ cs) = refl

substituted_zero : (s x : ℤ) (cs xs : List ℤ) → IsInRange s → substituted s (pos 0 ∷ cs) (x ∷ xs) ≡ substituted s cs xs
unfolding substituted
substituted_zero s x cs xs h = rw (zero_times x s h) refl

substituted_first : (s c x : ℤ) (cs xs : List ℤ) → substituted s (c ∷ cs) (x ∷ xs) ≡ and_then (λ t. substituted t cs xs) (minus_product c x s)
unfolding substituted
substituted_first s c x cs xs = refl

at_column : (c from width n : ℕ) (xs : List ℤ) (s : ℤ) (es : List Entry) → ((s : ℤ) (es : List Entry) → IsInRange s → is_sparse (suc from) width es ≡ true → substituted s (filled (suc from) n es) (drop (suc from) xs) ≡ left_of c xs s es) → from < length xs → c < from → IsInRange s → is_sparse from width es ≡ true → substituted s (filled from (suc n) es) (drop from xs) ≡ left_of c xs s es
at_column c from width n xs s [] later within lt r h =
    let next : from + 1 ≡ suc from = omega arith in
    let none = sparse_none (suc from) width in
    let number = ap (λ (k : ℕ). get_or xs from (pos 0) ∷ drop k xs) next in
    rw (filled_after from n width [] none, drop_more xs from (pos 0) within ∙ number)
    (substituted_zero s (get_or xs from (pos 0)) (filled (suc from) n []) (drop (suc from) xs) r ∙ later s [] r none)
at_column c from width n xs s (e ∷ more) later within lt r h =
    let next : from + 1 ≡ suc from = omega arith in
    let number = drop_more xs from (pos 0) within ∙ ap (λ (k : ℕ). get_or xs from (pos 0) ∷ drop k xs) next in
    elim (here_or_after from width e more h) [
      | inl is ↦
          let f = first from width e more h in
          let rest : is_sparse (suc from) width more ≡ true = rw is at f.rest in
          let x_is : get_or xs from (pos 0) ≡ get_or xs e.column (pos 0) = ap (λ (k : ℕ). get_or xs k (pos 0)) (sym is) in
          rw (filled_at from n e more is, number)
          (substituted_first s e.value (get_or xs from (pos 0)) (filled (suc from) n more) (drop (suc from) xs)
          ∙ known (λ (t : ℤ). substituted t (filled (suc from) n more) (drop (suc from) xs)) (λ (t : ℤ). left_of c xs t more) (minus_product e.value (get_or xs from (pos 0)) s) (λ (t : ℤ) (is_t : minus_product e.value (get_or xs from (pos 0)) s ≡ Ok t). later t more (minus_product_in_range e.value (get_or xs from (pos 0)) s t is_t) rest)
          ∙ ap (λ (x : ℤ). and_then (λ (t : ℤ). left_of c xs t more) (minus_product e.value x s)) x_is
          ∙ sym (left_first c xs s e more (omega (arith, lt, is)) (omega (arith, within, is))))
      | inr gap ↦
          let after = sparse_after from width e more gap h in
          rw (filled_after from n width (e ∷ more) after, number)
          (substituted_zero s (get_or xs from (pos 0)) (filled (suc from) n (e ∷ more)) (drop (suc from) xs) r ∙ later s (e ∷ more) r after)
    ]

-- from a column behind
pub behind : (c from width n : ℕ) (xs : List ℤ) (s : ℤ) (es : List Entry) → c < from → from + n ≡ width → length xs ≤ width → IsInRange s → is_sparse from width es ≡ true → substituted s (filled from n es) (drop from xs) ≡ left_of c xs s es
behind c from width zero xs s es lt at le r h =
    let past : length xs ≤ from = omega (arith, at, le) in
    rw (drop_all from xs past) (substituted_none s (filled from 0 es) ∙ sym (left-all_past from width c xs s es past h))
behind c from width (suc n) xs s es lt at le r h =
    elim (cases_lt from (length xs)) [
      | inl within ↦ at_column c from width n xs s es (λ (s : ℤ) (es : List Entry). behind c (suc from) width n xs s es (omega (arith, lt)) (omega (arith, at)) le) within lt r h
      | inr past ↦ rw (drop_all from xs past) (substituted_none s (filled from (suc n) es) ∙ sym (left-all_past from width c xs s es past h))
    ]

-- from a column on that lies before
pub substituted-filled : (c from d width n : ℕ) (xs : List ℤ) (s : ℤ) (es : List Entry) → c + 1 ≡ from + d → c < width → from + n ≡ width → length xs ≤ width → IsInRange s → is_sparse from width es ≡ true → substituted s (drop d (filled from n es)) (drop (c + 1) xs) ≡ left_of c xs s es
substituted-filled c from zero width n xs s es k below at le r h =
    let here : c + 1 ≡ from = omega (arith, k) in
    rw here (behind c from width n xs s es (omega (arith, here)) at le r h)
substituted-filled c from (suc d) width zero xs s es k below at le r h = absurd (omega (arith, k, below, at))
substituted-filled c from (suc d) width (suc n) xs s [] k below at le r h =
    let none = sparse_none (suc from) width in
    rw (filled_after from n width [] none) (substituted-filled c (suc from) d width n xs s [] (omega (arith, k)) below (omega (arith, at)) le r none)
substituted-filled c from (suc d) width (suc n) xs s (e ∷ more) k below at le r h =
    elim (here_or_after from width e more h) [
      | inl is ↦
          let f = first from width e more h in
          rw (filled_at from n e more is)
          (substituted-filled c (suc from) d width n xs s more (omega (arith, k)) below (omega (arith, at)) le r (rw is at f.rest) ∙ sym (left_before c xs s e more (omega (arith, k, is))))
      | inr gap ↦
          let after = sparse_after from width e more gap h in
          rw (filled_after from n width (e ∷ more) after) (substituted-filled c (suc from) d width n xs s (e ∷ more) (omega (arith, k)) below (omega (arith, at)) le r after)
    ]

-- ---- numbers lose products

lost_none : (f : ℤ) (bs : List ℤ) → lost_in f [] bs ≡ Ok bs
unfolding lost_in
lost_none f bs = refl

lost_first : (f : ℤ) (e : Entry) (more : List Entry) (bs : List ℤ) → lost_in f (e ∷ more) bs ≡ and_then (λ b. lost_in f more (set bs e.column b)) (minus_product f e.value (get_or bs e.column (pos 0)))
unfolding lost_in
lost_first f e more bs = refl

-- in the loop
pub column_below : (from width : ℕ) (es : List Entry) (i : ℕ) (e : Entry) → i < length es → e ≡ get_or es i e → is_sparse from width es ≡ true → e.column < width
column_below from width [] i e h r s = absurd (omega (arith, h))
column_below from width (x ∷ more) zero e h r s =
    let f = first from width x more s in
    let same : x ≡ e = sym r in
    let column : x.column ≡ e.column = ap (λ (z : Entry). z.column) same in
    omega (arith, column, f.below)
column_below from width (x ∷ more) (suc i) e h r s = column_below (suc x.column) width more i e (omega (arith, h)) r (first from width x more s).rest

pub lost_here : (f : ℤ) (es : List Entry) (bs : List ℤ) (i : ℕ) (e : Entry) (a p b : ℤ) → i < length es → e ≡ get_or es i e → e.column < length bs → a ≡ get_or bs e.column a → product_of f e.value ≡ Ok p → difference_of a p ≡ Ok b → lost_in f (drop i es) bs ≡ lost_in f (drop (i + 1) es) (set bs e.column b)
lost_here f es bs i e a p b h r l ra ep eb =
    rw (at_place es i e h r, lost_first f e (drop (i + 1) es) bs, get_or_default bs e.column (pos 0) a l ∙ sym ra, ep, eb) refl

pub lost_no_product : (f : ℤ) (es : List Entry) (bs : List ℤ) (i : ℕ) (e : Entry) (x : NumFault) → i < length es → e ≡ get_or es i e → product_of f e.value ≡ Err x → lost_in f (drop i es) bs ≡ Err x
lost_no_product f es bs i e x h r ep = rw (at_place es i e h r, lost_first f e (drop (i + 1) es) bs, ep) refl

pub lost_no_difference : (f : ℤ) (es : List Entry) (bs : List ℤ) (i : ℕ) (e : Entry) (a p : ℤ) (x : NumFault) → i < length es → e ≡ get_or es i e → e.column < length bs → a ≡ get_or bs e.column a → product_of f e.value ≡ Ok p → difference_of a p ≡ Err x → lost_in f (drop i es) bs ≡ Err x
lost_no_difference f es bs i e a p x h r l ra ep eb =
    rw (at_place es i e h r, lost_first f e (drop (i + 1) es) bs, get_or_default bs e.column (pos 0) a l ∙ sym ra, ep, eb) refl

pub lost_end : (f : ℤ) (es : List Entry) (bs : List ℤ) (i : ℕ) → length es ≤ i → lost_in f (drop i es) bs ≡ Ok bs
lost_end f es bs i h = rw (drop_all i es h) (lost_none f bs)

-- in the row
minus_row_first : (f p a : ℤ) (ps row : List ℤ) → minus_row f (p ∷ ps) (a ∷ row) ≡ and_then (λ b. and_then (λ bs. Ok (b ∷ bs)) (minus_row f ps row)) (minus_product f p a)
unfolding minus_row
minus_row_first f p a ps row = refl

nothing_left : (f : ℤ) (from : ℕ) (es : List Entry) (bs : List ℤ) → length bs ≤ from → joined (take from bs) (minus_row f (filled from 0 es) (drop from bs)) ≡ Ok bs
unfolding minus_row filled
nothing_left f from es bs h = rw (drop_all from bs h, take_all from bs h, append-nil bs) refl

-- one number and then the others
one_number : (f p : ℤ) (from : ℕ) (ps bs : List ℤ) (g : ℤ → Result (List ℤ) NumFault) → from < length bs → ((b : ℤ) → minus_product f p (get_or bs from (pos 0)) ≡ Ok b → joined (take (suc from) (set bs from b)) (minus_row f ps (drop (suc from) (set bs from b))) ≡ g b) → joined (take from bs) (minus_row f (p ∷ ps) (drop from bs)) ≡ and_then g (minus_product f p (get_or bs from (pos 0)))
one_number f p from ps bs g within later =
    let a : ℤ = get_or bs from (pos 0) in
    rw (drop_more bs from (pos 0) within, minus_row_first f p a ps (drop (from + 1) bs)) (by (minus_product f p a) later)
  where
    step : (b : ℤ) → joined (take from bs) (and_then (λ cs. Ok (b ∷ cs)) (minus_row f ps (drop (from + 1) bs))) ≡ joined (take (suc from) (set bs from b)) (minus_row f ps (drop (suc from) (set bs from b)))
    step b =
        let next : from + 1 ≡ suc from = omega arith in
        joined-joined (take from bs) b (minus_row f ps (drop (from + 1) bs))
        ∙ rw (← next, take_more_set bs from b within, drop-set-lt (from + 1) bs from b (omega arith)) refl

    by : (r : Result ℤ NumFault) → ((b : ℤ) → r ≡ Ok b → joined (take (suc from) (set bs from b)) (minus_row f ps (drop (suc from) (set bs from b))) ≡ g b) → joined (take from bs) (and_then (λ b. and_then (λ cs. Ok (b ∷ cs)) (minus_row f ps (drop (from + 1) bs))) r) ≡ and_then g r
    by (Err x) h = refl
    by (Ok b) h = step b ∙ h b refl

one_zero : (f : ℤ) (from : ℕ) (ps bs : List ℤ) → from < length bs → All IsInRange bs → joined (take from bs) (minus_row f (pos 0 ∷ ps) (drop from bs)) ≡ joined (take (suc from) bs) (minus_row f ps (drop (suc from) bs))
one_zero f from ps bs within all =
    let a : ℤ = get_or bs from (pos 0) in
    let stays : minus_product f (pos 0) a ≡ Ok a = times_zero f a (All-get_or IsInRange bs from (pos 0) within all) in
    let g : ℤ → Result (List ℤ) NumFault = λ (b : ℤ). joined (take (suc from) (set bs from b)) (minus_row f ps (drop (suc from) (set bs from b))) in
    one_number f (pos 0) from ps bs g within (λ (b : ℤ) (e : minus_product f (pos 0) a ≡ Ok b). refl)
    ∙ ap (and_then g) stays
    ∙ ap (λ (z : List ℤ). joined (take (suc from) z) (minus_row f ps (drop (suc from) z))) (set-get_or bs from (pos 0))

pub minus_row-filled : (f : ℤ) (from width n : ℕ) (es : List Entry) (bs : List ℤ) → from + n ≡ width → length bs ≡ width → All IsInRange bs → is_sparse from width es ≡ true → joined (take from bs) (minus_row f (filled from n es) (drop from bs)) ≡ lost_in f es bs
minus_row-filled f from width zero es bs at long all h =
    let here : width ≡ from = omega (arith, at) in
    nothing_left f from es bs (omega (arith, long, here)) ∙ sym (ap (λ (z : List Entry). lost_in f z bs) (nothing_from from es (rw here at h)) ∙ lost_none f bs)
minus_row-filled f from width (suc n) [] bs at long all h =
    let none = sparse_none (suc from) width in
    rw (filled_after from n width [] none) (one_zero f from (filled (suc from) n []) bs (omega (arith, at, long)) all ∙ minus_row-filled f (suc from) width n [] bs (omega (arith, at)) long all none)
minus_row-filled f from width (suc n) (e ∷ more) bs at long all h =
    elim (here_or_after from width e more h) [
      | inl is ↦
          let g = first from width e more h in
          let rest : is_sparse (suc from) width more ≡ true = rw is at g.rest in
          rw (filled_at from n e more is)
          (one_number f e.value from (filled (suc from) n more) bs (λ (b : ℤ). lost_in f more (set bs from b)) (omega (arith, at, long)) (λ (b : ℤ) (is_b : minus_product f e.value (get_or bs from (pos 0)) ≡ Ok b).
          minus_row-filled f (suc from) width n more (set bs from b) (omega (arith, at)) (length-set bs from b ∙ long) (All-set IsInRange bs from b (minus_product_in_range f e.value (get_or bs from (pos 0)) b is_b) all) rest)
          ∙ ap (λ (k : ℕ). and_then (λ (b : ℤ). lost_in f more (set bs k b)) (minus_product f e.value (get_or bs k (pos 0)))) (sym is)
          ∙ sym (lost_first f e more bs))
      | inr gap ↦
          let after = sparse_after from width e more gap h in
          rw (filled_after from n width (e ∷ more) after) (one_zero f from (filled (suc from) n (e ∷ more)) bs (omega (arith, at, long)) all ∙ minus_row-filled f (suc from) width n (e ∷ more) bs (omega (arith, at)) long all after)
    ]

pub ruleset sums = (left_no_product, left_no_difference, left_end)

pub ruleset losses = (lost_no_product, lost_no_difference, lost_end)
