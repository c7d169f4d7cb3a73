-- Fallible passes over lists, one element at a time.
use Rattle.std.proofs.Common.{◌≡◌, ℕ, zero, suc, ◌+◌, ◌-◌, ◌<◌, ◌≤◌, ℤ, pos, negsuc, List, [], ◌∷◌, ◌++◌, length, take, drop, set, get_or, Ok, Err, ◌⊎◌, inl, inr, refl, sym, ap, ◌∙◌, arith}
use Rattle.std.proofs.lemmas.List.{drop_more, take_more_set, drop-set-lt, append-nil, take_all, drop_all, drop_at, length-take, length-drop, length-map, map-append, map-set, get_or-map, get_or-drop, get_or_default, with_items_is}
use Rattle.std.specs.Prelude.{max, unsigned_abs, nat_eq, nat_le, ◌||◌, true, false}
use Rattle.std.proofs.lemmas.Bool.Decides.{nat_tests}
use Rattle.std.specs.Global.{Vec}
use Rattle.std.specs.Vec.{with_items}
use Rattle.lin_solve.specs.Entries.{items_of}
use borrow.Rule.Slice.PartMut.{put_mid}
use Rattle.fix_core.specs.Units.{units_per_one, most_units}
use Rattle.fix_core.specs.declared.NumFault.{NumFault}
use Rattle.fix_core.specs.declared.NumFault.TheVariants.{Overflow}
use Rattle.fix_core.specs.Rounding.{nearest, rnd}
use Rattle.fix_core.specs.Passes.{and_then, joined}
use Rattle.fix_core.specs.Laws.{joined-joined, joined_none, at_place, ranged-fits, ranged-overflows, ranged_in_range, each_fails, each_end, each_start}
use Rattle.std.proofs.lemmas.Bool.{cases_lt}
use Rattle.fix_core.specs.Fixed.{ranged, IsInRange, tenfold_of, product_of, difference_of, quotient_of}
use Rattle.std.specs.Prelude.{◌-ℤ◌, ◌*ℤ◌}
use Rattle.std.specs.List.{All}
use Rattle.std.proofs.Math.IntN.{*ℤ_comm, *ℤ-zero}
use Rattle.std.proofs.lemmas.Int.{ints}
use Rattle.std.proofs.lemmas.List.Elements.{All-head, All-tail}
use Rattle.lin_solve.specs.Elimination.{coefficient, largest, place_of_largest, right_side, substituted, unknown, scaled, tenfold, coefficients, minus_row, reduced}

pub minus_row_more : (f : ℤ) (ps xs : List ℤ) (i : ℕ) (p x c b : ℤ) → i < length ps → i < length xs → p ≡ get_or ps i p → x ≡ get_or xs i x → product_of f p ≡ Ok c → difference_of x c ≡ Ok b → joined (take i xs) (minus_row f (drop i ps) (drop i xs)) ≡ joined (take (i + 1) (set xs i b)) (minus_row f (drop (i + 1) ps) (drop (i + 1) (set xs i b)))
unfolding minus_row
minus_row_more f ps xs i p x c b hp hx rp rx ec eb =
    rw (at_place ps i p hp rp, at_place xs i x hx rx, ec, eb, take_more_set xs i b hx, drop-set-lt (i + 1) xs i b (omega arith)) (joined-joined (take i xs) b (minus_row f (drop (i + 1) ps) (drop (i + 1) xs)))

pub minus_row_no_product : (f : ℤ) (ps xs : List ℤ) (i : ℕ) (p : ℤ) (e : NumFault) → i < length ps → i < length xs → p ≡ get_or ps i p → product_of f p ≡ Err e → joined (take i xs) (minus_row f (drop i ps) (drop i xs)) ≡ Err e
unfolding minus_row
minus_row_no_product f ps xs i p e hp hx rp ec = rw (at_place ps i p hp rp, drop_more xs i p hx, ec) refl

pub minus_row_no_difference : (f : ℤ) (ps xs : List ℤ) (i : ℕ) (p x c : ℤ) (e : NumFault) → i < length ps → i < length xs → p ≡ get_or ps i p → x ≡ get_or xs i x → product_of f p ≡ Ok c → difference_of x c ≡ Err e → joined (take i xs) (minus_row f (drop i ps) (drop i xs)) ≡ Err e
unfolding minus_row
minus_row_no_difference f ps xs i p x c e hp hx rp rx ec eb = rw (at_place ps i p hp rp, at_place xs i x hx rx, ec, eb) refl

pub minus_row_end : (f : ℤ) (ps xs : List ℤ) (i : ℕ) → length ps ≤ i → length xs ≤ i → joined (take i xs) (minus_row f (drop i ps) (drop i xs)) ≡ Ok xs
unfolding minus_row
minus_row_end f ps xs i hp hx = rw (drop_all i ps hp, drop_all i xs hx, take_all i xs hx, append-nil xs) refl

pub minus_row_start : (f : ℤ) (ps xs : List ℤ) → joined (take 0 xs) (minus_row f (drop 0 ps) (drop 0 xs)) ≡ minus_row f ps xs
minus_row_start f ps xs = joined_none (minus_row f ps xs)

pub ruleset minus_rows = (minus_row_no_product, minus_row_no_difference, minus_row_end, minus_row_more, minus_row_start)

-- a coefficient that was read
pub coefficient_is : (column : ℕ) (row : List ℤ) (x : ℤ) → column < length row → x ≡ get_or row column x → coefficient column row ≡ x
coefficient_is column row x h e = get_or_default row column (pos 0) x h ∙ sym e

pub reduced_no_factor : (ps xs : List ℤ) (i : ℕ) (p x : ℤ) (e : NumFault) → i < length ps → i < length xs → p ≡ get_or ps i p → x ≡ get_or xs i x → quotient_of x p ≡ Err e → reduced i ps xs ≡ Err e
unfolding reduced
reduced_no_factor ps xs i p x e hp hx rp rx q = rw (coefficient_is i ps p hp rp, coefficient_is i xs x hx rx, q) refl

pub reduced_is : (ps xs : List ℤ) (i : ℕ) (p x f : ℤ) → i < length ps → i < length xs → p ≡ get_or ps i p → x ≡ get_or xs i x → quotient_of x p ≡ Ok f → reduced i ps xs ≡ minus_row f ps xs
unfolding reduced
reduced_is ps xs i p x f hp hx rp rx q = rw (coefficient_is i ps p hp rp, coefficient_is i xs x hx rx, q) refl

-- ---- a factor of 0

pub zero_size : (z : ℤ) → unsigned_abs z ≡ 0 → z ≡ pos 0
zero_size (pos n) h = ap pos h
zero_size (negsuc n) h = absurd (omega arith)

nothing_lost : (p : ℤ) → product_of (pos 0) p ≡ Ok (pos 0)
unfolding product_of ranged rnd nearest
nothing_lost p = rw (*ℤ_comm (pos 0) p, *ℤ-zero p) refl

minus_zero : (a : ℤ) → a -ℤ pos 0 ≡ a
minus_zero a = omega (arith, ints)

kept_where_in_range : (a : ℤ) → IsInRange a → difference_of a (pos 0) ≡ Ok a
unfolding difference_of
kept_where_in_range a h = rw (minus_zero a) (ranged-fits a h)

-- a row whose factor is 0 stays as it is
pub minus_row-zero : (ps row : List ℤ) → length ps ≡ length row → All IsInRange row → minus_row (pos 0) ps row ≡ Ok row
unfolding minus_row
minus_row-zero [] row e all = refl
minus_row-zero (p ∷ ps) [] e all = refl
minus_row-zero (p ∷ ps) (a ∷ row) e all =
    let more : minus_row (pos 0) ps row ≡ Ok row = minus_row-zero ps row (omega arith) (All-tail IsInRange a row all) in
    rw (nothing_lost p, kept_where_in_range a (All-head IsInRange a row all), more) refl

pub ranged_is : (z d : ℤ) → ranged z ≡ Ok d → z ≡ d
ranged_is z d e =
    elim (cases_lt most_units (unsigned_abs z)) [ inl past ↦ let f : ranged z ≡ Err Overflow = ranged-overflows z past in cc | inr fits ↦ let f : ranged z ≡ Ok z = ranged-fits z fits in cc ]

pub tenfold-within : (a d : ℤ) → tenfold_of a ≡ Ok d → IsInRange d
unfolding tenfold_of
tenfold-within a d e = ranged_in_range (a *ℤ pos 10) d e

pub ruleset reductions = (reduced_no_factor, reduced_is)

-- what `&mut xs[a..]` was left with
pub drop-lent : {A : Type 0} (a k : ℕ) (xs ys : List A) → a ≤ length xs → length xs ≤ a + k → drop a (put_mid a k xs ys) ≡ ys
drop-lent a k xs ys h le =
    let nothing : drop k (drop a xs) ≡ [] = drop_all k (drop a xs) (omega (arith, length-drop a xs)) in
    drop_at (take a xs) (ys ++ drop k (drop a xs)) a (omega (arith, length-take a xs)) ∙ ap (λ zs. ys ++ zs) nothing ∙ append-nil ys

-- ---- the rows below the pivot row

-- a row by its place, and a row that was written
pub item_at : (rows : List (Vec ℤ)) (i : ℕ) (v : Vec ℤ) (d : List ℤ) → i < length rows → get_or (items_of rows) i d ≡ (get_or rows i v).items
item_at rows i v d h = get_or-map (λ (r : Vec ℤ). r.items) rows i v d h

pub items_set : (rows : List (Vec ℤ)) (i : ℕ) (w : Vec ℤ) (ys : List ℤ) → length ys ≡ w.len → items_of (set rows i (with_items w ys)) ≡ set (items_of rows) i ys
items_set rows i w ys h = map-set (λ (r : Vec ℤ). r.items) rows i (with_items w ys) ∙ ap (set (items_of rows) i) (with_items_is w ys h)

-- ---- the pivot

pub largest_none : largest [] ≡ 0
unfolding largest
largest_none = refl

pub largest_more : (x : ℤ) (xs : List ℤ) → largest (x ∷ xs) ≡ max (unsigned_abs x) (largest xs)
unfolding largest
largest_more x xs = refl

place_first : (a : ℤ) (more : List ℤ) → largest more ≤ unsigned_abs a → place_of_largest (a ∷ more) ≡ 0
unfolding place_of_largest
place_first a more h = grind arith

place_behind : (a : ℤ) (more : List ℤ) → unsigned_abs a < largest more → place_of_largest (a ∷ more) ≡ suc (place_of_largest more)
unfolding place_of_largest
place_behind a more h = grind arith

-- a loop from the last entry to the first: here the entry before those that are done
pub largest_here : (xs : List ℤ) (i : ℕ) → i < length xs → largest (drop i xs) ≡ max (unsigned_abs (get_or xs i (pos 0))) (largest (drop (i + 1) xs))
largest_here xs i h = rw (drop_more xs i (pos 0) h) (largest_more (get_or xs i (pos 0)) (drop (i + 1) xs))

pub place_here : (xs : List ℤ) (i : ℕ) → i < length xs → largest (drop (i + 1) xs) ≤ unsigned_abs (get_or xs i (pos 0)) → place_of_largest (drop i xs) ≡ 0
place_here xs i h le = rw (drop_more xs i (pos 0) h) (place_first (get_or xs i (pos 0)) (drop (i + 1) xs) le)

pub place_later : (xs : List ℤ) (i : ℕ) → i < length xs → unsigned_abs (get_or xs i (pos 0)) < largest (drop (i + 1) xs) → place_of_largest (drop i xs) ≡ suc (place_of_largest (drop (i + 1) xs))
place_later xs i h lt = rw (drop_more xs i (pos 0) h) (place_behind (get_or xs i (pos 0)) (drop (i + 1) xs) lt)

pub ruleset pivots = (largest_none, largest_here, place_here, place_later, length-map, drop_all, get_or-map)

-- ---- back substitution

pub substituted_more : (s c x p t : ℤ) (cs xs : List ℤ) (i : ℕ) → i < length cs → i < length xs → c ≡ get_or cs i c → x ≡ get_or xs i x → product_of c x ≡ Ok p → difference_of s p ≡ Ok t → substituted s (drop i cs) (drop i xs) ≡ substituted t (drop (i + 1) cs) (drop (i + 1) xs)
unfolding substituted
substituted_more s c x p t cs xs i hc hx rc rx ep et = rw (at_place cs i c hc rc, at_place xs i x hx rx, ep, et) refl

pub substituted_no_product : (s c x : ℤ) (cs xs : List ℤ) (i : ℕ) (e : NumFault) → i < length cs → i < length xs → c ≡ get_or cs i c → x ≡ get_or xs i x → product_of c x ≡ Err e → substituted s (drop i cs) (drop i xs) ≡ Err e
unfolding substituted
substituted_no_product s c x cs xs i e hc hx rc rx ep = rw (at_place cs i c hc rc, at_place xs i x hx rx, ep) refl

pub substituted_no_difference : (s c x p : ℤ) (cs xs : List ℤ) (i : ℕ) (e : NumFault) → i < length cs → i < length xs → c ≡ get_or cs i c → x ≡ get_or xs i x → product_of c x ≡ Ok p → difference_of s p ≡ Err e → substituted s (drop i cs) (drop i xs) ≡ Err e
unfolding substituted
substituted_no_difference s c x p cs xs i e hc hx rc rx ep et = rw (at_place cs i c hc rc, at_place xs i x hx rx, ep, et) refl

substituted_nil : (s : ℤ) (cs : List ℤ) → substituted s cs [] ≡ Ok s
unfolding substituted
substituted_nil s [] = refl
substituted_nil s (c ∷ cs) = refl

pub right_side_is : (row : List ℤ) (x : ℤ) → 0 < length row → x ≡ get_or row (length row - 1) x → right_side row ≡ x
unfolding right_side
right_side_is row x h e =
    let inside : length row - 1 < length row = omega arith in
    get_or_default row (length row - 1) (pos 0) x inside ∙ sym e

pub unknown_fails : (column : ℕ) (row xs : List ℤ) (e : NumFault) → substituted (right_side row) (drop (column + 1) row) xs ≡ Err e → unknown column row xs ≡ Err e
unfolding unknown
unknown_fails column row xs e h = rw h refl

pub unknown_is : (column : ℕ) (row xs : List ℤ) (s p : ℤ) → substituted (right_side row) (drop (column + 1) row) xs ≡ Ok s → coefficient column row ≡ p → unknown column row xs ≡ quotient_of s p
unfolding unknown
unknown_is column row xs s p h e = rw (h, e) refl

pub substituted_end : (s : ℤ) (cs xs : List ℤ) (i : ℕ) → length xs ≤ i → substituted s (drop i cs) (drop i xs) ≡ Ok s
unfolding substituted
substituted_end s cs xs i h = rw (drop_all i xs h) (substituted_nil s (drop i cs))

pub ruleset substitutions = (substituted_end, substituted_no_product, substituted_no_difference)

-- ---- scaling

pub largest_rest : (xs : List ℤ) (i : ℕ) (x : ℤ) → i < length xs → x ≡ get_or xs i x → largest (drop i xs) ≡ max (unsigned_abs x) (largest (drop (i + 1) xs))
largest_rest xs i x h r = rw (at_place xs i x h r) (largest_more x (drop (i + 1) xs))

test_kept : (l : ℕ) → (l ≡ 0) ⊎ (units_per_one ≤ l) → (nat_eq l 0 || nat_le units_per_one l) ≡ true
test_kept l e = grind (arith, nat_tests)

test_more : (l : ℕ) → 0 < l → l < units_per_one → (nat_eq l 0 || nat_le units_per_one l) ≡ false
test_more l some small = grind (arith, nat_tests)

pub scaled_none : (row : List ℤ) → scaled 0 row ≡ Ok row
unfolding scaled
scaled_none row = refl

pub scaled_kept : (turns : ℕ) (row : List ℤ) → 0 < turns → (largest (coefficients row) ≡ 0) ⊎ (units_per_one ≤ largest (coefficients row)) → scaled turns row ≡ Ok row
unfolding scaled
scaled_kept zero row h e = absurd (omega arith)
scaled_kept (suc turns) row h e = rw (test_kept (largest (coefficients row)) e) refl

pub scaled_more : (turns : ℕ) (row : List ℤ) → 0 < turns → 0 < largest (coefficients row) → largest (coefficients row) < units_per_one → scaled turns row ≡ and_then (scaled (turns - 1)) (tenfold row)
unfolding scaled
scaled_more zero row h some small = absurd (omega arith)
scaled_more (suc turns) row h some small = let p : suc turns - 1 ≡ turns = omega arith in rw (test_more (largest (coefficients row)) some small, p) refl

pub ruleset passes = (each_fails, each_end, each_start)

pub ruleset largests = (largest_none, largest_rest, drop_all)

pub ruleset scales = (scaled_none, scaled_kept, scaled_more)
