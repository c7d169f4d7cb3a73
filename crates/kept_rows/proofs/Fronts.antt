-- Coefficients and right sides, row by row.
use Rattle.std.proofs.Common.{◌≡◌, ℕ, suc, ◌+◌, ◌-◌, ◌<◌, ◌≤◌, ℤ, pos, List, [], ◌∷◌, ◌++◌, length, take, set, get_or, map, refl, sym, ap, subst, ◌∙◌, arith}
use Rattle.std.proofs.lemmas.List.{take_more_same, take_more, take_more_set, take_all, get_or-map, length-map, get_or_default}
use Rattle.std.proofs.lemmas.List.Elements.{All-append, All-cons, All-nil}
use Rattle.std.specs.List.{All}
use Rattle.fix_core.specs.Fixed.{IsInRange}
use Rattle.lin_solve.specs.Elimination.{coefficients, right_side}
use Rattle.kept_elimination.specs.Kept.{matrix_of, right_sides}

-- the coefficients of a row, as the code takes them
pub row_front : (m r : List ℤ) (n : ℕ) → length m ≡ n → length r ≡ n + 1 → take (length m) r ≡ coefficients r
row_front m r n hm hr = let same : length m ≡ length r - 1 = omega (arith, hm, hr) in ap (λ (k : ℕ). take k r) same

at_row : (rows : List (List ℤ)) (i : ℕ) (m r : List ℤ) (d : List ℤ) (n : ℕ) → i < length rows → length m ≡ n → length r ≡ n + 1 → r ≡ get_or rows i r → get_or (matrix_of rows) i d ≡ take (length m) r
at_row rows i m r d n h hm hr e = get_or-map coefficients rows i r d h ∙ ap coefficients (sym e) ∙ sym (row_front m r n hm hr)

pub matrix_step : (matrix rows : List (List ℤ)) (i : ℕ) (m r : List ℤ) (n : ℕ) → i < length matrix → i < length rows → length m ≡ n → length r ≡ n + 1 → m ≡ get_or matrix i m → r ≡ get_or rows i r → m ≡ take (length m) r → take i matrix ≡ take i (matrix_of rows) → take (i + 1) matrix ≡ take (i + 1) (matrix_of rows)
matrix_step matrix rows i m r n h k hm hr em er is so_far =
    take_more_same matrix (matrix_of rows) i m h (omega (arith, k, length-map rows coefficients)) so_far (sym em ∙ is ∙ sym (at_row rows i m r m n k hm hr er))

pub matrix_other : (matrix rows : List (List ℤ)) (i : ℕ) (m r : List ℤ) (n : ℕ) → i < length rows → length m ≡ n → length r ≡ n + 1 → m ≡ get_or matrix i m → r ≡ get_or rows i r → matrix ≡ matrix_of rows → m ≡ take (length m) r
matrix_other matrix rows i m r n k hm hr em er same = em ∙ ap (λ (z : List (List ℤ)). get_or z i m) same ∙ at_row rows i m r m n k hm hr er

pub matrix_whole : (matrix rows : List (List ℤ)) (i : ℕ) → length matrix ≤ i → length rows ≤ i → take i matrix ≡ take i (matrix_of rows) → matrix ≡ matrix_of rows
matrix_whole matrix rows i h k same = sym (take_all i matrix h) ∙ same ∙ take_all i (matrix_of rows) (omega (arith, k, length-map rows coefficients))

pub matrix_copied : (matrix rows : List (List ℤ)) (i : ℕ) (m r new : List ℤ) (n : ℕ) → i < length matrix → i < length rows → length m ≡ n → length r ≡ n + 1 → r ≡ get_or rows i r → new ≡ take (length m) r → take i matrix ≡ take i (matrix_of rows) → take (i + 1) (set matrix i new) ≡ take (i + 1) (matrix_of rows)
matrix_copied matrix rows i m r new n h k hm hr er is so_far =
    let there : i < length (matrix_of rows) = omega (arith, k, length-map rows coefficients) in
    take_more_set matrix i new h
    ∙ ap (λ (z : List (List ℤ)). z ++ new ∷ []) so_far
    ∙ ap (λ (z : List ℤ). take i (matrix_of rows) ++ z ∷ []) (is ∙ sym (at_row rows i m r m n k hm hr er))
    ∙ sym (take_more (matrix_of rows) i m there)

-- ---- right sides

pub right_side_of : (r : List ℤ) (n : ℕ) → length r ≡ n + 1 → get_or r n (pos 0) ≡ right_side r
unfolding right_side
right_side_of r n h = let same : n ≡ length r - 1 = omega (arith, h) in ap (λ (k : ℕ). get_or r k (pos 0)) same

pub side_copied : (rows : List (List ℤ)) (bs : List ℤ) (i : ℕ) (r : List ℤ) (b : ℤ) (n : ℕ) → i < length bs → i < length rows → length r ≡ n + 1 → r ≡ get_or rows i r → b ≡ get_or r n (pos 0) → take i bs ≡ take i (right_sides rows) → take (i + 1) (set bs i b) ≡ take (i + 1) (right_sides rows)
side_copied rows bs i r b n h k hr er is so_far =
    let there : i < length (right_sides rows) = omega (arith, k, length-map rows right_side) in
    let b_is : b ≡ get_or (right_sides rows) i (pos 0) = is ∙ right_side_of r n hr ∙ ap right_side er ∙ sym (get_or-map right_side rows i r (pos 0) k) in
    take_more_set bs i b h
    ∙ ap (λ (z : List ℤ). z ++ b ∷ []) so_far
    ∙ ap (λ (z : ℤ). take i (right_sides rows) ++ z ∷ []) b_is
    ∙ sym (take_more (right_sides rows) i (pos 0) there)

pub sides_whole : (rows : List (List ℤ)) (bs : List ℤ) (i : ℕ) → length bs ≤ i → length rows ≤ i → take i bs ≡ take i (right_sides rows) → bs ≡ right_sides rows
sides_whole rows bs i h k same = sym (take_all i bs h) ∙ same ∙ take_all i (right_sides rows) (omega (arith, k, length-map rows right_side))

pub within_more : (bs : List ℤ) (i : ℕ) (b : ℤ) → i < length bs → IsInRange b → All IsInRange (take i bs) → All IsInRange (take (i + 1) (set bs i b))
within_more bs i b h r all = rw (take_more_set bs i b h) (All-append IsInRange (take i bs) (b ∷ []) all (All-cons IsInRange b [] r (All-nil IsInRange)))

pub within_whole : (bs : List ℤ) (i : ℕ) → length bs ≤ i → All IsInRange (take i bs) → All IsInRange bs
within_whole bs i h all = subst (All IsInRange) (take_all i bs h) all

pub within_next : (bs : List ℤ) (i : ℕ) (b : ℤ) → i < length bs → IsInRange (get_or bs i b) → All IsInRange (take i bs) → All IsInRange (take (i + 1) bs)
within_next bs i b h r all = rw (take_more bs i b h) (All-append IsInRange (take i bs) (get_or bs i b ∷ []) all (All-cons IsInRange (get_or bs i b) [] r (All-nil IsInRange)))
