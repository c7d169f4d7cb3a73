-- Whole rows, as the code has them.
use Rattle.std.proofs.Common.{◌≡◌, ◌≤◌, ◌<◌, ◌+◌, ℕ, true, ℤ, List, length, take, drop, Result, Ok, Err, arith, refl, sym, ap, ◌∙◌}
use Rattle.std.specs.List.{All}
use Rattle.fix_core.specs.declared.NumFault.{NumFault}
use Rattle.fix_core.specs.Fixed.{IsInRange}
use Rattle.fix_core.specs.Laws.{joined_none}
use Rattle.fix_core.specs.Passes.{and_then, each, answer}
use Rattle.lin_solve.specs.Elimination.{largest, tenfold, minus_row, substituted}
use Rattle.sparse_row.specs.declared.entry.Entry.{Entry}
use Rattle.sparse_row.specs.Entries.{filled, is_sparse}
use Rattle.sparse_row.specs.Reads.{largest_in, tenfold_entry, left_of, lost_in, cut}
use Rattle.sparse_row.proofs.Sparse.{length-filled}
use Rattle.sparse_row.proofs.Raising.{largest-filled, tenfold-filled}
use Rattle.sparse_row.proofs.Multiples.{substituted-filled, minus_row-filled}
use Rattle.sparse_row.proofs.Fronts.{cut-filled}

pub width_is : (w : ℕ) (es : List Entry) (row : List ℤ) → filled 0 w es ≡ row → length row ≡ w
width_is w es row v = ap length (sym v) ∙ length-filled 0 w es

pub row_largest : (w c : ℕ) (es : List Entry) (row : List ℤ) → filled 0 w es ≡ row → is_sparse 0 w es ≡ true → c ≤ length row → largest_in c es ≡ largest (take c row)
row_largest w c es row v h le =
    let wide = width_is w es row v in
    sym (largest-filled 0 w w c c es (omega (arith, wide, le)) (omega arith) h) ∙ ap (λ (z : List ℤ). largest (take c z)) v

filled_answer : (r : Result (Unit {0}) NumFault) (w : ℕ) (fs : List Entry) → and_then (λ fs. Ok (filled 0 w fs)) (answer r fs) ≡ answer r (filled 0 w fs)
filled_answer (Ok u) w fs = refl
filled_answer (Err x) w fs = refl

pub row_raised : (r : Result (Unit {0}) NumFault) (w : ℕ) (es fs : List Entry) (row : List ℤ) → filled 0 w es ≡ row → is_sparse 0 w es ≡ true → each tenfold_entry es ≡ answer r fs → tenfold row ≡ answer r (filled 0 w fs)
row_raised r w es fs row v h e =
    ap tenfold (sym v) ∙ tenfold-filled 0 w w es (omega arith) h ∙ ap (and_then (λ (fs : List Entry). Ok (filled 0 w fs))) e ∙ filled_answer r w fs

pub row_substituted : (w c : ℕ) (es : List Entry) (row xs : List ℤ) (s : ℤ) → filled 0 w es ≡ row → is_sparse 0 w es ≡ true → c < length row → length xs ≤ length row → IsInRange s → left_of c xs s es ≡ substituted s (drop (c + 1) row) (drop (c + 1) xs)
row_substituted w c es row xs s v h below le r =
    let wide = width_is w es row v in
    sym (substituted-filled c 0 (c + 1) w w xs s es (omega arith) (omega (arith, wide, below)) (omega arith) (omega (arith, wide, le)) r h) ∙ ap (λ (z : List ℤ). substituted s (drop (c + 1) z) (drop (c + 1) xs)) v

pub row_subtracted : (f : ℤ) (w : ℕ) (es : List Entry) (row bs : List ℤ) → filled 0 w es ≡ row → is_sparse 0 w es ≡ true → length bs ≡ length row → All IsInRange bs → minus_row f row bs ≡ lost_in f es bs
row_subtracted f w es row bs v h long all =
    let wide = width_is w es row v in
    ap (λ (z : List ℤ). minus_row f z bs) (sym v) ∙ sym (joined_none (minus_row f (filled 0 w es) bs)) ∙ minus_row-filled f 0 w w es bs (omega arith) (omega (arith, long, wide)) all h

pub row_cut : (w v : ℕ) (es fs gs : List Entry) (row other : List ℤ) → filled 0 w es ≡ row → filled 0 v fs ≡ other → length row ≤ length other → is_sparse 0 v fs ≡ true → gs ≡ cut w fs → filled 0 w gs ≡ take (length row) other
row_cut w v es fs gs row other er eo le h g =
    let long = width_is w es row er in
    let wide = width_is v fs other eo in
    ap (filled 0 w) g ∙ cut-filled 0 v v w w fs (omega (arith, long, wide, le)) (omega arith) h ∙ rw (long, ← eo) refl
