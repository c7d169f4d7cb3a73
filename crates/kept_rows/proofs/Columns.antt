-- One column, and the columns behind it.
use Rattle.std.proofs.Common.{◌≡◌, ℕ, zero, suc, ◌+◌, ◌<◌, Bool, true, false, ℤ, List, [], ◌∷◌, ◌++◌, length, drop, set, get_or, map, Result, Ok, Err, refl, sym, ap, ◌∙◌, arith}
use Rattle.std.specs.List.{swap}
use Rattle.std.specs.Prelude.{unsigned_abs, nat_eq, if◌then◌else◌}
use Rattle.std.proofs.lemmas.List.Edits.{length-swap}
use Rattle.fix_core.specs.declared.NumFault.{NumFault}
use Rattle.fix_core.specs.Passes.{and_then, each, answer}
use Rattle.lin_solve.specs.declared.LinFault.{LinFault}
use Rattle.lin_solve.specs.declared.LinFault.TheVariants.{Singular, Overflow}
use Rattle.lin_solve.specs.Elimination.{coefficient, pivot_place, or_overflow}
use Rattle.kept_elimination.specs.Kept.{Scaling, scaling, Reduction, reduction, factors_of, rows_of, Column, by_column, columns_of, Kept, eliminated}
use Rattle.kept_rows.specs.Told.{reductions, scalings, Step, step_of, first_step}
use Rattle.kept_rows.proofs.Zipping.{factors_are, rows_are, turns_are, scaled_are}

pub columns_none : (column : ℕ) (rows : List (List ℤ)) (n : ℕ) → n ≡ 0 → columns_of n column rows ≡ Ok []
unfolding columns_of
columns_none column rows n e = rw e refl

-- what follows one column
abbrev with_others : (List (List ℤ) → Result (List Column) LinFault) → Step → Result (List Column) LinFault
with_others others s = and_then (λ more. Ok (s.column ∷ more)) (others s.rows)

after_reductions : (others : List (List ℤ) → Result (List Column) LinFault) (place : ℕ) (pivot : List ℤ) (r : Result (List Reduction) LinFault) → and_then (λ done. and_then (λ more. Ok (record { place = place; pivot = pivot; factors = factors_of done } ∷ more)) (others (rows_of done))) r ≡ and_then (with_others others) (and_then {B = Step} (λ done. Ok (record { column = record { place = place; pivot = pivot; factors = factors_of done }; rows = rows_of done })) r)
after_reductions others place pivot (Ok done) = refl
after_reductions others place pivot (Err x) = refl

by_test : (t : Bool) (column : ℕ) (others : List (List ℤ) → Result (List Column) LinFault) (place : ℕ) (pivot : List ℤ) (r : Result (List Reduction) LinFault) → (if t then Err (Singular column) else and_then (λ done. and_then (λ more. Ok (record { place = place; pivot = pivot; factors = factors_of done } ∷ more)) (others (rows_of done))) r) ≡ and_then (with_others others) (if t then Err (Singular column) else and_then {B = Step} (λ done. Ok (record { column = record { place = place; pivot = pivot; factors = factors_of done }; rows = rows_of done })) r)
by_test true column others place pivot r = refl
by_test false column others place pivot r = after_reductions others place pivot r

by_column_is : (column : ℕ) (others : List (List ℤ) → Result (List Column) LinFault) (place : ℕ) (rows : List (List ℤ)) → 0 < length rows → by_column column others place rows ≡ and_then (with_others others) (step_of column place rows)
by_column_is column others place [] h = absurd (omega (arith, h))
by_column_is column others place (pivot ∷ rows) h = by_test (nat_eq (unsigned_abs (coefficient column pivot)) 0) column others place pivot (or_overflow (each (reduction column pivot) rows))

columns_first : (n column : ℕ) (rows : List (List ℤ)) → 0 < length rows → columns_of (suc n) column rows ≡ and_then (with_others (columns_of n (column + 1))) (first_step column rows)
unfolding columns_of
columns_first n column rows h =
    let place : ℕ = pivot_place column rows in
    by_column_is column (columns_of n (column + 1)) place (swap rows 0 place) (omega (arith, h, length-swap rows 0 place))

pub columns_fail : (n column : ℕ) (rows : List (List ℤ)) (e : LinFault) → n ≡ length rows → 0 < n → first_step column rows ≡ Err e → columns_of n column rows ≡ Err e
columns_fail zero column rows e en some h = absurd (omega (arith, some))
columns_fail (suc n) column rows e en some h = columns_first n column rows (omega (arith, en)) ∙ ap (and_then (with_others (columns_of n (column + 1)))) h

pub columns_are : (n m column : ℕ) (rows left : List (List ℤ)) (k : Column) → n ≡ length rows → n ≡ m + 1 → first_step column rows ≡ Ok (record { column = k; rows = left }) → columns_of n column rows ≡ and_then (λ more. Ok (k ∷ more)) (columns_of m (column + 1) left)
columns_are n m column rows left k en em h =
    let more : n ≡ suc m = omega (arith, em) in
    rw more (columns_first m column rows (omega (arith, en, em)) ∙ ap (and_then (with_others (columns_of m (column + 1)))) h)

-- ---- the rows as the code parts them: the pivot row, and the others

pub step_start : (from rows front others : List (List ℤ)) (pivot : List ℤ) (column place : ℕ) → place ≡ pivot_place column from → rows ≡ swap from 0 (pivot_place column from) → rows ≡ front ++ others → length front ≡ 1 → pivot ≡ get_or front 0 pivot → first_step column from ≡ step_of column place (pivot ∷ others)
step_start from rows [] others pivot column place ep e1 e2 one p = absurd (omega (arith, one))
step_start from rows (a ∷ b ∷ front) others pivot column place ep e1 e2 one p = absurd (omega (arith, one))
step_start from rows (a ∷ []) others pivot column place ep e1 e2 one p =
    rw ep (ap (step_of column (pivot_place column from)) (sym e1 ∙ e2 ∙ ap (λ (z : List ℤ). z ∷ others) (sym p)))

no_pivot : (d : ℤ) → unsigned_abs d ≡ 0 → nat_eq (unsigned_abs d) 0 ≡ true
no_pivot d h = rw h refl

a_pivot : (d : ℤ) → 0 < unsigned_abs d → nat_eq (unsigned_abs d) 0 ≡ false
a_pivot d h = grind arith

pub step_singular : (column place : ℕ) (pivot : List ℤ) (rows : List (List ℤ)) → unsigned_abs (coefficient column pivot) ≡ 0 → step_of column place (pivot ∷ rows) ≡ Err (Singular column)
step_singular column place pivot rows h = rw (no_pivot (coefficient column pivot) h) refl

pub step_overflows : (column place : ℕ) (pivot : List ℤ) (rows : List (List ℤ)) (e : NumFault) → 0 < unsigned_abs (coefficient column pivot) → each (reduction column pivot) rows ≡ Err e → step_of column place (pivot ∷ rows) ≡ Err Overflow
step_overflows column place pivot rows e h r = rw (a_pivot (coefficient column pivot) h, r) refl

pub step_is : (column place : ℕ) (pivot fs : List ℤ) (rows left : List (List ℤ)) → 0 < unsigned_abs (coefficient column pivot) → length fs ≡ length left → each (reduction column pivot) rows ≡ Ok (reductions fs left) → step_of column place (pivot ∷ rows) ≡ Ok (record { column = record { place = place; pivot = pivot; factors = fs }; rows = left })
step_is column place pivot fs rows left h long r = rw (a_pivot (coefficient column pivot) h, r, factors_are fs left long, rows_are fs left long) refl

-- ---- the whole

pub eliminated_overflows : (matrix : List (List ℤ)) (e : NumFault) → each (scaling 12) matrix ≡ Err e → eliminated matrix ≡ Err Overflow
unfolding eliminated
eliminated_overflows matrix e h = rw h refl

pub eliminated_is : (matrix rows : List (List ℤ)) (turns : List ℕ) (n : ℕ) → n ≡ length matrix → length turns ≡ length rows → each (scaling 12) matrix ≡ Ok (scalings turns rows) → eliminated matrix ≡ and_then {B = Kept} (λ columns. Ok (record { turns = turns; columns = columns })) (columns_of n 0 rows)
unfolding eliminated
eliminated_is matrix rows turns n en long h = rw (h, turns_are turns rows long, scaled_are turns rows long, en) refl

pub kept_answer : (r : Result (Unit {0}) LinFault) (turns : List ℕ) (columns : List Column) → and_then {B = Kept} (λ columns. Ok (record { turns = turns; columns = columns })) (answer r columns) ≡ answer r (record { turns = turns; columns = columns })
kept_answer (Ok u) turns columns = refl
kept_answer (Err x) turns columns = refl

pub drop_one : {A : Type 0} (front : List A) (y : A) (others : List A) → length front ≡ 1 → drop 1 (set front 0 y ++ others) ≡ others
drop_one [] y others h = absurd (omega (arith, h))
drop_one (a ∷ []) y others h = refl
drop_one (a ∷ b ∷ front) y others h = absurd (omega (arith, h))

-- a step with its pivot row and the rows below as they are left
pub step_left : (column place : ℕ) (pivot new fs : List ℤ) (left drawn : List (List ℤ)) (r : Result Step LinFault) → r ≡ Ok (record { column = record { place = place; pivot = pivot; factors = fs }; rows = left }) → new ≡ pivot → drawn ≡ left → r ≡ Ok (record { column = record { place = place; pivot = new; factors = fs }; rows = drawn })
step_left column place pivot new fs left drawn r h en ed = rw (en, ed) h
