-- A linear system has as many unknowns as rows.
use Rattle.std.proofs.Common.{◌≡◌, ℕ, zero, suc, ◌+◌, Bool, true, false, ℤ, List, [], ◌∷◌, length, Result, Ok, Err, refl, sym, ap, ◌∙◌, arith}
use Rattle.std.specs.Prelude.{unsigned_abs, nat_eq, if◌then◌else◌}
use Rattle.std.specs.List.{swap}
use Rattle.std.proofs.lemmas.List.Edits.{length-swap}
use Rattle.fix_core.specs.declared.NumFault.{NumFault}
use Rattle.fix_core.specs.Passes.{and_then, each}
use Rattle.lin_solve.specs.declared.LinFault.{LinFault}
use Rattle.lin_solve.specs.declared.LinFault.TheVariants.{Singular}
use Rattle.lin_solve.specs.Elimination.{coefficient, pivot_place, or_overflow, reduced_all, unknown, by_pivot, unknowns, scaled_all, solution_of}

-- what was answered on the way to an answer
parts : {A B E : Type 0} (f : A → Result B E) (r : Result A E) (b : B) → and_then f r ≡ Ok b → (a : A) × (r ≡ Ok a) × (f a ≡ Ok b)
parts f (Ok a) b e = (a, refl, e)
parts f (Err x) b e = absurd (cc)

numbers : {A : Type 0} (r : Result A NumFault) (a : A) → or_overflow r ≡ Ok a → r ≡ Ok a
numbers (Ok b) a e = let same : b ≡ a = cc in ap Ok same
numbers (Err x) a e = absurd (cc)

length-each : {A B E : Type 0} (f : A → Result B E) (xs : List A) (ys : List B) → each f xs ≡ Ok ys → length ys ≡ length xs
unfolding each
length-each f [] ys e = let same : [] ≡ ys = cc in ap length (sym same)
length-each f (x ∷ xs) ys e =
    let first = parts (λ b. and_then (λ bs. Ok (b ∷ bs)) (each f xs)) (f x) ys e in
    let others = parts (λ bs. Ok (first.0 ∷ bs)) (each f xs) ys first.2 in
    let whole : first.0 ∷ others.0 ≡ ys = cc in
    ap length (sym whole) ∙ ap suc (length-each f xs others.0 others.1)

-- the unknowns of rows whose first one is the pivot row
length-by_pivot : (column : ℕ) (n : ℕ) (others : List (List ℤ) → Result (List ℤ) LinFault) → ((rows : List (List ℤ)) (xs : List ℤ) → length rows ≡ n → others rows ≡ Ok xs → length xs ≡ n)
    → (rows : List (List ℤ)) (xs : List ℤ) → length rows ≡ suc n → by_pivot column others rows ≡ Ok xs → length xs ≡ suc n
length-by_pivot column n others rest [] xs long e = absurd (omega (arith, long))
length-by_pivot column n others rest (pivot ∷ rows) xs long e = at (nat_eq (unsigned_abs (coefficient column pivot)) 0) e
  where
    at : (b : Bool) → (if b then Err (Singular column) else
        and_then (λ xs. and_then (λ x. Ok (x ∷ xs)) (or_overflow (unknown column pivot xs))) (and_then others (or_overflow (reduced_all column pivot rows)))) ≡ Ok xs → length xs ≡ suc n
    at true h = absurd (cc)
    at false h =
        let found = parts (λ xs. and_then (λ x. Ok (x ∷ xs)) (or_overflow (unknown column pivot xs))) (and_then others (or_overflow (reduced_all column pivot rows))) xs h in
        let less = parts others (or_overflow (reduced_all column pivot rows)) found.0 found.1 in
        let first = parts (λ x. Ok (x ∷ found.0)) (or_overflow (unknown column pivot found.0)) xs found.2 in
        let whole : first.0 ∷ found.0 ≡ xs = cc in
        let below : length rows ≡ n = omega (arith, long) in
        let same = length-each _ rows less.0 (numbers _ less.0 less.1) in
        ap length (sym whole) ∙ ap suc (rest less.0 found.0 (same ∙ below) less.2)

length-unknowns : (n column : ℕ) (rows : List (List ℤ)) (xs : List ℤ) → length rows ≡ n → unknowns n column rows ≡ Ok xs → length xs ≡ n
unfolding unknowns
length-unknowns zero column rows xs long e = let same : [] ≡ xs = cc in ap length (sym same)
length-unknowns (suc n) column rows xs long e =
    length-by_pivot column n (unknowns n (column + 1)) (λ rows xs. length-unknowns n (column + 1) rows xs) (swap rows 0 (pivot_place column rows)) xs (length-swap rows 0 (pivot_place column rows) ∙ long) e

pub length-solution : (rows : List (List ℤ)) (xs : List ℤ) → solution_of rows ≡ Ok xs → length xs ≡ length rows
unfolding solution_of
length-solution rows xs e =
    let found = parts (unknowns (length rows) 0) (or_overflow (scaled_all rows)) xs e in
    let same = length-each _ rows found.0 (numbers _ found.0 found.1) in
    length-unknowns (length rows) 0 found.0 xs same found.2
