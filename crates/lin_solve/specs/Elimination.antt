-- Elimination on whole rows, by recursion. A row is its coefficients, one for each unknown, and last its right side.
use Rattle.std.specs.Prelude.{ℕ, zero, suc, ◌+◌, ◌-◌, max, ℤ, pos, unsigned_abs, nat_eq, nat_le, nat_lt, ◌||◌, if◌then◌else◌, List, [], ◌∷◌, length, take, drop, map, slice_index_or, Result, Ok, Err}
use Rattle.std.specs.List.{swap}
use Rattle.fix_core.specs.declared.NumFault.{NumFault}
use Rattle.fix_core.specs.Units.{units_per_one}
use Rattle.fix_core.specs.Fixed.{tenfold_of, difference_of, product_of, quotient_of}
use Rattle.fix_core.specs.Passes.{and_then, each}
use Rattle.lin_solve.specs.declared.LinFault.{LinFault}
use Rattle.lin_solve.specs.declared.LinFault.TheVariants.{Singular, Overflow}

abbrev pub coefficient : ℕ → List ℤ → ℤ
coefficient column row = slice_index_or row column (pos 0)

unfoldable pub right_side : List ℤ → ℤ
right_side row = slice_index_or row (length row - 1) (pos 0)

abbrev pub coefficients : List ℤ → List ℤ
coefficients row = take (length row - 1) row

-- the largest magnitude
unfoldable pub largest : List ℤ → ℕ
largest [] = 0
largest (a ∷ more) = max (unsigned_abs a) (largest more)

-- the place of the largest magnitude, the first such place
unfoldable pub place_of_largest : List ℤ → ℕ
place_of_largest [] = 0
place_of_largest (a ∷ more) = if nat_lt (unsigned_abs a) (largest more) then suc (place_of_largest more) else 0

-- ---- scaling

-- each number times ten
abbrev pub tenfold : List ℤ → Result (List ℤ) NumFault
tenfold row = each tenfold_of row

-- a row times ten, as often as is wanted until its largest coefficient is at least 1, but not if all are 0. Twelve times are enough
unfoldable pub scaled : ℕ → List ℤ → Result (List ℤ) NumFault
scaled zero row = Ok row
scaled (suc turns) row =
    if nat_eq (largest (coefficients row)) 0 || nat_le units_per_one (largest (coefficients row)) then Ok row else and_then (scaled turns) (tenfold row)

abbrev pub scaled_all : List (List ℤ) → Result (List (List ℤ)) NumFault
scaled_all rows = each (scaled 12) rows

-- ---- elimination

-- the place of the row whose coefficient in the column is largest in magnitude, the first such row on ties
abbrev pub pivot_place : ℕ → List (List ℤ) → ℕ
pivot_place column rows = place_of_largest (map (coefficient column) rows)

-- a - f * p
abbrev pub minus_product : ℤ → ℤ → ℤ → Result ℤ NumFault
minus_product f p a = and_then (difference_of a) (product_of f p)

-- each entry, from the first column on, and the right side lose f times the pivot row's entry in the same column
unfoldable pub minus_row : ℤ → List ℤ → List ℤ → Result (List ℤ) NumFault
minus_row f [] row = Ok row
minus_row f (p ∷ ps) [] = Ok []
minus_row f (p ∷ ps) (a ∷ row) = and_then (λ b. and_then (λ bs. Ok (b ∷ bs)) (minus_row f ps row)) (minus_product f p a)

-- a row less the pivot row times the quotient of their coefficients in the column
unfoldable pub reduced : ℕ → List ℤ → List ℤ → Result (List ℤ) NumFault
reduced column pivot row = and_then (λ f. minus_row f pivot row) (quotient_of (coefficient column row) (coefficient column pivot))

abbrev pub reduced_all : ℕ → List ℤ → List (List ℤ) → Result (List (List ℤ)) NumFault
reduced_all column pivot rows = each (reduced column pivot) rows

-- ---- back substitution

-- a right side less each coefficient times its unknown
unfoldable pub substituted : ℤ → List ℤ → List ℤ → Result ℤ NumFault
substituted s cs [] = Ok s
substituted s [] (x ∷ xs) = Ok s
substituted s (c ∷ cs) (x ∷ xs) = and_then (λ t. substituted t cs xs) (minus_product c x s)

-- the unknown of a column from its pivot row and the unknowns of the later columns
unfoldable pub unknown : ℕ → List ℤ → List ℤ → Result ℤ NumFault
unknown column row xs = and_then (λ s. quotient_of s (coefficient column row)) (substituted (right_side row) (drop (column + 1) row) xs)

-- ---- the whole

-- any fault of a number on the way
abbrev pub or_overflow : {A : Type 0} → Result A NumFault → Result A LinFault
or_overflow (Ok a) = Ok a
or_overflow (Err e) = Err Overflow

-- the unknowns from a column on, of rows of which the first one is the column's pivot row: the others lose the pivot row, and their unknowns give the first
abbrev pub by_pivot : ℕ → (List (List ℤ) → Result (List ℤ) LinFault) → List (List ℤ) → Result (List ℤ) LinFault
by_pivot column others [] = Ok []
by_pivot column others (pivot ∷ rows) =
    if nat_eq (unsigned_abs (coefficient column pivot)) 0 then Err (Singular column) else
    and_then (λ xs. and_then (λ x. Ok (x ∷ xs)) (or_overflow (unknown column pivot xs))) (and_then others (or_overflow (reduced_all column pivot rows)))

-- the unknowns from a column on, of the n rows that no earlier column has used: the pivot row is swapped into the first place
unfoldable pub unknowns : ℕ → ℕ → List (List ℤ) → Result (List ℤ) LinFault
unknowns zero column rows = Ok []
unknowns (suc n) column rows = by_pivot column (unknowns n (column + 1)) (swap rows 0 (pivot_place column rows))

unfoldable pub solution_of : List (List ℤ) → Result (List ℤ) LinFault
solution_of rows = and_then (unknowns (length rows) 0) (or_overflow (scaled_all rows))
