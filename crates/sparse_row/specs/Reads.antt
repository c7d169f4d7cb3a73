-- What scaling, products and comparison read of entries that rise.
use Rattle.std.specs.Prelude.{ℕ, nat_lt, ◌&&◌, max, ℤ, pos, unsigned_abs, if◌then◌else◌, List, [], ◌∷◌, length, slice_index_or, slice_set, Result, Ok}
use Rattle.fix_core.specs.declared.NumFault.{NumFault}
use Rattle.fix_core.specs.Fixed.{tenfold_of}
use Rattle.fix_core.specs.Passes.{and_then}
use Rattle.lin_solve.specs.Elimination.{minus_product}
use Rattle.sparse_row.specs.declared.entry.Entry.{Entry}

-- the largest magnitude in the columns before one
unfoldable pub largest_in : ℕ → List Entry → ℕ
largest_in column [] = 0
largest_in column (e ∷ more) = if nat_lt e.column column then max (unsigned_abs e.value) (largest_in column more) else largest_in column more

-- an entry times ten
unfoldable pub tenfold_entry : Entry → Result Entry NumFault
tenfold_entry e = and_then {B = Entry} (λ v. Ok (record { column = e.column; value = v })) (tenfold_of e.value)

-- a sum less each value behind a column times the number of its column, where there is one
unfoldable pub left_of : ℕ → List ℤ → ℤ → List Entry → Result ℤ NumFault
left_of column xs s [] = Ok s
left_of column xs s (e ∷ more) =
    if nat_lt column e.column && nat_lt e.column (length xs) then and_then (λ t. left_of column xs t more) (minus_product e.value (slice_index_or xs e.column (pos 0)) s) else left_of column xs s more

-- numbers that lose f times the values of their columns
unfoldable pub lost_in : ℤ → List Entry → List ℤ → Result (List ℤ) NumFault
lost_in f [] bs = Ok bs
lost_in f (e ∷ more) bs = and_then (λ b. lost_in f more (slice_set bs e.column b)) (minus_product f e.value (slice_index_or bs e.column (pos 0)))

-- the entries before a column
unfoldable pub cut : ℕ → List Entry → List Entry
cut column [] = []
cut column (e ∷ more) = if nat_lt e.column column then e ∷ cut column more else []
