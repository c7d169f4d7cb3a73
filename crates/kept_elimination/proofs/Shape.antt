-- The shape of the columns that elimination gives, and what follows for the type that keeps them.
use Rattle.std.proofs.Common.{◌≡◌, ℕ, zero, suc, ◌+◌, ◌≤◌, ℤ, true, false, Bool, List, [], ◌∷◌, length, map, Ok, refl, ap, subst, ◌∙◌, arith}
use Rattle.std.proofs.lemmas.List.{length-map}
use Rattle.std.proofs.lemmas.List.Edits.{length-swap}
use Rattle.std.specs.List.{swap}
use Rattle.std.specs.Prelude.{unsigned_abs, nat_lt, if◌then◌else◌}
use Rattle.std.proofs.lemmas.Bool.Decides.{nat_tests}
use Rattle.lin_solve.specs.Elimination.{coefficient, largest, place_of_largest, pivot_place}
use Rattle.std.specs.List.{All}
use Rattle.std.proofs.lemmas.List.Elements.{All-head, All-tail}
use Rattle.fix_core.specs.Passes.{and_then, each}
use Rattle.lin_solve.specs.Elimination.{or_overflow, solution_of}
use Rattle.kept_elimination.specs.Shape.{Passes, Ends, IsElimination}
use Rattle.kept_elimination.specs.Kept.{Scaling, scaling, Kept, eliminated, solved, matrix_of, right_sides, Reduction, reduction, factors_of, rows_of, Column, by_column, columns_of}
use Rattle.kept_elimination.proofs.Steps.{Wide, Wide-swap, opened, each-length, reduction-wide, parts, plain, scaling-wide, kept_gives}

alone : (x : ℕ) → (if nat_lt x 0 then suc zero else zero) ≡ zero
alone x = grind (arith, nat_tests)

next_place : (t : Bool) (p n : ℕ) → p ≤ n → (if t then suc p else 0) ≤ suc n
next_place true p n h = omega arith
next_place false p n h = omega arith

-- the place of the largest is one of the places
place-within : (x : ℤ) (xs : List ℤ) → place_of_largest (x ∷ xs) ≤ length xs
unfolding place_of_largest largest
place-within x [] = let e = alone (unsigned_abs x) in omega (arith, e)
place-within x (y ∷ ys) = next_place (nat_lt (unsigned_abs x) (largest (y ∷ ys))) (place_of_largest (y ∷ ys)) (length ys) (place-within y ys)

pub pivot_place-within : (column n : ℕ) (m : List (List ℤ)) → length m ≡ suc n → pivot_place column m ≤ n
pivot_place-within column n [] h = absurd (omega arith)
pivot_place-within column n (c ∷ m) h = let within : pivot_place column (c ∷ m) ≤ length (map (coefficient column) m) = place-within (coefficient column c) (map (coefficient column) m) in omega (arith, length-map m (coefficient column))

pub record Shaped (n column : ℕ) (ks : List Column) : Type 0 where
  pub count : length ks ≡ n
  pub passes : Passes ks
  pub ends : Ends column ks

first_shaped : (n column w place : ℕ) (m : List (List ℤ)) (ks : List Column) → ((m : List (List ℤ)) (ks : List Column) → length m ≡ n → column + 1 + n ≡ w → Wide w m → columns_of n (column + 1) m ≡ Ok ks → Shaped n (column + 1) ks) → place ≤ n → length m ≡ suc n → column + suc n ≡ w → Wide w m → by_column column (columns_of n (column + 1)) place m ≡ Ok ks → Shaped (suc n) column ks
first_shaped n column w place [] ks later within long small wide e = absurd (omega arith)
first_shaped n column w place (pivot ∷ rows) ks later within long small wide e =
    let o = opened column (columns_of n (column + 1)) place pivot rows ks e in
    let count : length o.done ≡ length rows = each-length (reduction column pivot) rows o.done o.reduced in
    let ms : length (rows_of o.done) ≡ n = length-map o.done (λ (r : Reduction). r.row) ∙ omega arith in
    let rest = later (rows_of o.done) o.more ms (omega arith) (reduction-wide column w pivot rows o.done wide.1 o.reduced) o.later in
    let more : length o.more ≡ n = rest.count in
    let fs : length (factors_of o.done) ≡ length o.more = length-map o.done (λ (r : Reduction). r.factor) ∙ omega arith in
    let pivots : length pivot ≡ w = wide.0 in
    subst (Shaped (suc n) column) o.is (record {
      count = ap suc more;
      passes = (omega arith, fs, rest.passes);
      ends = (omega arith, rest.ends);
    })

pub columns-shaped : (n column w : ℕ) (m : List (List ℤ)) (ks : List Column) → length m ≡ n → column + n ≡ w → Wide w m → columns_of n column m ≡ Ok ks → Shaped n column ks
unfolding columns_of
columns-shaped zero column w m ks long small wide e =
    let is : [] ≡ ks = cc in
    subst (Shaped 0 column) is (record { count = refl; passes = tt; ends = tt })
columns-shaped (suc n) column w m ks long small wide e =
    let place : ℕ = pivot_place column m in
    first_shaped n column w place (swap m 0 place) ks (columns-shaped n (column + 1) w) (pivot_place-within column n m long) (length-swap m 0 place ∙ long) small (Wide-swap w m 0 place wide) e

All-wide : (w : ℕ) (m : List (List ℤ)) → All (λ row. length row ≡ w) m → Wide w m
All-wide w [] all = tt
All-wide w (row ∷ m) all = (All-head (λ row. length row ≡ w) row m all, All-wide w m (All-tail (λ row. length row ≡ w) row m all))

pub record Whole (n : ℕ) (ts : List ℕ) (ks : List Column) : Type 0 where
  pub turns : length ts ≡ n
  pub shape : Shaped n 0 ks

shaped_by : (m : List (List ℤ)) (kept : Kept) → Wide (length m) m → eliminated m ≡ Ok kept → Whole (length m) kept.turns kept.columns
unfolding eliminated
shaped_by m kept wide e =
    let head = parts (or_overflow (each (scaling 12) m)) (λ (scaled : List Scaling). and_then (λ (columns : List Column). Ok (record { turns = map (λ s. s.turns) scaled; columns = columns })) (columns_of (length m) 0 (map (λ s. s.row) scaled))) kept e in
    let tail = parts (columns_of (length m) 0 (map (λ (s : Scaling). s.row) head.0)) (λ (columns : List Column). Ok (record { turns = map (λ s. s.turns) head.0; columns = columns })) kept head.2 in
    let is : record { turns = map (λ (s : Scaling). s.turns) head.0; columns = tail.0 } ≡ kept = cc in
    let done : each (scaling 12) m ≡ Ok head.0 = plain (each (scaling 12) m) head.0 head.1 in
    let count : length head.0 ≡ length m = each-length (scaling 12) m head.0 done in
    subst (λ (k : Kept). Whole (length m) k.turns k.columns) is (record {
      turns = length-map head.0 (λ (s : Scaling). s.turns) ∙ count;
      shape = columns-shaped (length m) 0 (length m) (map (λ (s : Scaling). s.row) head.0) tail.0 (length-map head.0 (λ (s : Scaling). s.row) ∙ count) (omega arith) (scaling-wide 12 (length m) m head.0 wide done) tail.1;
    })

pub whole_shape : (m : List (List ℤ)) (ts : List ℕ) (ks : List Column) → IsElimination m ts ks → Whole (length m) ts ks
whole_shape m ts ks h = shaped_by m (record { turns = ts; columns = ks }) (All-wide (length m) m h.square) h.gives

pub gives_solution : (m : List (List ℤ)) (ts : List ℕ) (ks : List Column) (rows : List (List ℤ)) (bs : List ℤ) → IsElimination m ts ks → All (λ row. length row ≡ length rows + 1) rows → matrix_of rows ≡ m → right_sides rows ≡ bs → solution_of rows ≡ solved (record { turns = ts; columns = ks }) bs
gives_solution m ts ks rows bs h all em eb =
    let kept : Kept = record { turns = ts; columns = ks } in
    kept_gives rows kept all (ap eliminated em ∙ h.gives) ∙ ap (solved kept) eb
