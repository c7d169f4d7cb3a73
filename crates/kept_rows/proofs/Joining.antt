-- The parts of a system that was joined.
use Rattle.std.proofs.Common.{◌≡◌, ℕ, ◌+◌, ◌≤◌, ℤ, pos, List, [], ◌∷◌, ◌++◌, length, take, get_or, refl, sym, ap, ap₂, subst, ◌∙◌, arith, length-append}
use Rattle.std.proofs.lemmas.List.{take-append-le, take_all}
use Rattle.std.proofs.lemmas.List.Elements.{All-head, All-tail, All-cons, All-nil}
use Rattle.std.specs.List.{All}
use Rattle.lin_solve.specs.Elimination.{coefficients, right_side}
use Rattle.kept_elimination.specs.Kept.{matrix_of, right_sides}
use Rattle.kept_rows.specs.Joined.{rows_with}
use Rattle.kept_rows.proofs.Fronts.{row_front, right_side_of}

last_of : (line : List ℤ) (b : ℤ) → get_or (line ++ b ∷ []) (length line) (pos 0) ≡ b
last_of [] b = refl
last_of (x ∷ line) b = last_of line b

one_more : (line : List ℤ) (b : ℤ) → length (line ++ b ∷ []) ≡ length line + 1
one_more line b = length-append line (b ∷ [])

coefficients_joined : (line : List ℤ) (b : ℤ) → coefficients (line ++ b ∷ []) ≡ line
coefficients_joined line b =
    sym (row_front line (line ++ b ∷ []) (length line) refl (one_more line b)) ∙ take-append-le (length line) line (b ∷ []) (omega arith) ∙ take_all (length line) line (omega arith)

side_joined : (line : List ℤ) (b : ℤ) → right_side (line ++ b ∷ []) ≡ b
side_joined line b = sym (right_side_of (line ++ b ∷ []) (length line) (one_more line b)) ∙ last_of line b

pub matrix_joined : (m : List (List ℤ)) (bs : List ℤ) → length bs ≡ length m → matrix_of (rows_with m bs) ≡ m
matrix_joined [] bs h = refl
matrix_joined (line ∷ lines) [] h = absurd (omega (arith, h))
matrix_joined (line ∷ lines) (b ∷ bs) h = ap₂ (λ (x : List ℤ) (xs : List (List ℤ)). x ∷ xs) (coefficients_joined line b) (matrix_joined lines bs (omega (arith, h)))

pub sides_joined : (m : List (List ℤ)) (bs : List ℤ) → length bs ≡ length m → right_sides (rows_with m bs) ≡ bs
sides_joined [] [] h = refl
sides_joined [] (b ∷ bs) h = absurd (omega (arith, h))
sides_joined (line ∷ lines) [] h = absurd (omega (arith, h))
sides_joined (line ∷ lines) (b ∷ bs) h = ap₂ (λ (x : ℤ) (xs : List ℤ). x ∷ xs) (side_joined line b) (sides_joined lines bs (omega (arith, h)))

pub length-joined : (m : List (List ℤ)) (bs : List ℤ) → length bs ≡ length m → length (rows_with m bs) ≡ length m
length-joined [] bs h = refl
length-joined (line ∷ lines) [] h = absurd (omega (arith, h))
length-joined (line ∷ lines) (b ∷ bs) h = let more = length-joined lines bs (omega (arith, h)) in omega (arith, more)

wide_joined : (n : ℕ) (m : List (List ℤ)) (bs : List ℤ) → All (λ row. length row ≡ n) m → All (λ row. length row ≡ n + 1) (rows_with m bs)
wide_joined n [] bs all = All-nil (λ row. length row ≡ n + 1)
wide_joined n (line ∷ lines) [] all = All-nil (λ row. length row ≡ n + 1)
wide_joined n (line ∷ lines) (b ∷ bs) all =
    All-cons (λ row. length row ≡ n + 1) (line ++ b ∷ []) (rows_with lines bs) (omega (arith, one_more line b, All-head (λ row. length row ≡ n) line lines all)) (wide_joined n lines bs (All-tail (λ row. length row ≡ n) line lines all))

pub square_joined : (m : List (List ℤ)) (bs : List ℤ) → length bs ≡ length m → All (λ row. length row ≡ length m) m → All (λ row. length row ≡ length (rows_with m bs) + 1) (rows_with m bs)
square_joined m bs h all = subst (λ (n : ℕ). All (λ row. length row ≡ n + 1) (rows_with m bs)) (sym (length-joined m bs h)) (wide_joined (length m) m bs all)
