-- The shape of the columns that an elimination gives.
use Rattle.std.specs.Prelude.{◌≡◌, ◌+◌, ◌≤◌, ℕ, suc, ℤ, List, [], ◌∷◌, length, Ok}
use Rattle.std.specs.List.{All}
use Rattle.kept_elimination.specs.Kept.{Column, eliminated}

-- right sides, as many as columns, can pass: each pivot row comes from one of the rows that are left, and each of the others has a factor
abbrev pub Passes : List Column → Type 0
Passes [] = Unit {0}
Passes (k ∷ ks) = (k.place ≤ length ks) × (length k.factors ≡ length ks) × Passes ks

-- each pivot row has a coefficient for each column from this one on
abbrev pub Ends : ℕ → List Column → Type 0
Ends at [] = Unit {0}
Ends at (k ∷ ks) = (length k.pivot ≡ at + suc (length ks)) × Ends (at + 1) ks

-- a square matrix has this elimination
pub record IsElimination (matrix : List (List ℤ)) (turns : List ℕ) (columns : List Column) : Type 0 where
  pub square : All (λ row. length row ≡ length matrix) matrix
  pub gives : eliminated matrix ≡ Ok (record { turns = turns; columns = columns })
