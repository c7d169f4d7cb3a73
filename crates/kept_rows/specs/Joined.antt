-- A matrix and right sides as the rows of a system.
use Rattle.std.specs.Prelude.{ℤ, List, [], ◌∷◌, ◌++◌}

abbrev pub rows_with : List (List ℤ) → List ℤ → List (List ℤ)
rows_with [] bs = []
rows_with (line ∷ lines) [] = []
rows_with (line ∷ lines) (b ∷ bs) = (line ++ b ∷ []) ∷ rows_with lines bs
