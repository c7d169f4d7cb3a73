-- The greatest change between two points (own).
use Rattle.std.specs.Prelude.{ℕ, max, ℤ, ◌-ℤ◌, unsigned_abs, List, [], ◌∷◌}

-- place by place
unfoldable pub largest_change : List ℤ → List ℤ → ℕ
largest_change [] after = 0
largest_change (d ∷ before) [] = 0
largest_change (d ∷ before) (e ∷ after) = max (unsigned_abs (e -ℤ d)) (largest_change before after)
