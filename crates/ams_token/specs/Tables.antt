-- Tables of values with their texts, in rising order of the texts.
use Rattle.std.specs.Prelude.{◌≡◌, ℕ, Bool, true, ◌&&◌, List, [], ◌∷◌, map, slice_get, Some}
use Rattle.std.specs.Ordering.{is_lt, nat_cmp}
use Rattle.std.specs.Cmp.Lexicographic.{slice_cmp}
use denote.Ref.{Bor}

-- the texts of a table
abbrev pub texts_of : {X : Type 0} → List (X × Bor (List ℕ)) → List (List ℕ)
texts_of xs = map (λ x. x.1.now) xs

-- each text comes before the next one, byte by byte
abbrev pub rises : List (List ℕ) → Bool
rises [] = true
rises (x ∷ []) = true
rises (x ∷ y ∷ xs) = is_lt (slice_cmp nat_cmp x y) && rises (y ∷ xs)

-- the table has this value for this text
abbrev pub Holds : {X : Type 0} → List (X × Bor (List ℕ)) → X → List ℕ → Type 0
Holds {X = X} xs x text = (n : ℕ) × (slice_get {X = X × List ℕ} (map (λ y. (y.0, y.1.now)) xs) n ≡ Some (x, text))
