-- The values before the first solution, one by one.
use Rattle.std.proofs.Common.{◌≡◌, ℕ, zero, suc, ◌+◌, ◌<◌, ◌≤◌, ℤ, pos, List, [], ◌∷◌, ◌++◌, length, map, replicate, take, set, get_or, refl, sym, ap, ◌∙◌, arith, length-append}
use Rattle.std.proofs.lemmas.List.{take_more, take_more_set, take_all, length-map, length-replicate}
use Rattle.flat_design.specs.declared.objects.Objects.{Objects}
use Rattle.flat_design.specs.declared.objects.Quantity.{Quantity}
use Rattle.flat_design.specs.Order.{unknown_count}
use Rattle.system_model.specs.System.{initial_values}

zero_at : (n i : ℕ) → get_or (replicate n (pos 0)) i (pos 0) ≡ pos 0
zero_at zero i = refl
zero_at (suc n) zero = refl
zero_at (suc n) (suc i) = zero_at n i

-- behind the end of a list are zeros
read_with_zeros : (xs : List ℤ) (n i : ℕ) → get_or (xs ++ replicate n (pos 0)) i (pos 0) ≡ get_or xs i (pos 0)
read_with_zeros [] n i = zero_at n i
read_with_zeros (x ∷ xs) n zero = refl
read_with_zeros (x ∷ xs) n (suc i) = read_with_zeros xs n i

pub length-initial : (objects : Objects) → length (initial_values objects) ≡ unknown_count objects
length-initial objects = simp (length-append, length-map, length-replicate) (omega arith)

-- one value more
pub start_more : (objects : Objects) (out : List ℤ) (i : ℕ) (v : ℤ) → i < length out → length out ≡ unknown_count objects → v ≡ get_or (map (λ (q : Quantity). q.initial) objects.quantities) i (pos 0)
    → take i out ≡ take i (initial_values objects) → take (i + 1) (set out i v) ≡ take (i + 1) (initial_values objects)
start_more objects out i v lt long is done =
    let within : i < length (initial_values objects) = omega (arith, length-initial objects) in
    let here : v ≡ get_or (initial_values objects) i (pos 0) = is ∙ sym (read_with_zeros (map (λ (q : Quantity). q.initial) objects.quantities) (length objects.nodes + length objects.dots) i) in
    take_more_set out i v lt ∙ ap (λ l. l ++ v ∷ []) done ∙ ap (λ z. take i (initial_values objects) ++ z ∷ []) here ∙ sym (take_more (initial_values objects) i (pos 0) within)

-- all of them
pub start_end : (objects : Objects) (out : List ℤ) (i : ℕ) → length out ≤ i → length out ≡ unknown_count objects → take i out ≡ take i (initial_values objects) → out ≡ initial_values objects
start_end objects out i all long done =
    sym (take_all i out all) ∙ done ∙ take_all i (initial_values objects) (omega (arith, length-initial objects))
