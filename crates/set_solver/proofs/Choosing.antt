-- The choices among equations, one equation more.
use Rattle.std.proofs.Common.{◌≡◌, ◌≢◌, ℕ, ◌+◌, ◌<◌, ◌≤◌, List, [], ◌∷◌, ◌++◌, length, take, drop, set, get_or, refl, sym, ap, ◌∙◌, arith}
use Rattle.std.proofs.lemmas.List.{drop_all, take_more, take_more_set}
use Rattle.fix_core.specs.Laws.{at_place}
use Rattle.flat_design.specs.declared.objects.Choice.{Choice}
use Rattle.flat_design.specs.declared.objects.Equation.{Equation}
use Rattle.flat_design.specs.declared.objects.Equation.TheVariants as equation
use Rattle.design_meaning.specs.Steps.{selections_of}

pub counted_choice : (xs : List Equation) (i n : ℕ) (x : Equation) (c : Choice) → i < length xs → x ≡ get_or xs i x → x ≡ equation.Choice c
    → n + length (selections_of (drop i xs)) ≡ (n + 1) + length (selections_of (drop (i + 1) xs))
counted_choice xs i n x c lt is own =
    let one = ap (λ l. length (selections_of l)) (at_place xs i x lt is) ∙ ap (λ y. length (selections_of (y ∷ drop (i + 1) xs))) own in
    omega (arith, one)

pub counted_pair : (xs : List Equation) (i : ℕ) (x : Equation) → i < length xs → x ≡ get_or xs i x → ((c : Choice) → x ≢ equation.Choice c)
    → length (selections_of (drop i xs)) ≡ length (selections_of (drop (i + 1) xs))
counted_pair xs i (equation.Pair p) lt is none = ap (λ l. length (selections_of l)) (at_place xs i (equation.Pair p) lt is)
counted_pair xs i (equation.Choice c) lt is none = absurd (none c refl)

pub counted_all : (xs : List Equation) (i : ℕ) → length xs ≤ i → length (selections_of (drop i xs)) ≡ 0
counted_all xs i all = ap (λ l. length (selections_of l)) (drop_all i xs all)

-- a branch more is copied
pub copied_more : (xs out : List ℕ) (k : ℕ) → k < length xs → k < length out → take k out ≡ take k xs → take (k + 1) (set out k (get_or xs k 0)) ≡ take (k + 1) xs
copied_more xs out k lx lo e = take_more_set out k (get_or xs k 0) lo ∙ ap (λ l. l ++ get_or xs k 0 ∷ []) e ∙ sym (take_more xs k 0 lx)
