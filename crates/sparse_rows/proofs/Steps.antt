-- What elimination asks of lists.
use Rattle.std.proofs.Common.{◌≡◌, ℕ, suc, ◌+◌, ◌-◌, ℤ, pos, List, [], ◌∷◌, ◌++◌, length, get_or, sym, ap, ◌∙◌, arith, refl}
use Rattle.std.proofs.lemmas.List.{length-map, drop_all, get_or-map}
use Rattle.std.specs.List.{swap}
use Rattle.fix_core.specs.Laws.{each_fails, each_end, each_start}
use Rattle.lin_solve.specs.Elimination.{right_side, pivot_place, by_pivot, unknowns}
use Rattle.lin_solve.proofs.Steps.{scaled_none, scaled_kept, scaled_more, largest_none, largest_here, place_here, place_later}

pub ruleset scales = (scaled_none, scaled_kept, scaled_more)

pub ruleset pivots = (largest_none, largest_here, place_here, place_later, length-map, drop_all, get_or-map)

pub ruleset passes = (each_fails, each_end, each_start)

-- the right side that was read
pub right_of : (row : List ℤ) (x : ℤ) (n : ℕ) → n ≡ length row → x ≡ get_or row (n - 1) (pos 0) → right_side row ≡ x
unfolding right_side
right_of row x n en e = rw (← en) (sym e)

-- the rows as the code parts them: the pivot row, and the others
pub start : (from rows front others : List (List ℤ)) (pivot : List ℤ) (col m : ℕ) → rows ≡ swap from 0 (pivot_place col from) → rows ≡ front ++ others → length front ≡ 1 → pivot ≡ get_or front 0 pivot → m ≡ length others + 1 → unknowns m col from ≡ by_pivot col (unknowns (length others) (col + 1)) (pivot ∷ others)
unfolding unknowns
start from rows [] others pivot col m e1 e2 one p count = absurd (omega (arith, one))
start from rows (a ∷ b ∷ front) others pivot col m e1 e2 one p count = absurd (omega (arith, one))
start from rows (a ∷ []) others pivot col m e1 e2 one p count =
    let more : m ≡ suc (length others) = omega (arith, count) in
    rw more (ap (by_pivot col (unknowns (length others) (col + 1))) (sym e1 ∙ e2 ∙ ap (λ (z : List ℤ). z ∷ others) (sym p)))
