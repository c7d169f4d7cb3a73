-- The row of an equation.
use Rattle.std.specs.Prelude.{◌||◌, not, if◌then◌else◌}
use Rattle.std.specs.List.{All}
use Rattle.std.proofs.lemmas.List.Elements.{All-cons, All-nil}
use Rattle.std.proofs.Common.{◌≡◌, ◌<◌, ◌≤◌, ◌+◌, ℕ, zero, suc, Bool, true, false, subst, ℤ, pos, List, [], ◌∷◌, ◌++◌, length, drop, replicate, set, get_or, Result, Ok, Err, refl, sym, ap, ◌∙◌, arith}
use Rattle.std.proofs.lemmas.List.{get_or-set_same, set-set, drop_more, drop_all}
use Rattle.fix_core.specs.Passes.{and_then, each}
use Rattle.flat_expr.specs.declared.expr.Unknown.{Unknown}
use Rattle.flat_expr.specs.declared.expr.Unknown.TheVariants.{Quantity}
use Rattle.flat_design.specs.declared.objects.Pair.{Pair}
use Rattle.design_meaning.specs.declared.fault.EvalFault.{EvalFault}
use Rattle.design_meaning.specs.Readings.{Readings}
use Rattle.design_meaning.specs.Equations.{row_of, row_slope, residual_of}
use Rattle.design_meaning.specs.Newton.{linear_row}
use Rattle.read_unknowns.specs.Asked.{stands_on, asked_from, asked_places}
use Rattle.read_unknowns.proofs.Unread.{unread_slopes}
use Rattle.equation_values.proofs.Segments.{row_done, length_each}
use Rattle.explicit_rows.specs.Writing.{with_slopes}
use Rattle.explicit_rows.proofs.Slopes.{row_filled}

-- the slope at a place
abbrev pub slope_at : Pair → Readings → List Unknown → ℕ → Result ℤ EvalFault
slope_at p r us place = row_slope (row_of p) r (get_or us place (Quantity 0))

any_default : {A : Type 0} (xs : List A) (j : ℕ) (d e : A) → j < length xs → get_or xs j d ≡ get_or xs j e
any_default [] j d e h = absurd (omega arith)
any_default (x ∷ xs) zero d e h = refl
any_default (x ∷ xs) (suc j) d e h = any_default xs j d e (omega arith)

-- the slopes of a row of zeros
asked : (p : Pair) (r : Readings) (us : List Unknown) → with_slopes (slope_at p r us) (asked_places p us) (replicate (length us + 1) (pos 0)) ≡ and_then (λ slopes. Ok (slopes ++ pos 0 ∷ [])) (each (row_slope (row_of p) r) us)
asked p r us = row_filled (stands_on p) (row_slope (row_of p) r) (slope_at p r us) us (unread_slopes p r) (λ j d h. ap (row_slope (row_of p) r) (any_default us j (Quantity 0) d h))

-- slopes were written into the cleared row, and then the residual
pub pair_filled : (p : Pair) (r : Readings) (us : List Unknown) (places : List ℕ) (rows before after : List (List ℤ)) (row : ℕ) (residual : ℤ) → places ≡ asked_places p us → length us ≡ length rows → row < length rows
    → residual_of (row_of p) r ≡ Ok residual → before ≡ set rows row (replicate (length rows + 1) (pos 0)) → with_slopes (slope_at p r us) places (get_or before row []) ≡ Ok (get_or after row [])
    → after ≡ set before row (get_or after row [])
    → and_then (λ own. Ok (set rows row own)) (linear_row us r (row_of p)) ≡ Ok (set after row (set (get_or after row []) (length us) residual))
pair_filled p r us places rows before after row residual asked_at size lt known cleared written others =
    at (each (row_slope (row_of p) r) us) refl
  where
    start : get_or before row [] ≡ replicate (length us + 1) (pos 0)
    start = ap (λ l. get_or l row []) cleared ∙ get_or-set_same rows row (replicate (length rows + 1) (pos 0)) [] lt ∙ ap (λ n. replicate (n + 1) (pos 0)) (sym size)

    whole : and_then (λ slopes. Ok (slopes ++ pos 0 ∷ [])) (each (row_slope (row_of p) r) us) ≡ Ok (get_or after row [])
    whole = sym (asked p r us) ∙ ap (λ l. with_slopes (slope_at p r us) l (replicate (length us + 1) (pos 0))) (sym asked_at) ∙ ap (with_slopes (slope_at p r us) places) (sym start) ∙ written

    at : (m : Result (List ℤ) EvalFault) → each (row_slope (row_of p) r) us ≡ m
        → and_then (λ own. Ok (set rows row own)) (and_then (λ z. and_then (λ slopes. Ok (slopes ++ z ∷ [])) (each (row_slope (row_of p) r) us)) (residual_of (row_of p) r)) ≡ Ok (set after row (set (get_or after row []) (length us) residual))
    at (Ok zs) e =
        let own : Ok (zs ++ pos 0 ∷ []) ≡ Ok (get_or after row []) = ap (λ m. and_then (λ slopes. Ok (slopes ++ pos 0 ∷ [])) m) (sym e) ∙ whole in
        let is : get_or after row [] ≡ zs ++ pos 0 ∷ [] = cc in
        rw (known, e) (ap Ok (sym (row_done rows before after row (get_or after row []) zs (replicate (length rows + 1) (pos 0)) (length us) residual lt cleared others is (length_each (row_slope (row_of p) r) us zs e))))
    at (Err f) e = absurd (let none : Err f ≡ Ok (get_or after row []) = ap (λ m. and_then (λ slopes. Ok (slopes ++ pos 0 ∷ [])) m) (sym e) ∙ whole in cc)

-- a slope had a fault
pub pair_faulty : (p : Pair) (r : Readings) (us : List Unknown) (places : List ℕ) (rows before : List (List ℤ)) (row : ℕ) (residual : ℤ) (f : EvalFault) → places ≡ asked_places p us → length us ≡ length rows → row < length rows
    → residual_of (row_of p) r ≡ Ok residual → before ≡ set rows row (replicate (length rows + 1) (pos 0)) → with_slopes (slope_at p r us) places (get_or before row []) ≡ Err f
    → and_then (λ own. Ok (set rows row own)) (linear_row us r (row_of p)) ≡ Err f
pair_faulty p r us places rows before row residual f asked_at size lt known cleared written =
    at (each (row_slope (row_of p) r) us) refl
  where
    start : get_or before row [] ≡ replicate (length us + 1) (pos 0)
    start = ap (λ l. get_or l row []) cleared ∙ get_or-set_same rows row (replicate (length rows + 1) (pos 0)) [] lt ∙ ap (λ n. replicate (n + 1) (pos 0)) (sym size)

    whole : and_then (λ slopes. Ok (slopes ++ pos 0 ∷ [])) (each (row_slope (row_of p) r) us) ≡ Err f
    whole = sym (asked p r us) ∙ ap (λ l. with_slopes (slope_at p r us) l (replicate (length us + 1) (pos 0))) (sym asked_at) ∙ ap (with_slopes (slope_at p r us) places) (sym start) ∙ written

    at : (m : Result (List ℤ) EvalFault) → each (row_slope (row_of p) r) us ≡ m
        → and_then (λ own. Ok (set rows row own)) (and_then (λ z. and_then (λ slopes. Ok (slopes ++ z ∷ [])) (each (row_slope (row_of p) r) us)) (residual_of (row_of p) r)) ≡ Err f
    at (Ok zs) e = absurd (let none : Ok (zs ++ pos 0 ∷ []) ≡ Err f = ap (λ m. and_then (λ slopes. Ok (slopes ++ pos 0 ∷ [])) m) (sym e) ∙ whole in cc)
    at (Err g) e = let same : Err g ≡ Err f = ap (λ m. and_then (λ slopes. Ok (slopes ++ pos 0 ∷ [])) m) (sym e) ∙ whole in let fault : g ≡ f = cc in rw (known, e) (ap Err fault)

below_from : (stands : Unknown → Bool) (found : Bool) (place : ℕ) (us : List Unknown) (n : ℕ) → place + length us ≤ n → All (λ k. k < n) (asked_from stands found place us)
unfolding asked_from
below_from stands found place [] n h = All-nil (λ k. k < n)
below_from stands found place (u ∷ us) n h =
    at (stands u || not found) (below_from stands (found || not (stands u)) (place + 1) us n (omega arith))
  where
    at : (b : Bool) → All (λ k. k < n) (asked_from stands (found || not (stands u)) (place + 1) us) → All (λ k. k < n) ((if b then place ∷ [] else []) ++ asked_from stands (found || not (stands u)) (place + 1) us)
    at true more = All-cons (λ k. k < n) place (asked_from stands (found || not (stands u)) (place + 1) us) (omega arith) more
    at false more = more

-- the asked places are places of the row
pub asked_below : (p : Pair) (us : List Unknown) (places : List ℕ) → places ≡ asked_places p us → All (λ k. k < length us) places
asked_below p us places e = subst (All (λ k. k < length us)) (sym e) (below_from (stands_on p) false 0 us (length us) (omega arith))

-- ---- the loop over the asked places

pub slopes_more : (slope : ℕ → Result ℤ EvalFault) (places : List ℕ) (rows : List (List ℤ)) (row i : ℕ) (z : ℤ) → i < length places → row < length rows → slope (get_or places i 0) ≡ Ok z
    → with_slopes slope (drop i places) (get_or rows row []) ≡ with_slopes slope (drop (i + 1) places) (get_or (set rows row (set (get_or rows row []) (get_or places i 0) z)) row [])
unfolding with_slopes
slopes_more slope places rows row i z lt low e =
    rw (drop_more places i 0 lt, e, get_or-set_same rows row (set (get_or rows row []) (get_or places i 0) z) [] low) refl

pub slopes_stop : (slope : ℕ → Result ℤ EvalFault) (places : List ℕ) (line : List ℤ) (i : ℕ) (f : EvalFault) → i < length places → slope (get_or places i 0) ≡ Err f → with_slopes slope (drop i places) line ≡ Err f
unfolding with_slopes
slopes_stop slope places line i f lt e = rw (drop_more places i 0 lt, e) refl

pub slopes_end : (slope : ℕ → Result ℤ EvalFault) (places : List ℕ) (line : List ℤ) (i : ℕ) → length places ≤ i → with_slopes slope (drop i places) line ≡ Ok line
unfolding with_slopes
slopes_end slope places line i h = rw (drop_all i places h) refl

-- one row alone was written
pub others_stay : (rows0 rows : List (List ℤ)) (row : ℕ) (line : List ℤ) → row < length rows → rows ≡ set rows0 row (get_or rows row []) → set rows row line ≡ set rows0 row (get_or (set rows row line) row [])
others_stay rows0 rows row line lt e =
    ap (λ r. set r row line) e ∙ set-set rows0 row (get_or rows row []) line ∙ ap (set rows0 row) (sym (get_or-set_same rows row line [] lt))
