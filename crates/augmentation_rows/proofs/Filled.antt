-- The row of an augmentation equation.
use Rattle.std.proofs.Common.{◌≡◌, ◌<◌, ◌+◌, ℕ, zero, suc, ℤ, pos, List, [], ◌∷◌, ◌++◌, length, replicate, map, set, get_or, Ok, IsTrue, refl, sym, ap, ◌∙◌, arith}
use Rattle.std.specs.Prelude.{neg_ℤ, ◌+ℤ◌}
use Rattle.std.proofs.lemmas.List.{get_or-set_same, length-map, length-set, length-replicate, set-append_left}
use Rattle.fix_core.specs.Passes.{and_then}
use Rattle.fix_core.specs.Units.{one}
use Rattle.fix_core.specs.Rounding.{rnd}
use Rattle.flat_expr.specs.declared.expr.Unknown.{Unknown}
use Rattle.flat_expr.specs.declared.expr.Unknown.TheVariants.{Quantity, Dot}
use Rattle.flat_design.specs.declared.objects.Objects.{Objects}
use Rattle.flat_design.specs.Order.{unknowns, unknown_count, number_of, is_unknown}
use Rattle.design_meaning.specs.Readings.{Readings}
use Rattle.design_meaning.specs.Equations.{Row, written, balance, difference, given, euler, trapezoid, at_unknown, residual_of, row_slope}
use Rattle.design_meaning.specs.Newton.{linear_row}
use Rattle.equation_values.proofs.Segments.{row_done, each_total}
use Rattle.augmentation_rows.specs.Forms.{IsRowOf}
use Rattle.augmentation_rows.specs.Writing.{with_two, with_slopes}
use Rattle.augmentation_rows.proofs.Places.{length_unknowns, one_slope, two_slopes, number_below}

replicate_end : {A : Type 0} (n : ℕ) (x : A) → replicate (n + 1) x ≡ replicate n x ++ x ∷ []
replicate_end zero x = refl
replicate_end (suc n) x = let e : suc n + 1 ≡ suc (n + 1) = omega arith in ap (λ k. replicate k x) e ∙ ap (λ l. x ∷ l) (replicate_end n x)

-- a row in place of a dot, with the slope by each unknown
abbrev slope_by : Row → Unknown → ℤ
slope_by (given v x) u = at_unknown v u one
slope_by (euler q d start s) u = at_unknown (Quantity q) u one +ℤ at_unknown (Dot d) u (neg_ℤ (pos s))
slope_by (trapezoid q d start rate s) u = at_unknown (Quantity q) u one +ℤ at_unknown (Dot d) u (neg_ℤ (rnd (pos s) (pos 2)))
slope_by _ u = pos 0

same_slope : (objects : Objects) (row : Row) → IsRowOf objects row → (r : Readings) (u : Unknown) → row_slope row r u ≡ Ok (slope_by row u)
same_slope objects (given v x) h r u = refl
same_slope objects (euler q d start s) h r u = refl
same_slope objects (trapezoid q d start rate s) h r u = refl
same_slope objects (written a b) h r u = absurd h
same_slope objects (balance ends) h r u = absurd h
same_slope objects (difference q plus minus) h r u = absurd h

abbrev line_of_zeros : Objects → List ℤ
line_of_zeros objects = replicate (unknown_count objects + 1) (pos 0)

one_written : (objects : Objects) (u : Unknown) (z : ℤ) → IsTrue (is_unknown objects u) → set (line_of_zeros objects) (number_of objects u) z ≡ map (λ v. at_unknown u v z) (unknowns objects) ++ pos 0 ∷ []
one_written objects u z known =
    let n = unknown_count objects in
    let k = number_of objects u in
    let size = length-replicate n (pos 0) in
    ap (λ l. set l k z) (replicate_end n (pos 0))
    ∙ set-append_left (replicate n (pos 0)) (pos 0 ∷ []) k z (omega (arith, size, number_below objects u known))
    ∙ ap (λ l. l ++ pos 0 ∷ []) (sym (one_slope objects u z known))

two_written : (objects : Objects) (q d : ℕ) (z : ℤ) → q < length objects.quantities → d < length objects.dots
    → with_two objects q d z (line_of_zeros objects) ≡ map (λ v. at_unknown (Quantity q) v one +ℤ at_unknown (Dot d) v z) (unknowns objects) ++ pos 0 ∷ []
two_written objects q d z hq hd =
    let n = unknown_count objects in
    let a = number_of objects (Quantity q) in
    let b = number_of objects (Dot d) in
    let zs = replicate n (pos 0) in
    let size = length-replicate n (pos 0) in
    let more = length-set zs a one in
    ap (λ l. set (set l a one) b z) (replicate_end n (pos 0))
    ∙ ap (λ l. set l b z) (set-append_left zs (pos 0 ∷ []) a one (omega (arith, size, hq)))
    ∙ set-append_left (set zs a one) (pos 0 ∷ []) b z (omega (arith, size, more, hd))
    ∙ ap (λ l. l ++ pos 0 ∷ []) (sym (two_slopes objects q d one z hq hd))

slopes_written : (objects : Objects) (row : Row) → IsRowOf objects row → with_slopes objects row (line_of_zeros objects) ≡ map (slope_by row) (unknowns objects) ++ pos 0 ∷ []
slopes_written objects (given v x) h = one_written objects v one h
slopes_written objects (euler q d start s) h = two_written objects q d (neg_ℤ (pos s)) h.0 h.1
slopes_written objects (trapezoid q d start rate s) h = two_written objects q d (neg_ℤ (rnd (pos s) (pos 2))) h.0 h.1
slopes_written objects (written a b) h = absurd h
slopes_written objects (balance ends) h = absurd h
slopes_written objects (difference q plus minus) h = absurd h

-- the row was cleared, and got its slopes and its residual
pub row_filled : (row : Row) (r : Readings) (objects : Objects) (rows before after : List (List ℤ)) (k n : ℕ) (residual : ℤ) → IsRowOf objects row → length rows ≡ unknown_count objects → n ≡ unknown_count objects → k < length rows
    → residual_of row r ≡ Ok residual → before ≡ set rows k (replicate (length rows + 1) (pos 0)) → after ≡ set before k (with_slopes objects row (get_or before k []))
    → and_then (λ own. Ok (set rows k own)) (linear_row (unknowns objects) r row) ≡ Ok (set after k (set (get_or after k []) n residual))
row_filled row r objects rows before after k n residual known size count lt told cleared writes =
    let us = unknowns objects in
    let start : get_or before k [] ≡ line_of_zeros objects =
    ap (λ l. get_or l k []) cleared ∙ get_or-set_same rows k (replicate (length rows + 1) (pos 0)) [] lt ∙ ap (λ m. replicate (m + 1) (pos 0)) size in
    let own : with_slopes objects row (get_or before k []) ≡ map (slope_by row) us ++ pos 0 ∷ [] = ap (with_slopes objects row) start ∙ slopes_written objects row known in
    let wide : length (map (slope_by row) us) ≡ n = length-map us (slope_by row) ∙ length_unknowns objects ∙ sym count in
    ap (λ m. and_then (λ own. Ok (set rows k own)) (and_then (λ z. and_then (λ slopes. Ok (slopes ++ z ∷ [])) m) (residual_of row r))) (each_total (row_slope row r) (slope_by row) (same_slope objects row known r) us)
    ∙ ap (λ m. and_then (λ own. Ok (set rows k own)) (and_then (λ z. Ok (map (slope_by row) us ++ z ∷ [])) m)) told
    ∙ ap Ok (sym (row_done rows before after k (with_slopes objects row (get_or before k [])) (map (slope_by row) us) (replicate (length rows + 1) (pos 0)) n residual lt cleared writes own wide))
