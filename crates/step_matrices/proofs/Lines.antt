-- Rows with the same coefficients at every point.
use Rattle.std.proofs.Common.{◌≡◌, ◌<◌, ℕ, ℤ, List, [], ◌∷◌, ◌++◌, length, get_or, map, Option, Some, None, Result, Ok, Err, refl, sym, ap, ap₂, ◌∙◌}
use Rattle.std.specs.Prelude.{IsSome}
use Rattle.std.specs.List.{All}
use Rattle.std.proofs.lemmas.List.Elements.{All-head, All-tail}
use Rattle.fix_core.specs.Passes.{and_then, each}
use Rattle.flat_expr.specs.declared.expr.Unknown.{Unknown}
use Rattle.flat_design.specs.declared.objects.Pair.{Pair}
use Rattle.design_meaning.specs.declared.fault.EvalFault.{EvalFault}
use Rattle.design_meaning.specs.Readings.{Readings}
use Rattle.design_meaning.specs.Equations.{Row, written, balance, difference, given, euler, trapezoid, row_of, residual_of, row_slope}
use Rattle.design_meaning.specs.Newton.{linear_row, residuals_of}
use Rattle.kept_rows.specs.Joined.{rows_with}
use Rattle.prepared_pairs.specs.Prepared.{constant_in_row}
use Rattle.prepared_pairs.proofs.Whole.{constant_is_the_row_slope}
use Rattle.step_matrices.specs.Linear.{HasConstants}
use Rattle.step_matrices.specs.Lines.{known, pair_line, plain_slope, plain_line}

-- the linear row of each point has these coefficients, and the residual behind them
abbrev pub HasLine : List Unknown → Row → List ℤ → Type 0
HasLine us row line = (r : Readings) → linear_row us r row ≡ and_then (λ z. Ok (line ++ z ∷ [])) (residual_of row r)

each_known : (f : Unknown → Result ℤ EvalFault) (g : Unknown → ℤ) (us : List Unknown) → All (λ u. f u ≡ Ok (g u)) us → each f us ≡ Ok (map g us)
unfolding each
each_known f g [] all = refl
each_known f g (u ∷ us) all =
    let first : f u ≡ Ok (g u) = All-head (λ u. f u ≡ Ok (g u)) u us all in
    let more = each_known f g us (All-tail (λ u. f u ≡ Ok (g u)) u us all) in
    ap (λ (m : Result ℤ EvalFault). and_then (λ b. and_then (λ bs. Ok (b ∷ bs)) (each f us)) m) first
    ∙ ap (λ (m : Result (List ℤ) EvalFault). and_then (λ bs. Ok (g u ∷ bs)) m) more

-- where there is a residual these are the slopes
by_slopes : (us : List Unknown) (row : Row) (line : List ℤ) → ((r : Readings) (z : ℤ) → residual_of row r ≡ Ok z → each (row_slope row r) us ≡ Ok line) → HasLine us row line
by_slopes us row line slopes r = at (residual_of row r) refl
  where
    at : (m : Result ℤ EvalFault) → residual_of row r ≡ m → and_then (λ residual. and_then (λ ss. Ok (ss ++ residual ∷ [])) (each (row_slope row r) us)) m ≡ and_then (λ z. Ok (line ++ z ∷ [])) m
    at (Ok z) e = ap (λ (m : Result (List ℤ) EvalFault). and_then (λ ss. Ok (ss ++ z ∷ [])) m) (slopes r z e)
    at (Err q) e = refl

-- ---- an explicit equation

known_slope : (p : Pair) (r : Readings) (u : Unknown) (z : ℤ) → residual_of (row_of p) r ≡ Ok z → IsSome (constant_in_row p u) → row_slope (row_of p) r u ≡ Ok (known (constant_in_row p u))
known_slope p r u z e has = at (constant_in_row p u) refl has
  where
    at : (m : Option ℤ) → constant_in_row p u ≡ m → IsSome m → row_slope (row_of p) r u ≡ Ok (known m)
    at (Some v) k h = constant_is_the_row_slope p r u z v e k
    at None k h = absurd (cc)

pub line_of_pair : (us : List Unknown) (p : Pair) → HasConstants us p → HasLine us (row_of p) (pair_line us p)
line_of_pair us p has =
    by_slopes us (row_of p) (pair_line us p) (λ r z e. each_known (row_slope (row_of p) r) (λ u. known (constant_in_row p u)) us (λ k d lt. known_slope p r (get_or us k d) z e (has k d lt)))

-- ---- a row that no statement wrote

abbrev pub IsPlain : Row → Type 0
IsPlain (written a b) = ⊥
IsPlain _ = Unit {0}

pub line_of_plain : (us : List Unknown) (row : Row) → IsPlain row → HasLine us row (plain_line us row)
line_of_plain us (written a b) h = absurd h
line_of_plain us (balance ends) h =
    by_slopes us (balance ends) (plain_line us (balance ends)) (λ r z e. each_known (row_slope (balance ends) r) (λ u. plain_slope (balance ends) u) us (λ k d lt. refl))
line_of_plain us (difference q a b) h =
    by_slopes us (difference q a b) (plain_line us (difference q a b)) (λ r z e. each_known (row_slope (difference q a b) r) (λ u. plain_slope (difference q a b) u) us (λ k d lt. refl))
line_of_plain us (given v x) h =
    by_slopes us (given v x) (plain_line us (given v x)) (λ r z e. each_known (row_slope (given v x) r) (λ u. plain_slope (given v x) u) us (λ k d lt. refl))
line_of_plain us (euler q d start s) h =
    by_slopes us (euler q d start s) (plain_line us (euler q d start s)) (λ r z e. each_known (row_slope (euler q d start s) r) (λ u. plain_slope (euler q d start s) u) us (λ k w lt. refl))
line_of_plain us (trapezoid q d start rate s) h =
    by_slopes us (trapezoid q d start rate s) (plain_line us (trapezoid q d start rate s)) (λ r z e. each_known (row_slope (trapezoid q d start rate s) r) (λ u. plain_slope (trapezoid q d start rate s) u) us (λ k w lt. refl))

-- ---- all rows

abbrev pub HasLines : List Unknown → List Row → List (List ℤ) → Type 0
HasLines us [] [] = Unit {0}
HasLines us [] (line ∷ lines) = ⊥
HasLines us (row ∷ rows) [] = ⊥
HasLines us (row ∷ rows) (line ∷ lines) = HasLine us row line × HasLines us rows lines

joined_lines : (line : List ℤ) (lines : List (List ℤ)) (a : Result ℤ EvalFault) (m : Result (List ℤ) EvalFault)
    → and_then (λ b. and_then (λ bs. Ok (b ∷ bs)) (and_then (λ zs. Ok (rows_with lines zs)) m)) (and_then {B = List ℤ} (λ z. Ok (line ++ z ∷ [])) a)
    ≡ and_then (λ zs. Ok (rows_with (line ∷ lines) zs)) (and_then (λ z. and_then (λ zs. Ok (z ∷ zs)) m) a)
joined_lines line lines (Ok z) (Ok zs) = refl
joined_lines line lines (Ok z) (Err e) = refl
joined_lines line lines (Err e) m = refl

pub each_lines : (us : List Unknown) (r : Readings) (rows : List Row) (lines : List (List ℤ)) → HasLines us rows lines → each (linear_row us r) rows ≡ and_then (λ zs. Ok (rows_with lines zs)) (residuals_of rows r)
unfolding each
each_lines us r [] [] h = refl
each_lines us r [] (line ∷ lines) h = absurd h
each_lines us r (row ∷ rows) [] h = absurd h
each_lines us r (row ∷ rows) (line ∷ lines) h =
    ap (λ (m : Result (List ℤ) EvalFault). and_then (λ b. and_then (λ bs. Ok (b ∷ bs)) (each (linear_row us r) rows)) m) (h.0 r)
    ∙ ap (λ (m : Result (List (List ℤ)) EvalFault). and_then (λ b. and_then (λ bs. Ok (b ∷ bs)) m) (and_then {B = List ℤ} (λ z. Ok (line ++ z ∷ [])) (residual_of row r))) (each_lines us r rows lines h.1)
    ∙ joined_lines line lines (residual_of row r) (residuals_of rows r)

pub lines_append : (us : List Unknown) (xs ys : List Row) (ls ms : List (List ℤ)) → HasLines us xs ls → HasLines us ys ms → HasLines us (xs ++ ys) (ls ++ ms)
lines_append us [] ys [] ms h k = k
lines_append us [] ys (line ∷ ls) ms h k = absurd h
lines_append us (x ∷ xs) ys [] ms h k = absurd h
lines_append us (x ∷ xs) ys (line ∷ ls) ms h k = (h.0, lines_append us xs ys ls ms h.1 k)
