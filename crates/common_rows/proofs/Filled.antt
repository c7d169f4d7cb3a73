-- A row that gets its entries has the slopes of all unknowns.
use Rattle.std.proofs.Common.{◌≡◌, ◌<◌, ◌≤◌, ◌+◌, ℕ, zero, suc, Bool, true, false, ℤ, pos, negsuc, List, [], ◌∷◌, ◌++◌, length, replicate, map, set, get_or, drop, Ok, Err, refl, sym, ap, subst, ◌∙◌, arith, append_assoc}
use Rattle.std.specs.Prelude.{nat_eq, unsigned_abs, if◌then◌else◌}
use Rattle.std.specs.List.{All}
use Rattle.std.proofs.Common.{length-append}
use Rattle.std.proofs.lemmas.Bool.Decides.{nat_tests}
use Rattle.std.proofs.lemmas.List.{get_or-set_same, set-set, drop_more, drop_all, length-map, append-nil}
use Rattle.std.proofs.lemmas.List.Elements.{All-cons, All-nil}
use Rattle.fix_core.specs.Passes.{and_then, each}
use Rattle.flat_expr.specs.declared.expr.Unknown.{Unknown}
use Rattle.design_meaning.specs.declared.fault.EvalFault.{EvalFault}
use Rattle.design_meaning.specs.Readings.{Readings}
use Rattle.design_meaning.specs.Equations.{residual_of, row_slope}
use Rattle.design_meaning.specs.Newton.{linear_row}
use Rattle.equation_values.proofs.Segments.{row_done, each_total}
use Rattle.common_rows.specs.declared.entries.Entry.{Entry}
use Rattle.common_rows.specs.declared.forms.CommonForm.{CommonForm}
use Rattle.common_rows.specs.declared.forms.CommonForm.TheVariants as form
use Rattle.common_rows.specs.Forms.{row_by, slope_by}
use Rattle.common_rows.specs.Entries.{kept, entries_from, with_entries}

set_behind : {A : Type 0} (done more : List A) (x y : A) → set (done ++ x ∷ more) (length done) y ≡ (done ++ y ∷ []) ++ more
set_behind [] more x y = refl
set_behind (d ∷ done) more x y = ap (λ l. d ∷ l) (set_behind done more x y)

same_number : (m n : ℕ) → nat_eq m n ≡ true → m ≡ n
same_number m n h = grind (arith, nat_tests)

is_none : (z : ℤ) → nat_eq (unsigned_abs z) 0 ≡ true → z ≡ pos 0
is_none z h = at z (same_number (unsigned_abs z) 0 h)
  where
    at : (z : ℤ) → unsigned_abs z ≡ 0 → z ≡ pos 0
    at (pos zero) e = refl
    at (pos (suc n)) e = absurd (omega (arith, e))
    at (negsuc n) e = absurd (omega (arith, e))

filled_from : (slope : Unknown → ℤ) (us : List Unknown) (done tail : List ℤ) (place : ℕ) → length done ≡ place
    → with_entries (entries_from slope place us) (done ++ (replicate (length us) (pos 0) ++ tail)) ≡ done ++ (map slope us ++ tail)
unfolding entries_from with_entries
filled_from slope [] done tail place is = refl
filled_from slope (u ∷ us) done tail place is =
    at (slope u) (nat_eq (unsigned_abs (slope u)) 0) refl (λ more n e. filled_from slope us more tail n e)
  where
    rest : ℤ → List ℤ
    rest z = done ++ (z ∷ (map slope us ++ tail))

    next : (z : ℤ) → ((more : List ℤ) (n : ℕ) → length more ≡ n → with_entries (entries_from slope n us) (more ++ (replicate (length us) (pos 0) ++ tail)) ≡ more ++ (map slope us ++ tail))
        → with_entries (entries_from slope (place + 1) us) ((done ++ z ∷ []) ++ (replicate (length us) (pos 0) ++ tail)) ≡ done ++ (z ∷ (map slope us ++ tail))
    next z ih = ih (done ++ z ∷ []) (place + 1) (length-append done (z ∷ []) ∙ ap (λ n. n + 1) is) ∙ append_assoc done (z ∷ []) (map slope us ++ tail)

    at : (z : ℤ) (b : Bool) → nat_eq (unsigned_abs z) 0 ≡ b → ((more : List ℤ) (n : ℕ) → length more ≡ n → with_entries (entries_from slope n us) (more ++ (replicate (length us) (pos 0) ++ tail)) ≡ more ++ (map slope us ++ tail))
        → with_entries ((if nat_eq (unsigned_abs z) 0 then [] else record { place = place; slope = z } ∷ []) ++ entries_from slope (place + 1) us) (done ++ (pos 0 ∷ (replicate (length us) (pos 0) ++ tail))) ≡ done ++ (z ∷ (map slope us ++ tail))
    at z true e ih =
        rw e
        (ap (λ l. with_entries (entries_from slope (place + 1) us) l) (sym (append_assoc done (pos 0 ∷ []) (replicate (length us) (pos 0) ++ tail)))
        ∙ next (pos 0) ih ∙ ap (λ w. done ++ (w ∷ (map slope us ++ tail))) (sym (is_none z e)))
    at z false e ih =
        rw e
        (ap (λ n. with_entries (entries_from slope (place + 1) us) (set (done ++ (pos 0 ∷ (replicate (length us) (pos 0) ++ tail))) n z)) (sym is)
        ∙ ap (λ l. with_entries (entries_from slope (place + 1) us) l) (set_behind done (replicate (length us) (pos 0) ++ tail) (pos 0) z)
        ∙ next z ih)

replicate_end : {A : Type 0} (n : ℕ) (x : A) → replicate (n + 1) x ≡ replicate n x ++ x ∷ []
replicate_end zero x = refl
replicate_end (suc n) x = let e : suc n + 1 ≡ suc (n + 1) = omega arith in ap (λ k. replicate k x) e ∙ ap (λ l. x ∷ l) (replicate_end n x)

-- a cleared row with its entries
pub filled : (slope : Unknown → ℤ) (us : List Unknown) → with_entries (entries_from slope 0 us) (replicate (length us + 1) (pos 0)) ≡ map slope us ++ pos 0 ∷ []
filled slope us = ap (with_entries (entries_from slope 0 us)) (replicate_end (length us) (pos 0)) ∙ filled_from slope us [] (pos 0 ∷ []) 0 refl

-- the slopes of an equation
same_slope : (f : CommonForm) (r : Readings) (u : Unknown) → row_slope (row_by f) r u ≡ Ok (slope_by f u)
same_slope (form.Sum ends) r u = refl
same_slope (form.Difference q plus minus) r u = refl

-- the row of an equation, by its residual
row_is : (f : CommonForm) (r : Readings) (us : List Unknown) → linear_row us r (row_by f) ≡ and_then (λ z. Ok (map (slope_by f) us ++ z ∷ [])) (residual_of (row_by f) r)
row_is f r us = ap (λ m. and_then (λ z. and_then (λ slopes. Ok (slopes ++ z ∷ [])) m) (residual_of (row_by f) r)) (each_total (row_slope (row_by f) r) (slope_by f) (same_slope f r) us)

-- the row was cleared, and got its entries and its residual
pub row_filled : (f : CommonForm) (r : Readings) (us : List Unknown) (entries : List Entry) (rows before after : List (List ℤ)) (row : ℕ) (residual : ℤ) → entries ≡ entries_from (slope_by f) 0 us
    → length us ≡ length rows → row < length rows → residual_of (row_by f) r ≡ Ok residual
    → before ≡ set rows row (replicate (length rows + 1) (pos 0)) → after ≡ set before row (with_entries entries (get_or before row []))
    → and_then (λ own. Ok (set rows row own)) (linear_row us r (row_by f)) ≡ Ok (set after row (set (get_or after row []) (length us) residual))
row_filled f r us entries rows before after row residual es size lt known cleared written =
    let start : get_or before row [] ≡ replicate (length us + 1) (pos 0) =
    ap (λ l. get_or l row []) cleared ∙ get_or-set_same rows row (replicate (length rows + 1) (pos 0)) [] lt ∙ ap (λ k. replicate (k + 1) (pos 0)) (sym size) in
    let own : with_entries entries (get_or before row []) ≡ map (slope_by f) us ++ pos 0 ∷ [] =
    ap (λ l. with_entries entries l) start ∙ ap (λ l. with_entries l (replicate (length us + 1) (pos 0))) es ∙ filled (slope_by f) us in
    ap (λ m. and_then (λ own. Ok (set rows row own)) m) (row_is f r us ∙ ap (λ m. and_then (λ z. Ok (map (slope_by f) us ++ z ∷ [])) m) known)
    ∙ ap Ok (sym (row_done rows before after row (with_entries entries (get_or before row [])) (map (slope_by f) us) (replicate (length rows + 1) (pos 0)) (length us) residual lt cleared written own (length-map us (slope_by f))))

-- its residual has a fault
pub row_faulty : (f : CommonForm) (r : Readings) (us : List Unknown) (rows : List (List ℤ)) (row : ℕ) (q : EvalFault) → residual_of (row_by f) r ≡ Err q
    → and_then (λ own. Ok (set rows row own)) (linear_row us r (row_by f)) ≡ Err q
row_faulty f r us rows row q known = ap (λ m. and_then (λ own. Ok (set rows row own)) (and_then (λ z. and_then (λ slopes. Ok (slopes ++ z ∷ [])) (each (row_slope (row_by f) r) us)) m)) known

-- ---- places

below_from : (slope : Unknown → ℤ) (us : List Unknown) (place n : ℕ) → place + length us ≤ n → All (λ (e : Entry). e.place < n) (entries_from slope place us)
unfolding entries_from
below_from slope [] place n h = All-nil (λ (e : Entry). e.place < n)
below_from slope (u ∷ us) place n h = at (slope u) (nat_eq (unsigned_abs (slope u)) 0) (below_from slope us (place + 1) n (omega arith))
  where
    at : (z : ℤ) (b : Bool) → All (λ (e : Entry). e.place < n) (entries_from slope (place + 1) us) → All (λ (e : Entry). e.place < n) ((if b then [] else record { place = place; slope = z } ∷ []) ++ entries_from slope (place + 1) us)
    at z true more = more
    at z false more = All-cons (λ (e : Entry). e.place < n) (record { place = place; slope = z }) (entries_from slope (place + 1) us) (omega arith) more

-- entries stand at places of the row
pub entries_below : (slope : Unknown → ℤ) (us : List Unknown) (entries : List Entry) (n : ℕ) → entries ≡ entries_from slope 0 us → length us ≡ n → All (λ (e : Entry). e.place < n) entries
entries_below slope us entries n es size = subst (All (λ (e : Entry). e.place < n)) (sym es) (below_from slope us 0 n (omega (arith, size)))

-- ---- the loop over the entries

pub entries_more : (entries : List Entry) (rows : List (List ℤ)) (row i : ℕ) (e : Entry) → i < length entries → e ≡ get_or entries i e → row < length rows
    → with_entries (drop i entries) (get_or rows row []) ≡ with_entries (drop (i + 1) entries) (get_or (set rows row (set (get_or rows row []) e.place e.slope)) row [])
unfolding with_entries
entries_more entries rows row i e lt is low =
    rw (drop_more entries i e lt, sym is, get_or-set_same rows row (set (get_or rows row []) e.place e.slope) [] low) refl

pub entries_end : (entries : List Entry) (line : List ℤ) (i : ℕ) → length entries ≤ i → with_entries (drop i entries) line ≡ line
unfolding with_entries
entries_end entries line i h = rw (drop_all i entries h) refl

-- one row alone was written
pub others_stay : (rows0 rows : List (List ℤ)) (row : ℕ) (line : List ℤ) → row < length rows → rows ≡ set rows0 row (get_or rows row []) → set rows row line ≡ set rows0 row (get_or (set rows row line) row [])
others_stay rows0 rows row line lt e =
    ap (λ r. set r row line) e ∙ set-set rows0 row (get_or rows row []) line ∙ ap (set rows0 row) (sym (get_or-set_same rows row line [] lt))

-- ---- the loop over the unknowns

pub asked_next : (slope : Unknown → ℤ) (i : ℕ) (us : List Unknown) (d : Unknown) (done more : List Entry) → i < length us → more ≡ done ++ kept i (slope (get_or us i d))
    → done ++ entries_from slope i (drop i us) ≡ more ++ entries_from slope (i + 1) (drop (i + 1) us)
unfolding entries_from
asked_next slope i us d done more lt e =
    ap (λ l. done ++ entries_from slope i l) (drop_more us i d lt)
    ∙ sym (append_assoc done (kept i (slope (get_or us i d))) (entries_from slope (i + 1) (drop (i + 1) us)))
    ∙ ap (λ l. l ++ entries_from slope (i + 1) (drop (i + 1) us)) (sym e)

pub asked_end : (slope : Unknown → ℤ) (i : ℕ) (us : List Unknown) (done : List Entry) → length us ≤ i → done ++ entries_from slope i (drop i us) ≡ done
unfolding entries_from
asked_end slope i us done h = ap (λ l. done ++ entries_from slope i l) (drop_all i us h) ∙ append-nil done
