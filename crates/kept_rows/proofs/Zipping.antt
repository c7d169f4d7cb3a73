-- Passes that tell something beside each row.
use Rattle.std.proofs.Common.{◌≡◌, ℕ, zero, suc, ◌+◌, ◌<◌, ◌≤◌, ℤ, List, [], ◌∷◌, ◌++◌, length, take, drop, set, get_or, map, Result, Ok, Err, refl, sym, ap, ◌∙◌, arith}
use Rattle.std.proofs.lemmas.List.{take_more_set, drop-set-lt, append-nil, take_all, drop_all, length-take}
use Rattle.fix_core.specs.declared.NumFault.{NumFault}
use Rattle.fix_core.specs.Passes.{and_then, each, joined}
use Rattle.fix_core.specs.Laws.{joined-joined, joined_none, at_place}
use Rattle.kept_elimination.specs.Kept.{Scaling, Reduction, factors_of, rows_of}
use Rattle.kept_rows.specs.Told.{zipped, scaling_by, scalings, reduction_by, reductions}

zip_nothing : {T B : Type 0} (make : T → List ℤ → B) (rows : List (List ℤ)) → zipped make [] rows ≡ []
unfolding zipped
zip_nothing make rows = refl

zip-append : {T B : Type 0} (make : T → List ℤ → B) (ts : List T) (rows : List (List ℤ)) (t : T) (row : List ℤ) → length ts ≡ length rows → zipped make (ts ++ t ∷ []) (rows ++ row ∷ []) ≡ zipped make ts rows ++ make t row ∷ []
unfolding zipped
zip-append make [] [] t row h = refl
zip-append make [] (x ∷ rows) t row h = absurd (omega (arith, h))
zip-append make (s ∷ ts) [] t row h = absurd (omega (arith, h))
zip-append {B} make (s ∷ ts) (x ∷ rows) t row h = ap (λ (z : List B). make s x ∷ z) (zip-append make ts rows t row (omega (arith, h)))

pub zip_start : {T B : Type 0} (make : T → List ℤ → B) (f : List ℤ → Result B NumFault) (ts : List T) (rows : List (List ℤ)) → each f rows ≡ joined (zipped make (take 0 ts) (take 0 rows)) (each f (drop 0 rows))
zip_start make f ts rows = rw (zip_nothing make []) (sym (joined_none (each f rows)))

pub zip_more : {T B : Type 0} (make : T → List ℤ → B) (f : List ℤ → Result B NumFault) (ts : List T) (rows : List (List ℤ)) (i : ℕ) (t : T) (x y : List ℤ) → i < length ts → i < length rows → x ≡ get_or rows i x → f x ≡ Ok (make t y) → joined (zipped make (take i ts) (take i rows)) (each f (drop i rows)) ≡ joined (zipped make (take (i + 1) (set ts i t)) (take (i + 1) (set rows i y))) (each f (drop (i + 1) (set rows i y)))
unfolding each
zip_more make f ts rows i t x y ht hr r e =
    let long : length (take i ts) ≡ length (take i rows) = omega (arith, ht, hr, length-take i ts, length-take i rows) in
    rw (at_place rows i x hr r, e, take_more_set ts i t ht, take_more_set rows i y hr, drop-set-lt (i + 1) rows i y (omega arith), zip-append make (take i ts) (take i rows) t y long)
    (joined-joined (zipped make (take i ts) (take i rows)) (make t y) (each f (drop (i + 1) rows)))

pub zip_fails : {T B : Type 0} (make : T → List ℤ → B) (f : List ℤ → Result B NumFault) (ts : List T) (rows : List (List ℤ)) (i : ℕ) (x : List ℤ) (e : NumFault) → i < length rows → x ≡ get_or rows i x → f x ≡ Err e → joined (zipped make (take i ts) (take i rows)) (each f (drop i rows)) ≡ Err e
unfolding each
zip_fails make f ts rows i x e hr r h = rw (at_place rows i x hr r, h) refl

pub zip_end : {T B : Type 0} (make : T → List ℤ → B) (f : List ℤ → Result B NumFault) (ts : List T) (rows : List (List ℤ)) (i : ℕ) → length ts ≤ i → length rows ≤ i → joined (zipped make (take i ts) (take i rows)) (each f (drop i rows)) ≡ Ok (zipped make ts rows)
unfolding each
zip_end make f ts rows i ht hr = rw (drop_all i rows hr, take_all i ts ht, take_all i rows hr, append-nil (zipped make ts rows)) refl

-- ---- what was zipped

map_first : {T B : Type 0} (make : T → List ℤ → B) (g : B → T) (ts : List T) (rows : List (List ℤ)) → ((t : T) (row : List ℤ) → g (make t row) ≡ t) → length ts ≡ length rows → map g (zipped make ts rows) ≡ ts
unfolding zipped
map_first make g [] rows is h = refl
map_first make g (t ∷ ts) [] is h = absurd (omega (arith, h))
map_first {T} make g (t ∷ ts) (row ∷ rows) is h = rw (is t row) (ap (λ (z : List T). t ∷ z) (map_first make g ts rows is (omega (arith, h))))

map_second : {T B : Type 0} (make : T → List ℤ → B) (g : B → List ℤ) (ts : List T) (rows : List (List ℤ)) → ((t : T) (row : List ℤ) → g (make t row) ≡ row) → length ts ≡ length rows → map g (zipped make ts rows) ≡ rows
unfolding zipped
map_second make g [] [] is h = refl
map_second make g [] (row ∷ rows) is h = absurd (omega (arith, h))
map_second make g (t ∷ ts) [] is h = absurd (omega (arith, h))
map_second make g (t ∷ ts) (row ∷ rows) is h = rw (is t row) (ap (λ (z : List (List ℤ)). row ∷ z) (map_second make g ts rows is (omega (arith, h))))

pub turns_are : (ts : List ℕ) (rows : List (List ℤ)) → length ts ≡ length rows → map (λ (s : Scaling). s.turns) (scalings ts rows) ≡ ts
turns_are ts rows h = map_first scaling_by (λ (s : Scaling). s.turns) ts rows (λ t row. refl) h

pub scaled_are : (ts : List ℕ) (rows : List (List ℤ)) → length ts ≡ length rows → map (λ (s : Scaling). s.row) (scalings ts rows) ≡ rows
scaled_are ts rows h = map_second scaling_by (λ (s : Scaling). s.row) ts rows (λ t row. refl) h

pub factors_are : (fs : List ℤ) (rows : List (List ℤ)) → length fs ≡ length rows → factors_of (reductions fs rows) ≡ fs
factors_are fs rows h = map_first reduction_by (λ (r : Reduction). r.factor) fs rows (λ t row. refl) h

pub rows_are : (fs : List ℤ) (rows : List (List ℤ)) → length fs ≡ length rows → rows_of (reductions fs rows) ≡ rows
rows_are fs rows h = map_second reduction_by (λ (r : Reduction). r.row) fs rows (λ t row. refl) h
