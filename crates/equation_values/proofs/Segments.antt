-- Answers that are written one after the other, from a place on.
use Rattle.std.proofs.Common.{◌≡◌, ◌<◌, ◌≤◌, ◌+◌, ℕ, suc, ℤ, pos, List, [], ◌∷◌, ◌++◌, length, take, drop, set, map, get_or, Result, Ok, Err, arith, refl, sym, ap, ◌∙◌, append_assoc}
use Rattle.std.proofs.lemmas.List.{take_more_set, append-nil, set-set, get_or-set_same, drop_all}
use Rattle.fix_core.specs.Passes.{and_then, each, joined, answer}
use Rattle.fix_core.specs.Laws.{joined-joined, joined_none, at_place}

-- one more
pub joined_more : {A B E : Type 0} (f : A → Result B E) (x : A) (more : List A) (out : List B) (i : ℕ) (y : B) → i < length out → f x ≡ Ok y
    → joined (take i out) (each f (x ∷ more)) ≡ joined (take (i + 1) (set out i y)) (each f more)
unfolding each
joined_more f x more out i y h e = rw (e, take_more_set out i y h) (joined-joined (take i out) y (each f more))

-- a fault
pub joined_stops : {A B E : Type 0} (f : A → Result B E) (x : A) (more : List A) (done : List B) (e : E) → f x ≡ Err e → joined done (each f (x ∷ more)) ≡ Err e
unfolding each
joined_stops f x more done e h = rw h refl

-- nothing is left
pub joined_end : {A B E : Type 0} (f : A → Result B E) (done : List B) → joined done (each f []) ≡ Ok done
unfolding each
joined_end f done = ap Ok (append-nil done)

-- two lists, one behind the other
pub joined_parts : {A B E : Type 0} (f : A → Result B E) (xs ys : List A) (done : List B) → joined done (each f (xs ++ ys)) ≡ and_then (λ more. joined more (each f ys)) (joined done (each f xs))
unfolding each
joined_parts f [] ys done = ap (λ d. joined d (each f ys)) (sym (append-nil done))
joined_parts {B = B} {E = E} f (x ∷ xs) ys done = at (f x) (λ more. joined_parts f xs ys more)
  where
    at : (r : Result B E) → ((more : List B) → joined more (each f (xs ++ ys)) ≡ and_then (λ m. joined m (each f ys)) (joined more (each f xs))) → joined done (and_then (λ b. and_then (λ bs. Ok (b ∷ bs)) (each f (xs ++ ys))) r) ≡ and_then (λ more. joined more (each f ys)) (joined done (and_then (λ b. and_then (λ bs. Ok (b ∷ bs)) (each f xs)) r))
    at (Err e) rest = refl
    at (Ok b) rest = joined-joined done b (each f (xs ++ ys)) ∙ rest (done ++ b ∷ []) ∙ ap (λ m. and_then (λ more. joined more (each f ys)) m) (sym (joined-joined done b (each f xs)))

-- the first of them is written
pub parts_written : {A B E : Type 0} (f : A → Result B E) (xs ys : List A) (done more : List B) → joined done (each f xs) ≡ Ok more → joined done (each f (xs ++ ys)) ≡ joined more (each f ys)
parts_written f xs ys done more e = joined_parts f xs ys done ∙ ap (λ m. and_then (λ d. joined d (each f ys)) m) e

-- it has a fault
pub parts_stop : {A B E : Type 0} (f : A → Result B E) (xs ys : List A) (done : List B) (e : E) → joined done (each f xs) ≡ Err e → joined done (each f (xs ++ ys)) ≡ Err e
parts_stop f xs ys done e h = joined_parts f xs ys done ∙ ap (λ m. and_then (λ d. joined d (each f ys)) m) h

-- ---- a row of the linear system

-- the row is cleared, gets slopes, and then its residual
pub row_done : (rows before after : List (List ℤ)) (row : ℕ) (own zs : List ℤ) (z : List ℤ) (n : ℕ) (residual : ℤ) → row < length rows → before ≡ set rows row z → after ≡ set before row own → own ≡ zs ++ pos 0 ∷ [] → length zs ≡ n
    → set after row (set (get_or after row []) n residual) ≡ set rows row (zs ++ residual ∷ [])
row_done rows before after row own zs z n residual h e f o l =
    let whole : after ≡ set rows row own = f ∙ ap (λ r. set r row own) e ∙ set-set rows row z own in
    let here : get_or after row [] ≡ zs ++ pos 0 ∷ [] = ap (λ r. get_or r row []) whole ∙ get_or-set_same rows row own [] h ∙ o in
    ap (λ r. set r row (set (get_or after row []) n residual)) whole
    ∙ set-set rows row own (set (get_or after row []) n residual)
    ∙ ap (λ r. set rows row (set r n residual)) here
    ∙ ap (λ k. set rows row (set (zs ++ pos 0 ∷ []) k residual)) (sym l)
    ∙ ap (set rows row) (set_last zs (pos 0) residual)
  where
    set_last : (zs : List ℤ) (x y : ℤ) → set (zs ++ x ∷ []) (length zs) y ≡ zs ++ y ∷ []
    set_last [] x y = refl
    set_last (z ∷ zs) x y = ap (λ l. z ∷ l) (set_last zs x y)

pub length_each : {A B E : Type 0} (f : A → Result B E) (xs : List A) (ys : List B) → each f xs ≡ Ok ys → length ys ≡ length xs
unfolding each
length_each f [] ys e = let same : [] ≡ ys = cc in ap length (sym same)
length_each {B = B} {E = E} f (x ∷ xs) ys e = at (f x) (each f xs) refl e (length_each f xs)
  where
    at : (r : Result B E) (m : Result (List B) E) → each f xs ≡ m → and_then (λ b. and_then (λ bs. Ok (b ∷ bs)) m) r ≡ Ok ys → ((zs : List B) → each f xs ≡ Ok zs → length zs ≡ length xs) → length ys ≡ length (x ∷ xs)
    at (Ok b) (Ok bs) k h more = let same : b ∷ bs ≡ ys = cc in ap length (sym same) ∙ ap suc (more bs k)
    at (Ok b) (Err q) k h more = absurd (cc)
    at (Err q) m k h more = absurd (cc)

pub each_total : {A B E : Type 0} (f : A → Result B E) (g : A → B) → ((x : A) → f x ≡ Ok (g x)) → (xs : List A) → each f xs ≡ Ok (map g xs)
unfolding each
each_total f g h [] = refl
each_total f g h (x ∷ xs) = ap (λ r. and_then (λ b. and_then (λ bs. Ok (b ∷ bs)) (each f xs)) r) (h x) ∙ ap (λ r. and_then (λ bs. Ok (g x ∷ bs)) r) (each_total f g h xs)

-- an element's answer is written at a place
pub row_told : {A B E : Type 0} (f : A → Result B E) (x : A) (more : List A) (rows after : List B) (k : ℕ) → k < length rows → and_then (λ own. Ok (set rows k own)) (f x) ≡ Ok after
    → joined (take k rows) (each f (x ∷ more)) ≡ joined (take (k + 1) after) (each f more)
row_told {B = B} {E = E} f x more rows after k lt h = at (f x) refl h
  where
    at : (m : Result B E) → f x ≡ m → and_then (λ own. Ok (set rows k own)) m ≡ Ok after → joined (take k rows) (each f (x ∷ more)) ≡ joined (take (k + 1) after) (each f more)
    at (Ok own) e q = let is : set rows k own ≡ after = cc in joined_more f x more rows k own lt e ∙ ap (λ l. joined (take (k + 1) l) (each f more)) is
    at (Err g) e q = absurd (cc)

pub row_stopped : {A B E : Type 0} (f : A → Result B E) (x : A) (more : List A) (rows done : List B) (k : ℕ) (e : E) → and_then (λ own. Ok (set rows k own)) (f x) ≡ Err e
    → joined done (each f (x ∷ more)) ≡ Err e
row_stopped {B = B} {E = E} f x more rows done k e h = at (f x) refl h
  where
    at : (m : Result B E) → f x ≡ m → and_then (λ own. Ok (set rows k own)) m ≡ Err e → joined done (each f (x ∷ more)) ≡ Err e
    at (Ok own) g q = absurd (cc)
    at (Err d) g q = let is : f x ≡ Err e = cc in joined_stops f x more done e is

-- ---- loops over a list whose elements stand for rows

next_place : (a b : ℕ) → (a + b) + 1 ≡ a + (b + 1)
next_place a b = omega arith

pub loop_more : {X A B E : Type 0} (f : A → Result B E) (g : X → A) (xs : List X) (out : List B) (first i : ℕ) (x : X) (y : B) → i < length xs → x ≡ get_or xs i x → first + length xs ≤ length out → f (g x) ≡ Ok y
    → joined (take (first + i) out) (each f (map g (drop i xs))) ≡ joined (take (first + (i + 1)) (set out (first + i) y)) (each f (map g (drop (i + 1) xs)))
loop_more f g xs out first i x y lt is room e =
    let within : first + i < length out = omega (arith, lt, room) in
    ap (λ ps. joined (take (first + i) out) (each f (map g ps))) (at_place xs i x lt is)
    ∙ joined_more f (g x) (map g (drop (i + 1) xs)) out (first + i) y within e
    ∙ ap (λ k. joined (take k (set out (first + i) y)) (each f (map g (drop (i + 1) xs)))) (next_place first i)

pub loop_stops : {X A B E : Type 0} (f : A → Result B E) (g : X → A) (xs : List X) (done : List B) (i : ℕ) (x : X) (e : E) → i < length xs → x ≡ get_or xs i x → f (g x) ≡ Err e
    → joined done (each f (map g (drop i xs))) ≡ Err e
loop_stops f g xs done i x e lt is h =
    ap (λ ps. joined done (each f (map g ps))) (at_place xs i x lt is) ∙ joined_stops f (g x) (map g (drop (i + 1) xs)) done e h

pub rows_more : {X A B E : Type 0} (f : A → Result B E) (g : X → A) (xs : List X) (rows after : List B) (first i : ℕ) (x : X) → i < length xs → x ≡ get_or xs i x → first + length xs ≤ length rows
    → and_then (λ own. Ok (set rows (first + i) own)) (f (g x)) ≡ Ok after
    → joined (take (first + i) rows) (each f (map g (drop i xs))) ≡ joined (take (first + (i + 1)) after) (each f (map g (drop (i + 1) xs)))
rows_more f g xs rows after first i x lt is room e =
    let within : first + i < length rows = omega (arith, lt, room) in
    ap (λ ps. joined (take (first + i) rows) (each f (map g ps))) (at_place xs i x lt is)
    ∙ row_told f (g x) (map g (drop (i + 1) xs)) rows after (first + i) within e
    ∙ ap (λ k. joined (take k after) (each f (map g (drop (i + 1) xs)))) (next_place first i)

pub rows_stop : {X A B E : Type 0} (f : A → Result B E) (g : X → A) (xs : List X) (rows done : List B) (k i : ℕ) (x : X) (e : E) → i < length xs → x ≡ get_or xs i x
    → and_then (λ own. Ok (set rows k own)) (f (g x)) ≡ Err e → joined done (each f (map g (drop i xs))) ≡ Err e
rows_stop f g xs rows done k i x e lt is h =
    ap (λ ps. joined done (each f (map g ps))) (at_place xs i x lt is) ∙ row_stopped f (g x) (map g (drop (i + 1) xs)) rows done k e h

pub loop_end : {X A B E : Type 0} (f : A → Result B E) (g : X → A) (xs : List X) (out : List B) (first i : ℕ) → length xs ≤ i → i ≤ length xs
    → joined (take (first + i) out) (each f (map g (drop i xs))) ≡ Ok (take (first + length xs) out)
loop_end f g xs out first i low high =
    let last : i ≡ length xs = omega (arith, low, high) in
    ap (λ ps. joined (take (first + i) out) (each f (map g ps))) (drop_all i xs low)
    ∙ joined_end f (take (first + i) out) ∙ ap (λ k. Ok (take (first + k) out)) last
