-- The pivot row and what stands on it.
use Rattle.std.proofs.Common.{◌≡◌, ℕ, suc, ◌+◌, ◌<◌, false, ℤ, pos, List, [], ◌∷◌, ◌++◌, length, take, drop, set, get_or, map, Result, Ok, Err, refl, sym, ap, subst, ◌∙◌, arith}
use Rattle.std.proofs.lemmas.List.{length-map, map-set, get_or-map, map-append, drop_at, take_at}
use Rattle.std.proofs.lemmas.List.Elements.{All-set, All-get_or, All-drop, All-take, All-append}
use Rattle.std.specs.List.{All, swap}
use Rattle.std.specs.Prelude.{unsigned_abs, nat_eq}
use Rattle.std.specs.Global.{Vec}
use Rattle.fix_core.specs.declared.NumFault.{NumFault}
use Rattle.lin_solve.specs.declared.LinFault.{LinFault}
use Rattle.lin_solve.specs.declared.LinFault.TheVariants.{Singular, Overflow}
use Rattle.lin_solve.specs.Entries.{items_of, IsRow}
use Rattle.lin_solve.specs.Elimination.{coefficient, pivot_place, reduced_all, unknown, by_pivot, unknowns, scaled_all, solution_of}

-- ---- one column, from what its parts gave

pub by_zero : (col : ℕ) (f : List (List ℤ) → Result (List ℤ) LinFault) (p : List ℤ) (rs : List (List ℤ)) → coefficient col p ≡ pos 0 → by_pivot col f (p ∷ rs) ≡ Err (Singular col)
by_zero col f p rs h = rw h refl

not_zero : (col : ℕ) (p : List ℤ) → 0 < unsigned_abs (coefficient col p) → nat_eq (unsigned_abs (coefficient col p)) 0 ≡ false
not_zero col p h = grind arith

pub by_no_reduction : (col : ℕ) (f : List (List ℤ) → Result (List ℤ) LinFault) (p : List ℤ) (rs : List (List ℤ)) (e : NumFault) → 0 < unsigned_abs (coefficient col p) → reduced_all col p rs ≡ Err e → by_pivot col f (p ∷ rs) ≡ Err Overflow
by_no_reduction col f p rs e h r = rw (not_zero col p h, r) refl

pub by_fault : (col : ℕ) (f : List (List ℤ) → Result (List ℤ) LinFault) (p : List ℤ) (rs ss : List (List ℤ)) (e : LinFault) → 0 < unsigned_abs (coefficient col p) → reduced_all col p rs ≡ Ok ss → f ss ≡ Err e → by_pivot col f (p ∷ rs) ≡ Err e
by_fault col f p rs ss e h r q = rw (not_zero col p h, r, q) refl

pub by_no_unknown : (col : ℕ) (f : List (List ℤ) → Result (List ℤ) LinFault) (p : List ℤ) (rs ss : List (List ℤ)) (xs : List ℤ) (e : NumFault) → 0 < unsigned_abs (coefficient col p) → reduced_all col p rs ≡ Ok ss → f ss ≡ Ok xs → unknown col p xs ≡ Err e → by_pivot col f (p ∷ rs) ≡ Err Overflow
by_no_unknown col f p rs ss xs e h r q u = rw (not_zero col p h, r, q, u) refl

pub by_unknowns : (col : ℕ) (f : List (List ℤ) → Result (List ℤ) LinFault) (p : List ℤ) (rs ss : List (List ℤ)) (xs : List ℤ) (x : ℤ) → 0 < unsigned_abs (coefficient col p) → reduced_all col p rs ≡ Ok ss → f ss ≡ Ok xs → unknown col p xs ≡ Ok x → by_pivot col f (p ∷ rs) ≡ Ok (x ∷ xs)
by_unknowns col f p rs ss xs x h r q u = rw (not_zero col p h, r, q, u) refl

-- ---- the swap

pub map-swap : {A B : Type 0} (f : A → B) (xs : List A) (i j : ℕ) → i < length xs → j < length xs → map f (swap xs i j) ≡ swap (map f xs) i j
map-swap f [] i j hi hj = refl
map-swap f (x ∷ xs) i j hi hj =
    let a = get_or (x ∷ xs) j x in
    let b = get_or (x ∷ xs) i x in
    map-set f (set (x ∷ xs) i a) j b ∙ ap (λ ys. set ys j (f b)) (map-set f (x ∷ xs) i a) ∙ rw (get_or-map f (x ∷ xs) j x (f x) hj, get_or-map f (x ∷ xs) i x (f x) hi) refl

pub All-swap : {A : Type 0} (P : A → Type 0) (xs : List A) (i j : ℕ) → i < length xs → j < length xs → All P xs → All P (swap xs i j)
All-swap P [] i j hi hj all = all
All-swap P (x ∷ xs) i j hi hj all =
    All-set P (set (x ∷ xs) i (get_or (x ∷ xs) j x)) j (get_or (x ∷ xs) i x) (All-get_or P (x ∷ xs) i x hi all) (All-set P (x ∷ xs) i (get_or (x ∷ xs) j x) (All-get_or P (x ∷ xs) j x hj all) all)

-- ---- the rows as the code parts them: the first one, which is the pivot row, and the others

pub start : (from : List (List ℤ)) (rows front others : List (Vec ℤ)) (d : Vec ℤ) (pivot : List ℤ) (col m : ℕ) → items_of rows ≡ swap from 0 (pivot_place col from) → rows ≡ front ++ others → length front ≡ 1 → pivot ≡ (get_or front 0 d).items → m ≡ length others + 1 → unknowns m col from ≡ by_pivot col (unknowns (length others) (col + 1)) (pivot ∷ items_of others)
unfolding unknowns
start from rows [] others d pivot col m e1 e2 one p count = absurd (omega arith)
start from rows (a ∷ b ∷ front) others d pivot col m e1 e2 one p count = absurd (omega arith)
start from rows (a ∷ []) others d pivot col m e1 e2 one p count =
    let more : m ≡ suc (length others) = omega arith in
    rw more (ap (by_pivot col (unknowns (length others) (col + 1))) (sym e1 ∙ ap items_of e2 ∙ ap (λ (z : List ℤ). z ∷ items_of others) (sym p)))

-- the rows of the parts
pub pivot_row : (rows front others : List (Vec ℤ)) (d : Vec ℤ) (pivot : List ℤ) (w : ℕ) → rows ≡ front ++ others → length front ≡ 1 → pivot ≡ (get_or front 0 d).items → All (IsRow w) (items_of rows) → length pivot ≡ w
pivot_row rows [] others d pivot w e one p all = absurd (omega arith)
pivot_row rows (a ∷ b ∷ front) others d pivot w e one p all = absurd (omega arith)
pivot_row rows (a ∷ []) others d pivot w e one p all =
    let here : All (IsRow w) (a.items ∷ items_of others) = rw e at all in
    ap length p ∙ (here 0 [] (omega arith)).long

pub other_rows : (rows front others : List (Vec ℤ)) (w : ℕ) → rows ≡ front ++ others → length front ≡ 1 → All (IsRow w) (items_of rows) → All (IsRow w) (items_of others)
other_rows rows front others w e one all =
    let parts : items_of rows ≡ items_of front ++ items_of others = ap items_of e ∙ map-append (λ (r : Vec ℤ). r.items) front others in
    let long : length (items_of front) ≡ 1 = length-map front (λ (r : Vec ℤ). r.items) ∙ one in
    let back : drop 1 (items_of rows) ≡ items_of others = ap (drop 1) parts ∙ drop_at (items_of front) (items_of others) 1 long in
    subst (All (IsRow w)) back (All-drop (IsRow w) 1 (items_of rows) all)

pub joined_rows : (rows front others news : List (Vec ℤ)) (w : ℕ) → rows ≡ front ++ others → length front ≡ 1 → All (IsRow w) (items_of rows) → All (IsRow w) (items_of news) → All (IsRow w) (items_of (front ++ news))
joined_rows rows front others news w e one all new =
    let parts : items_of rows ≡ items_of front ++ items_of others = ap items_of e ∙ map-append (λ (r : Vec ℤ). r.items) front others in
    let long : length (items_of front) ≡ 1 = length-map front (λ (r : Vec ℤ). r.items) ∙ one in
    let head : take 1 (items_of rows) ≡ items_of front = ap (take 1) parts ∙ take_at (items_of front) (items_of others) 1 long in
    let heads : All (IsRow w) (items_of front) = subst (All (IsRow w)) head (All-take (IsRow w) 1 (items_of rows) all) in
    rw (map-append (λ (r : Vec ℤ). r.items) front news) (All-append (IsRow w) (items_of front) (items_of news) heads new)

pub unknowns_none : (col : ℕ) (from : List (List ℤ)) (m : ℕ) → m ≡ 0 → unknowns m col from ≡ Ok []
unfolding unknowns
unknowns_none col from m e = rw e refl

pub solution_fails : (rows : List (List ℤ)) (e : NumFault) → scaled_all rows ≡ Err e → solution_of rows ≡ Err Overflow
unfolding solution_of
solution_fails rows e h = rw h refl

pub solution_is : (rows scaled : List (List ℤ)) (n : ℕ) → scaled_all rows ≡ Ok scaled → length rows ≡ n → solution_of rows ≡ unknowns n 0 scaled
unfolding solution_of
solution_is rows scaled n h e = rw (h, e) refl
